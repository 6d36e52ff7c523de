use Rattle.std.proofs.Common.{◌≡◌, ◌∷◌, ◌-◌, ◌∙◌, sym, subst, refl, take, drop, List, ℕ, true, false, arith}
use Rattle.std.proofs.lemmas.Bool.{both_ways}
use Rattle.fleet_base.specs.EdgeSets.{leads}
use Rattle.fleet_base.specs.Lists.{numbers_of}
use Rattle.fleet_model.specs.Cycles.{is_cycle}
use Rattle.cycle_cert.specs.Members.{leads_known}
use Rattle.cycle_cert.proofs.Checks.{IsChecked, drop_at, rest_at, split_at, checked_more, checked_cycle, cycle_leads, cycle_apart}
use Rattle.cycle_cert.proofs.checker.check_cycle.Goals as goal
use Rattle.cycle_cert.proofs.checker.check_cycle.Goals.{then-not-leads_on-via-then-not-leads_on, then-not-leads_on-via-else-not-leads_on+then-has}

pub returns-then-not-leads_on : goal.returns-then-not-leads_on
returns-then-not-leads_on c =
    let xs : List ℕ = numbers_of c.args.cycle.now in
    let begins : xs ≡ c.in-Some.first.0 ∷ drop 1 xs = drop_at c.args.cycle.now 0 c.in-Some.first (sym c.get.ensures ∙ c.in-Some.is) in
    let split = split_at c.args.cycle.now c.loop-place.place c.in-Some-get.robot c.loop-place-test.true (sym c.get-in-loop-place.ensures ∙ c.in-Some-get.is) in
    elim c.then-not-leads_on.branch [
      | then-not-leads_on-via-then-not-leads_on w ↦ (
        λ h. absurd (both_ways false refl h),
        λ r. absurd (both_ways (leads_known c.args.edges.now c.in-Some-get.robot.0 c.loop-place.next.0) (sym c.leads_on.ensures ∙ w.if-not-leads_on.true)
            (cycle_leads c.args.edges.now r.0 c.in-Some.first.0 c.loop-place.next.0 c.loop-place.seen c.in-Some-get.robot.0 (take (c.loop-place.place - 1) xs) (drop c.loop-place.place xs) xs (drop 1 xs) split begins r.1 c.loop-place.invariant.1)),
      )
      | then-not-leads_on-via-else-not-leads_on+then-has w ↦ (
        λ h. absurd (both_ways false refl h),
        λ r. absurd (cycle_apart c.args.edges.now r.0 c.in-Some.first.0 c.loop-place.next.0 c.loop-place.seen c.in-Some-get.robot.0 (take (c.loop-place.place - 1) xs) (drop c.loop-place.place xs) xs split r.1 c.loop-place.invariant.1 (sym w.has.ensures ∙ w.if-has.true)),
      )
    ]

pub loop-place-preserved : goal.loop-place-preserved
loop-place-preserved c = (
  omega arith,
  subst (λ rest. IsChecked (leads_known c.args.edges.now) c.in-Some.first.0 c.in-Some-get.robot.0 c.with-seen.result rest)
      (sym (rest_at c.args.cycle.now c.loop-place.place c.in-Some-get.robot c.loop-place-test.true (sym c.get-in-loop-place.ensures ∙ c.in-Some-get.is)))
      (checked_more (leads_known c.args.edges.now) c.in-Some.first.0 c.loop-place.next.0 c.loop-place.seen c.with-seen.result c.in-Some-get.robot.0 (drop c.loop-place.place (numbers_of c.args.cycle.now)) (sym c.leads_on.ensures ∙ c.if-not-leads_on.false) (sym c.has.ensures ∙ c.if-has.false) c.with-seen.ensures c.loop-place.invariant.1),
)

pub returns : goal.returns
returns c =
    let xs : List ℕ = numbers_of c.args.cycle.now in
    let begins : xs ≡ c.in-Some.first.0 ∷ drop 1 xs = drop_at c.args.cycle.now 0 c.in-Some.first (sym c.get.ensures ∙ c.in-Some.is) in
    let none : c.loop-place.place ≡ 0 = omega arith in
    let checked = subst (λ k. IsChecked (leads_known c.args.edges.now) c.in-Some.first.0 c.loop-place.next.0 c.loop-place.seen (drop k xs)) none c.loop-place.invariant.1 in (
      λ h. (
        c.in-Some.first.0,
        subst (λ ys. is_cycle (leads c.args.edges.now) c.in-Some.first.0 ys ≡ true) (sym begins)
            (checked_cycle c.args.edges.now c.in-Some.first.0 c.loop-place.next.0 c.loop-place.seen (drop 1 xs) (subst (λ ys. IsChecked (leads_known c.args.edges.now) c.in-Some.first.0 c.loop-place.next.0 c.loop-place.seen ys) begins checked)),
      ),
      λ r. refl,
    )
