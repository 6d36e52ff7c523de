use Rattle.std.proofs.Common.{◌≡◌, ℕ, Bool, not, ◌&&◌, ◌==◌, inl, inr, sym, ap, ◌∙◌, length, arith, eq-eqb, Some}
use Rattle.std.proofs.lemmas.Bool.{and_from, and_left, and_right, cases_lt, ne_eqb, not_from_false, not_from_true}
use Rattle.std.proofs.lemmas.Option.{slice_get-get_or}
use Rattle.site_map.specs.Claims.{site_of}
use Rattle.plan_events.specs.Clashes.{holds_against}
use Rattle.plan_events.specs.Spots.{shown_at, spot_of}
use Rattle.plan_events.proofs.Finding.{first_below, none_below}
use Rattle.plan_events.proofs.clash.least_holder.Goals as goal
use Rattle.plan_events.proofs.clash.least_holder.Goals.{else-place-robot-via-then-place-robot+else-holds_against, else-place-robot-via-else-place-robot}

pub returns-then-holds_against : goal.returns-then-holds_against
returns-then-holds_against c =
    let site = site_of c.args.site.now in
    let spots = c.args.spots.now in
    let r = c.args.robot.0 in
    let place = c.loop-place.place in
    let passes : ℕ → Bool = λ q. not (q == r) && holds_against site (spot_of spots q) c.args.claim in
    let at = ap shown_at (slice_get-get_or spots place c.index-spots-place.result c.loop-place-test.true ∙ ap (λ s. Some s) (sym c.index-spots-place.is)) in
    let holds = ap (λ s. holds_against site s c.args.claim) at ∙ (sym c.holds_against.ensures ∙ c.if-holds_against.true) in
    sym (first_below passes (length spots) place c.loop-place.invariant c.loop-place-test.true
    (and_from (not (place == r)) (holds_against site (spot_of spots place) c.args.claim) (not_from_false (place == r) (ne_eqb place r c.if-place-robot.true)) holds))

pub loop-place-preserved : goal.loop-place-preserved
loop-place-preserved c = λ q l.
    let site = site_of c.args.site.now in
    let spots = c.args.spots.now in
    let r = c.args.robot.0 in
    let place = c.loop-place.place in
    let passes : ℕ → Bool = λ q. not (q == r) && holds_against site (spot_of spots q) c.args.claim in
    elim (cases_lt q place) [
      | inl before ↦ c.loop-place.invariant q before
      | inr here ↦
          let same : q ≡ place = omega arith in
          ap passes same ∙ elim c.else-place-robot.branch [
            | else-place-robot-via-then-place-robot+else-holds_against w ↦
                let at = ap shown_at (slice_get-get_or spots place c.index-spots-place.result c.loop-place-test.true ∙ ap (λ s. Some s) (sym c.index-spots-place.is)) in
                and_right (not (place == r)) (holds_against site (spot_of spots place) c.args.claim) (ap (λ s. holds_against site s c.args.claim) at ∙ (sym w.holds_against.ensures ∙ w.if-holds_against.false))
            | else-place-robot-via-else-place-robot w ↦ and_left (not (place == r)) (holds_against site (spot_of spots place) c.args.claim) (not_from_true (place == r) (eq-eqb place r (omega (arith, w.if-place-robot.false))))
          ]
    ]

pub returns : goal.returns
returns c =
    let site = site_of c.args.site.now in
    let spots = c.args.spots.now in
    sym (none_below (λ q. not (q == c.args.robot.0) && holds_against site (spot_of spots q) c.args.claim) (length spots) (λ q l. c.loop-place.invariant q (omega arith)))
