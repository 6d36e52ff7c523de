use Rattle.std.proofs.Common.{◌≡◌, true, false, ap, ◌∙◌, ◌==◌, ◌||◌, sym, take, get_or, rules, arith}
use Rattle.std.proofs.lemmas.List.{take_all}
use Rattle.std.specs.Cmp.{nat_cmp_total, unsigned_tied}
use Rattle.std.specs.FinSet.{contains, contains-insert}
use Rattle.fleet_model.specs.Sites.{has_claim, without}
use Rattle.plan_events.proofs.Walked.{has_claim-push, no_claim, without_left, without_taken}
use Rattle.plan_events.proofs.expansion.put_without.Goals as goal
use Rattle.plan_events.proofs.expansion.put_without.Goals.{then-not-contains, else-not-contains}

pub loop-claim-preserved : goal.loop-claim-preserved
loop-claim-preserved c = λ k.
    let claims = c.args.claims.now in
    let held = c.args.held.now in
    let i = c.loop-claim.claim-index in
    let claim = get_or claims i no_claim in
    let old = contains c.args.found.now k.0 in
    elim c.if-not-contains.branch [
      | then-not-contains w ↦ (
          let free : has_claim held claim ≡ false = sym c.contains.ensures.value ∙ search rules in
          ap (λ s. contains s k.0) w.found-is
          ∙ ap (λ s. contains s k.0) w.put.ensures
          ∙ contains-insert nat_cmp_total c.loop-claim.found claim.0 k.0
          ∙ ap (λ t. t || contains c.loop-claim.found k.0) (unsigned_tied k.0 claim.0)
          ∙ ap (λ t. (k.0 == claim.0) || t) (c.loop-claim.invariant k)
          ∙ has_claim-push (without (take i claims) held) claim k old
          ∙ ap (λ cs. has_claim cs k || old) (sym (without_taken claims held i c.loop-claim-test.true free))
          )
      | else-not-contains w ↦ (
          let there : has_claim held claim ≡ true = sym c.contains.ensures.value ∙ search rules in
          ap (λ s. contains s k.0) w.found-is ∙ c.loop-claim.invariant k ∙ ap (λ cs. has_claim cs k || old) (sym (without_left claims held i c.loop-claim-test.true there))
          )
    ]

pub returns : goal.returns
returns c = λ k. c.loop-claim.invariant k ∙ ap (λ cs. has_claim (without cs c.args.held.now) k || contains c.args.found.now k.0) (take_all c.loop-claim.claim-index c.args.claims.now (omega arith))
