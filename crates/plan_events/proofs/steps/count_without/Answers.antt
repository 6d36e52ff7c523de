use Rattle.std.proofs.Common.{◌≡◌, ◌+◌, true, false, sym, ap, ◌∙◌, length, take, get_or, rules, arith}
use Rattle.std.proofs.lemmas.List.{length_push}
use Rattle.fleet_model.specs.Sites.{has_claim, without}
use Rattle.plan_events.proofs.Walked.{no_claim, without_left, without_taken}
use Rattle.plan_events.proofs.steps.count_without.Goals as goal
use Rattle.plan_events.proofs.steps.count_without.Goals.{then-not-contains, else-not-contains}

pub loop-claim-preserved : goal.loop-claim-preserved
loop-claim-preserved c =
    let claims = c.args.claims.now in
    let others = c.args.others.now in
    let i = c.loop-claim.claim-index in
    elim c.if-not-contains.branch [
      | then-not-contains w ↦ (
          let free : has_claim others (get_or claims i no_claim) ≡ false = sym c.contains.ensures.value ∙ search rules in
          let more : length (without (take (i + 1) claims) others) ≡ length (without (take i claims) others) + 1 = ap length (without_taken claims others i c.loop-claim-test.true free) ∙ length_push (without (take i claims) others) (get_or claims i no_claim) in
          record { counted = omega arith; few = omega arith }
          )
      | else-not-contains w ↦ (
          let there : has_claim others (get_or claims i no_claim) ≡ true = sym c.contains.ensures.value ∙ search rules in
          let same : length (without (take (i + 1) claims) others) ≡ length (without (take i claims) others) = ap length (without_left claims others i c.loop-claim-test.true there) in
          record { counted = omega arith; few = omega arith }
          )
    ]
