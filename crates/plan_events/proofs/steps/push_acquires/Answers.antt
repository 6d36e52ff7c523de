use Rattle.std.proofs.Common.{◌≡◌, true, false, sym, ap, ◌∙◌, ◌++◌, [], ◌∷◌, map, take, get_or, append_assoc, rules}
use Rattle.std.proofs.lemmas.List.{map_push}
use Rattle.fleet_base.specs.declared.numbers.ClaimNo.{ClaimNo}
use Rattle.fleet_base.specs.declared.numbers.Kind.{Kind}
use Rattle.fleet_base.specs.declared.numbers.Kind.TheVariants.{Acquire}
use Rattle.fleet_model.specs.Sites.{has_claim, without}
use Rattle.plan_events.proofs.Walked.{no_claim, without_left, without_taken}
use Rattle.plan_events.proofs.steps.push_acquires.Goals as goal
use Rattle.plan_events.proofs.steps.push_acquires.Goals.{then-not-contains+in_ok-push, else-not-contains}

pub loop-claim-preserved : goal.loop-claim-preserved
loop-claim-preserved c =
    let claims = c.args.claims.now in
    let held = c.args.held.now in
    let i = c.loop-claim.claim-index in
    let claim = get_or claims i no_claim in
    let front = c.args.kinds.now.items in
    let kind : ClaimNo → Kind = λ d. Acquire d in
    elim c.if-not-contains.branch [
      | then-not-contains+in_ok-push w ↦ (
          let free : has_claim held claim ≡ false = sym c.contains.ensures.value ∙ search rules in
          ap (λ v. v.items) w.kinds-is
          ∙ w.in_ok-push.ensures.items
          ∙ ap (λ ks. ks ++ kind claim ∷ []) c.loop-claim.invariant
          ∙ append_assoc front (map kind (without (take i claims) held)) (kind claim ∷ [])
          ∙ ap (λ ks. front ++ ks) (sym (map_push kind (without (take i claims) held) claim))
          ∙ ap (λ cs. front ++ map kind cs) (sym (without_taken claims held i c.loop-claim-test.true free))
          )
      | else-not-contains w ↦ (
          let there : has_claim held claim ≡ true = sym c.contains.ensures.value ∙ search rules in
          ap (λ v. v.items) w.kinds-is ∙ c.loop-claim.invariant ∙ ap (λ cs. front ++ map kind cs) (sym (without_left claims held i c.loop-claim-test.true there))
          )
    ]
