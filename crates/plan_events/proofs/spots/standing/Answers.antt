use Rattle.std.proofs.Common.{sym, ap, ◌∙◌, get_or, take, ◌==◌}
use Rattle.std.proofs.lemmas.List.Folds.{list_any_more}
use Rattle.std.specs.FinSet.{contains, contains-empty}
use Rattle.std.specs.Ordering.{nat_cmp}
use Rattle.fleet_base.specs.declared.numbers.ClaimNo.{ClaimNo}
use Rattle.plan_events.proofs.KeptSpots.{held_more}
use Rattle.plan_events.proofs.spots.standing.Goals as goal

abbrev no_claim : ClaimNo
no_claim = record { 0 = 0 }

pub loop-claim-init : goal.loop-claim-init
loop-claim-init c = λ d. ap (λ s. contains s d.0) c.new-held.ensures ∙ contains-empty nat_cmp d.0

pub loop-claim-preserved : goal.loop-claim-preserved
loop-claim-preserved c = λ d.
    let claims = c.list-claim-items.result.now in
    let place = c.loop-claim.claim-index in
    let claim = get_or claims place no_claim in
    ap (λ s. contains s d.0) c.insert.ensures
    ∙ (held_more c.loop-claim.held (take place claims) claim d (c.loop-claim.invariant d)
    ∙ sym (list_any_more (λ (e : ClaimNo). e.0 == d.0) claims place no_claim c.loop-claim-test.true))
