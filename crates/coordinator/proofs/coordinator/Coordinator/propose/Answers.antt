use Rattle.std.proofs.Common.{◌≡◌, Some, None, length, ap, sym, subst, ◌∙◌}
use Rattle.std.specs.Option.{option_map}
use Rattle.fleet_model.specs.Sites.{needs, steps}
use Rattle.fleet_model.specs.States.{block_of}
use Rattle.fleet_model.specs.Calls.{deferring}
use Rattle.fleet_base.specs.Blockers.{pair_of}
use Rattle.fleet_base.specs.ClaimSets.{IsSetOf}
use Rattle.site_map.specs.Claims.{site_of}
use Rattle.coordinator.specs.Books.{Book, state_of}
use Rattle.coordinator.specs.Proposals.{block_with, early_cause}
use Rattle.coordinator.proofs.KeptNext.{state}
use Rattle.coordinator.proofs.PendingRoutes.{block_made, ends_same, ends_shown}
use Rattle.coordinator.proofs.Proposing.{passed}
use Rattle.coordinator.proofs.coordinator.Coordinator.propose.Goals as goal

pub merge_proposal-requires-clause-free : goal.merge_proposal-requires-clause-free
merge_proposal-requires-clause-free c =
    let i = c.self.inside in
    let k = c.self.invariant in
    let r = c.args.robot.0 in
    let cells = c.args.cells.now in
    let told = ap (option_map pair_of) (sym c.in-None.is) ∙ c.blocker.ensures i.site (needs (site_of i.site) cells) (ends_shown i k) c.needs-needed.ensures in
    subst (λ (b : Book). block_of (deferring (state_of b) r cells) r cells ≡ None) c.self.view_is
    (block_made i k (deferring (state i k) r cells) r cells None k.state.site (ends_same i k) told)

pub defer_proposal-requires : goal.defer_proposal-requires
defer_proposal-requires c =
    let i = c.self.inside in
    let k = c.self.invariant in
    let r = c.args.robot.0 in
    let cells = c.args.cells.now in
    let told = ap (option_map pair_of) (sym c.in-Some.is) ∙ c.blocker.ensures i.site (needs (site_of i.site) cells) (ends_shown i k) c.needs-needed.ensures in
    record {
      early = passed (early_cause (state_of c.args.self.now) r cells) c.in_ok-events.events (length (steps (site_of c.args.self.now.site) cells)) c.in_ok-events.ensures.answer;
      needs = subst (λ (b : Book). IsSetOf c.needs-needed.result (needs (site_of b.site) cells)) c.self.view_is c.needs-needed.ensures;
      blocked = subst (λ (b : Book). block_of (deferring (state_of b) r cells) r cells ≡ Some (block_with (deferring (state_of b) r cells) r c.in-Some.blocker)) c.self.view_is
          (block_made i k (deferring (state i k) r cells) r cells (Some c.in-Some.blocker) k.state.site (ends_same i k) told);
    }
