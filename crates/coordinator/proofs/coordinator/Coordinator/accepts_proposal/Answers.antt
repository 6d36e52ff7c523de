use Rattle.std.proofs.Common.{◌≡◌, ◌+◌, Some, None, Ok, length, not, ap, sym, subst, ◌∙◌}
use Rattle.std.specs.Option.{option_map}
use Rattle.fleet_base.specs.Blockers.{pair_of}
use Rattle.fleet_model.specs.Sites.{needs, steps}
use Rattle.fleet_model.specs.States.{block_of, is_full}
use Rattle.fleet_model.specs.Calls.{deferring}
use Rattle.site_map.specs.Claims.{site_of}
use Rattle.coordinator.specs.Books.{Book, state_of}
use Rattle.coordinator.specs.Proposals.{block_with, early_cause, refused_or}
use Rattle.coordinator.proofs.KeptNext.{state}
use Rattle.coordinator.proofs.PendingRoutes.{block_made, ends_same, ends_shown}
use Rattle.coordinator.proofs.Proposed.{accepted_by}
use Rattle.coordinator.proofs.Proposing.{passed}
use Rattle.coordinator.proofs.coordinator.Coordinator.accepts_proposal.Goals as goal

pub returns-in-None : goal.returns-in-None
returns-in-None c =
    let i = c.self.inside in
    let k = c.self.invariant in
    let r = c.args.robot.0 in
    let cells = c.args.cells.now in
    let now = c.args.self.now in
    let early = passed (early_cause (state_of now) r cells) c.in-Ok.events (length (steps (site_of now.site) cells)) c.in-Ok.ensures.answer in
    let site = subst (λ (b : Book). (state_of b).fleet.site ≡ site_of b.site) c.self.view_is k.state.site in
    let told_count : Ok c.in-Ok.events ≡ Ok (length (steps (site_of now.site) cells)) = c.in-Ok.ensures.answer ∙ ap (λ o. refused_or o (length (steps (site_of now.site) cells))) early in
    let count : c.in-Ok.events ≡ length (steps (site_of now.site) cells) = cc in
    let told = ap (option_map pair_of) (sym c.in-None.is) ∙ c.blocker.ensures i.site (needs (site_of i.site) cells) (ends_shown i k) c.needs-needed.ensures in
    let free = subst (λ (b : Book). block_of (deferring (state_of b) r cells) r cells ≡ None) c.self.view_is
    (block_made i k (deferring (state i k) r cells) r cells None k.state.site (ends_same i k) told) in
    ap (λ b. not b) (c.is_full.ensures ∙ ap (λ n. is_full (state_of now) (1 + n)) (count ∙ ap (λ z. length (steps z cells)) (sym site)))
    ∙ accepted_by (state_of now) r cells None early free

pub returns-in-Some : goal.returns-in-Some
returns-in-Some c =
    let i = c.self.inside in
    let k = c.self.invariant in
    let r = c.args.robot.0 in
    let cells = c.args.cells.now in
    let now = c.args.self.now in
    let early = passed (early_cause (state_of now) r cells) c.in-Ok.events (length (steps (site_of now.site) cells)) c.in-Ok.ensures.answer in
    let told = ap (option_map pair_of) (sym c.in-Some.is) ∙ c.blocker.ensures i.site (needs (site_of i.site) cells) (ends_shown i k) c.needs-needed.ensures in
    let blocked = subst (λ (b : Book). block_of (deferring (state_of b) r cells) r cells ≡ Some (block_with (deferring (state_of b) r cells) r c.in-Some.field-0)) c.self.view_is
    (block_made i k (deferring (state i k) r cells) r cells (Some c.in-Some.field-0) k.state.site (ends_same i k) told) in
    ap (λ b. not b) c.is_full-in-Some.ensures ∙ accepted_by (state_of now) r cells (Some (block_with (deferring (state_of now) r cells) r c.in-Some.field-0)) early blocked
