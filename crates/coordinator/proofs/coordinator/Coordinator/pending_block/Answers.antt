use Rattle.std.proofs.Common.{◌≡◌, Some, None, ap, sym, subst, ◌∙◌}
use Rattle.std.proofs.lemmas.Option.{same_Some}
use Rattle.std.specs.Option.{option_map}
use Rattle.fleet_model.specs.Sites.{needs}
use Rattle.fleet_base.specs.Blockers.{pair_of}
use Rattle.fleet_model.specs.States.{block_of, pending_of}
use Rattle.site_map.specs.Claims.{site_of}
use Rattle.coordinator.specs.Books.{Book, state_of}
use Rattle.coordinator.proofs.KeptNext.{good, state}
use Rattle.coordinator.proofs.PendingRoutes.{block_made, ends_same, ends_shown, legal, shape_is, waits}
use Rattle.coordinator.proofs.coordinator.Coordinator.pending_block.Goals as goal

pub needs-needed-requires : goal.needs-needed-requires
needs-needed-requires c =
    let i = c.self.inside in
    let k = c.self.invariant in
    let r = c.args.robot.0 in
    shape_is i k r c.in_ok-cells.cells.now (legal i k r c.in_ok-cells.cells.now (waits i k r c.in_ok-cells.cells.now c.in_ok-cells.ensures))

pub returns-in_err-blocker : goal.returns-in_err-blocker
returns-in_err-blocker c = λ route pending.
    let i = c.self.inside in
    let k = c.self.invariant in
    let cells = c.in_ok-cells.cells.now in
    let known = waits i k c.args.robot.0 cells c.in_ok-cells.ensures in
    let told : c.blocker.result ≡ None = c.in_err-blocker.was in
    let made_is = block_made i k (state i k) c.args.robot.0 cells (None) k.state.site (ends_same i k) (ap (option_map pair_of) (sym told) ∙ c.blocker.ensures i.site (needs (site_of i.site) cells) (ends_shown i k) c.needs-needed.ensures) in
    let same = sym (same_Some cells route (sym known ∙ subst (λ (b : Book). pending_of (state_of b) c.args.robot.0 ≡ Some route) (sym c.self.view_is) pending)) in
    c.from_residual-in_err-blocker.ensures
    ∙ sym (subst (λ (b : Book). block_of (state_of b) c.args.robot.0 route ≡ None) c.self.view_is (ap (block_of (state i k) c.args.robot.0) same ∙ made_is))

pub returns : goal.returns
returns c = λ route pending.
    let i = c.self.inside in
    let k = c.self.invariant in
    let cells = c.in_ok-cells.cells.now in
    let known = waits i k c.args.robot.0 cells c.in_ok-cells.ensures in
    let told : c.blocker.result ≡ Some c.in_ok-blocker.blocker = c.in_ok-blocker.was in
    let made_is = block_made i k (state i k) c.args.robot.0 cells (Some c.in_ok-blocker.blocker) k.state.site (ends_same i k) (ap (option_map pair_of) (sym told) ∙ c.blocker.ensures i.site (needs (site_of i.site) cells) (ends_shown i k) c.needs-needed.ensures) in
    let same = sym (same_Some cells route (sym known ∙ subst (λ (b : Book). pending_of (state_of b) c.args.robot.0 ≡ Some route) (sym c.self.view_is) pending)) in
    sym (subst (λ (b : Book). block_of (state_of b) c.args.robot.0 route ≡ Some c.block.result) c.self.view_is
    (ap (block_of (state i k) c.args.robot.0) same ∙ made_is ∙ ap (λ b. Some b) (sym (c.block.ensures (state i k) k.tables (good i k)))))
