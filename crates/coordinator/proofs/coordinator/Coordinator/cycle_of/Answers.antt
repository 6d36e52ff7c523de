use Rattle.std.proofs.Common.{◌≡◌, subst}
use Rattle.fleet_base.specs.Lists.{robots_of}
use Rattle.fleet_model.specs.States.{cycle_of}
use Rattle.coordinator.specs.Books.{Book, state_of}
use Rattle.coordinator.proofs.CyclesShown.{cycle_shown}
use Rattle.coordinator.proofs.KeptNext.{good, state}
use Rattle.coordinator.proofs.coordinator.Coordinator.cycle_of.Goals as goal

pub returns : goal.returns
returns c =
    let i = c.self.inside in
    let k = c.self.invariant in
    subst (λ (b : Book). c.cycle_through.result ≡ robots_of (cycle_of (state_of b) c.args.robot.0)) c.self.view_is
    (cycle_shown i.tables (state i k) k.tables (good i k) c.edges.result.now c.edges.ensures c.args.robot.0 c.cycle_through.result c.cycle_through.ensures.found)
