use Rattle.coordinator.proofs.CyclesShown.{cycle_shown}
use Rattle.coordinator.proofs.tables.Tables.block.Goals as goal

pub returns : goal.returns
returns c = λ s shows good.
    let is = cycle_shown c.args.self.now s shows good c.edges.result.now c.edges.ensures c.args.robot.0 c.cycle_through.result c.cycle_through.ensures.found in
    λ i. record { claim = c.args.blocker.claim; by = c.args.blocker.by; cycle = is i }
