use Rattle.fleet_calls.specs.Calls.{call_of}
use Rattle.fleet_model.specs.Calls.{turn}
use Rattle.coordinator.specs.Books.{state_of}
use Rattle.fleet_sim.proofs.Acting.{grew}
use Rattle.fleet_sim.proofs.going.make.Goals as goal

pub returns-in-Ok-clause-went : goal.returns-in-Ok-clause-went
returns-in-Ok-clause-went c = record {
  adds = c.in-Ok.ensures.book;
  told = grew (turn (state_of c.args.fleet.now) c.args.robot.0 (call_of c.args.fleet.now.site c.args.request.now)).entry c.args.fleet.now c.call.new.self c.entry_count-before.result c.entry_count-after.result c.entry_count-before.ensures c.entry_count-after.ensures c.in-Ok.ensures.book;
}
