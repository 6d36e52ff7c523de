use Rattle.std.proofs.Common.{drop}
use Rattle.fleet_model.specs.Plans.{IsAllowed}
use Rattle.coordinator.specs.Books.{state_of}
use Rattle.coordinator_tests.proofs.book_laws_calls.report_all.Given as goal

abbrev pub invariant-loop-event : goal.invariant-loop-event
invariant-loop-event l = IsAllowed (state_of l.fleet).fleet (drop l.event-index l.order)
