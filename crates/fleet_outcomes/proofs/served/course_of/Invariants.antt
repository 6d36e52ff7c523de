use Rattle.coordinator.specs.Books.{opening_of}
use Rattle.fleet_outcomes.proofs.Following.{IsAt}
use Rattle.fleet_outcomes.proofs.served.course_of.Given as goal

abbrev pub invariant-loop-entry : goal.invariant-loop-entry
invariant-loop-entry l = IsAt (opening_of l.fleet) l.fleet.journal l.robot.0 l.entry-index l.course
