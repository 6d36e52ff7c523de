use Rattle.std.proofs.Common.{◌≡◌, ℕ, ◌-◌, ◌<◌, [], length, Some}
use Rattle.std.specs.Option.{option_map}
use Rattle.fleet_base.specs.Lists.{numbers_of, robots_of}
use Rattle.fleet_base.specs.declared.numbers.RobotNo.{RobotNo}
use Rattle.mission_model.specs.Outcomes.{blockers_on}
use Rattle.coordinator.specs.Books.{state_of}
use Rattle.fleet_outcomes.proofs.outcomes.blockers_from.Given as goal

abbrev pub invariant-loop : goal.invariant-loop
invariant-loop l = record {
  same : robots_of (blockers_on (state_of l.fleet) (length (state_of l.fleet).fleet.starts) [] (option_map (λ (q : RobotNo). q.0) l.fn.first)) ≡ robots_of (blockers_on (state_of l.fleet) (length (state_of l.fleet).fleet.starts - l.counter) (numbers_of l.robots) (option_map (λ (q : RobotNo). q.0) l.next));
  long : length l.robots ≡ l.counter;
  known : (q : ℕ) → option_map (λ (p : RobotNo). p.0) l.next ≡ Some q → q < length l.fleet.starts;
}
