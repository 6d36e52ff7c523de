use Rattle.std.proofs.Common.{◌≡◌, map}
use Rattle.fleet_model.specs.Lists.{numbers_below}
use Rattle.mission_model.specs.Outcomes.{outcome_of}
use Rattle.coordinator.specs.Books.{opening_of}
use Rattle.fleet_outcomes.specs.Fleets.{missions_in}
use Rattle.fleet_outcomes.proofs.outcomes.outcomes.Given as goal

abbrev pub invariant-loop-number : goal.invariant-loop-number
invariant-loop-number l = l.all.items ≡ map (outcome_of (missions_in l.fleet l.missions) (opening_of l.fleet) l.fleet.journal) (numbers_below l.number)
