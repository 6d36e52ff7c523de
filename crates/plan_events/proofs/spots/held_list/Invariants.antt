use Rattle.std.proofs.Common.{◌≡◌, map}
use Rattle.std.specs.List.{filter}
use Rattle.fleet_model.specs.Lists.{numbers_below}
use Rattle.plan_events.specs.Spots.{shown}
use Rattle.plan_events.proofs.spots.held_list.Given as goal

abbrev pub invariant-loop-number : goal.invariant-loop-number
invariant-loop-number l = l.claims.items ≡ filter (shown l.spot).holds (map (λ n. record { 0 = n }) (numbers_below l.number))
