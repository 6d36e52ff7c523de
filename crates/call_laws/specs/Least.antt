-- What safe insertions of a route allow.
use Rattle.std.specs.Prelude.{ℕ, List}
use Rattle.fleet_base.specs.declared.numbers.CellNo.{CellNo}
use Rattle.fleet_base.specs.declared.numbers.Event.{Event}
use Rattle.fleet_model.specs.Plans.{Insertion, IsAllowedBy, IsInsertion, IsSafeInsertion, route_events}
use Rattle.fleet_model.specs.States.{State}

-- some safe insertion of robot r's route allows this order
pub record AllowedSafely (s : State) (r : ℕ) (route : List CellNo) (order : List Event) : Type 0 where
  pub pairs : Insertion
  pub insertion : IsInsertion s.fleet (route_events s.fleet r route) pairs
  pub safe : IsSafeInsertion s.fleet (route_events s.fleet r route) pairs
  pub allowed : IsAllowedBy s.fleet (route_events s.fleet r route) pairs order
