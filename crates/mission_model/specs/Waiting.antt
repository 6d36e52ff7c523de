-- Robots that wait for an event of another.
use Rattle.std.specs.Prelude.{◌≡◌, ℕ, Some}
use Rattle.fleet_base.specs.declared.numbers.Event.{Event}
use Rattle.fleet_base.specs.declared.numbers.EventNo.{EventNo}
use Rattle.fleet_model.specs.Lists.{In}
use Rattle.fleet_model.specs.Plans.{Fleet, awaited}
use Rattle.fleet_model.specs.Calls.{next_event}

-- robot q's next event waits for the release of this number, maybe for others too
pub record WaitsFor (m : Fleet) (q : ℕ) (on : EventNo) : Type 0 where
  pub event : Event
  pub next : next_event m q ≡ Some event
  pub release : Event
  pub awaited : In release (awaited m event)
  pub number : release.no ≡ on
