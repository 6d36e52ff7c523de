-- When two scenarios are the same.
use Rattle.std.specs.Prelude.{◌≡◌}
use Rattle.fleet_names.specs.declared.thing.Thing.{Thing}
use Rattle.fleet_names.specs.Names.{name_of}
use Rattle.scenario.specs.Scenarios.{ScenarioValue}

-- the same site, starts and missions, and each thing has the same name; the names may stand in another order
pub record IsSame (s t : ScenarioValue) : Type 0 where
  pub site : t.site ≡ s.site
  pub names : (thing : Thing) → name_of t.names thing ≡ name_of s.names thing
  pub starts : t.starts ≡ s.starts
  pub missions : t.missions ≡ s.missions
