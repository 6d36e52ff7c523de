-- Where a reader of a scenario is between two lines.
use Rattle.std.specs.Prelude.{ℕ, Bool, List, [], Option, map}
use Rattle.std.specs.Option.{unwrap_or}
use Rattle.fleet_base.specs.declared.numbers.CellNo.{CellNo}
use Rattle.fleet_names.specs.Names.{Named}
use Rattle.site_map.specs.Built.{BuiltSite, no_site}
use Rattle.site_map.specs.declared.goal.Goal.{Goal}
use Rattle.scenario.specs.Scenarios.{ScenarioValue}

-- what the lines so far declare; a robot has a mission once it is closed
pub record Declared : Type 0 where
  pub site : BuiltSite
  pub names : Named
  pub starts : List CellNo
  pub missions : List (Option (List Goal))

abbrev pub nothing_declared : Declared
nothing_declared = record { site = no_site; names = []; starts = []; missions = [] }

-- an open block: how often it stands, and the legs before it of the block or mission around it
pub record Block : Type 0 where
  pub times : ℕ
  pub before : List Goal

-- an open mission: its robot, the legs so far of the innermost open block, or of the mission where none is open, and the open blocks from the outermost on
pub record Mission : Type 0 where
  pub robot : ℕ
  pub legs : List Goal
  pub blocks : List Block

-- before the header; among the site lines, with or without flows; among robots and missions; in a mission; behind the end
pub data State : Type 0 where
  AtHeader : State
  AmongSite : Bool → Declared → State
  AmongRobots : Declared → State
  InMission : Declared → Mission → State
  Ended : Declared → State

-- the scenario that was declared: a robot without a mission has no legs
abbrev pub scenario_in : Declared → ScenarioValue
scenario_in d = record { site = d.site; names = d.names; starts = d.starts; missions = map (λ m. unwrap_or m []) d.missions }
