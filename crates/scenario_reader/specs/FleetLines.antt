-- What the lines of robots and of the end declare, and when they are bad. The words are those behind the keyword.
use Rattle.std.specs.Prelude.{ℕ, ◌==◌, not, nat_le, List, [], ◌∷◌, ◌++◌, length, slice_index_or, Option, Some, None, Result}
use Rattle.std.specs.List.{list_all, list_any}
use Rattle.std.specs.Option.{is_some, unwrap_or}
use Rattle.fleet_base.specs.declared.limits.TheConstants.{MAX_ROBOTS}
use Rattle.fleet_names.specs.declared.thing.Thing.{Thing}
use Rattle.fleet_names.specs.declared.thing.Thing.TheVariants as things
use Rattle.fleet_names.specs.Names.{Named, count_of, is_name, thing_of}
use Rattle.fleet_names.specs.Things.{is_robot}
use Rattle.site_lines.specs.declared.fault.Code.{Code}
use Rattle.site_lines.specs.declared.fault.Code.TheVariants.{S7, S10, S11, S13, S16, S17, S20}
use Rattle.site_lines.specs.Readings.{Row}
use Rattle.scenario.specs.Scenarios.{do_conflict}
use Rattle.scenario_reader.specs.SiteLines.{cell_at, cell_named, is_taken, with_name}
use Rattle.scenario_reader.specs.States.{Declared, Mission}
use Rattle.scenario_reader.specs.Tables.{few, judged, many, row, word}

-- the number of a robot; None of another thing
abbrev pub as_robot : Option Thing → Option ℕ
as_robot None = None
as_robot (Some (things.Cell n)) = None
as_robot (Some (things.Crossing n)) = None
as_robot (Some (things.Area n)) = None
as_robot (Some (things.Robot n)) = Some n

-- the robot that a name names
abbrev pub robot_named : Named → List ℕ → Option ℕ
robot_named names name = as_robot (thing_of names name)

-- the faults of a new robot
abbrev pub robot_rows : Declared → List (List ℕ) → List Row
robot_rows d words =
    few 2 words
    ∷ many 2 words
    ∷ row (not (list_all is_name words)) S7
    ∷ row (is_taken d.names (word words 0)) S10
    ∷ row (not (is_some (cell_named d.names (word words 1)))) S11
    ∷ row (nat_le MAX_ROBOTS (length d.starts)) S13
    ∷ row (list_any (λ earlier. do_conflict d.site earlier (cell_at d.names (word words 1))) d.starts) S16
    ∷ []

-- `robot NAME CELL`
abbrev pub robot_line : Declared → List (List ℕ) → Result Declared Code
robot_line d words = judged (robot_rows d words) (record d {
  names = with_name d.names (word words 0) (things.Robot (count_of is_robot d.names));
  starts = d.starts ++ cell_at d.names (word words 1) ∷ [];
  missions = d.missions ++ None ∷ [];
})

-- the number that a word names as a robot; 0 where it names none
abbrev pub robot_at : Named → List ℕ → ℕ
robot_at names name = unwrap_or (robot_named names name) 0

-- the faults of a mission that is opened
abbrev pub mission_rows : Declared → List (List ℕ) → List Row
mission_rows d words =
    few 1 words
    ∷ many 1 words
    ∷ row (not (list_all is_name words)) S7
    ∷ row (not (is_some (robot_named d.names (word words 0)))) S11
    ∷ row (is_some (slice_index_or d.missions (robot_at d.names (word words 0)) None)) S17
    ∷ []

-- `mission ROBOT`
abbrev pub mission_line : Declared → List (List ℕ) → Result Mission Code
mission_line d words = judged (mission_rows d words) (record { robot = robot_at d.names (word words 0); legs = []; blocks = [] })

-- the faults of the end
abbrev pub end_rows : Declared → List (List ℕ) → List Row
end_rows d words = many 0 words ∷ row (length d.starts == 0) S20 ∷ []

-- `end`
abbrev pub end_line : Declared → List (List ℕ) → Result Declared Code
end_line d words = judged (end_rows d words) d
