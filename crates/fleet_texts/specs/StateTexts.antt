-- The text of a state.
use Rattle.std.specs.Prelude.{ℕ, List, [], ◌∷◌, ◌++◌, length, map, codes, Option, Some, None}
use Rattle.std.specs.Fmt.{decimal}
use Rattle.std.specs.List.{flat_map}
use Rattle.fleet_base.specs.declared.numbers.CellNo.{CellNo}
use Rattle.fleet_base.specs.declared.numbers.ClaimNo.{ClaimNo}
use Rattle.fleet_base.specs.declared.numbers.Event.{Event}
use Rattle.fleet_base.specs.declared.numbers.RobotNo.{RobotNo}
use Rattle.fleet_model.specs.Lists.{numbers_below}
use Rattle.fleet_model.specs.Plans.{cell_of, end_of, own, unfinished}
use Rattle.fleet_model.specs.States.{State, pending_of}
use Rattle.fleet_model.specs.Tables.{held_by}
use Rattle.fleet_names.specs.Names.{Named}
use Rattle.site_map.specs.Built.{BuiltSite}
use Rattle.fleet_texts.specs.Words.{spaced, lines_text, cell_text, robot_text, claim_text, kind_words}

-- the number of entries and the next event number
abbrev pub header_lines : ℕ → ℕ → List (List ℕ)
header_lines entries next = codes "state 1" ∷ spaced (codes "entries" ∷ decimal entries ∷ []) ∷ spaced (codes "next" ∷ decimal next ∷ []) ∷ []

-- the cell that a robot is at, and its end
abbrev pub robot_line : Named → RobotNo → CellNo → CellNo → List ℕ
robot_line names robot at end = spaced (codes "robot" ∷ robot_text names robot ∷ codes "at" ∷ cell_text names at ∷ codes "end" ∷ cell_text names end ∷ [])

-- the claims that a robot holds
abbrev pub holds_line : Named → BuiltSite → List ClaimNo → List ℕ
holds_line names site held = spaced (codes "holds" ∷ map (claim_text names site) held)

-- the pending route; no line where there is none
abbrev pub pending_lines : Named → Option (List CellNo) → List (List ℕ)
pending_lines names None = []
pending_lines names (Some route) = spaced (codes "pending" ∷ map (cell_text names) route) ∷ []

-- an event: its number and its kind
abbrev pub event_words : Named → BuiltSite → Event → List (List ℕ)
event_words names site event = decimal event.no.0 ∷ kind_words names site event.kind

-- the line of an unfinished event
abbrev pub event_line : Named → BuiltSite → Event → List ℕ
event_line names site event = spaced (codes "event" ∷ event_words names site event)

-- what is shown of robot r: its line, its held claims, its pending route and its unfinished events
abbrev pub robot_lines : Named → BuiltSite → State → ℕ → List (List ℕ)
robot_lines names site s r =
    robot_line names (record { 0 = r }) (cell_of s.fleet r) (end_of s.fleet r)
    ∷ holds_line names site (held_by s.fleet r)
    ∷ pending_lines names (pending_of s r)
    ++ map (event_line names site) (own r (unfinished s.fleet))

-- the lines of a state: its header, those of each robot, and its end
abbrev pub state_lines : Named → BuiltSite → State → List (List ℕ)
state_lines names site s = header_lines s.count s.fleet.next ++ flat_map (robot_lines names site s) (numbers_below (length s.fleet.starts)) ++ codes "end" ∷ []

-- a state's text
unfoldable pub state_text : Named → BuiltSite → State → List ℕ
state_text names site s = lines_text (state_lines names site s)
