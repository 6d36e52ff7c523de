-- Which entries have a line that is read again, and the printed text of what was read.
use Rattle.std.specs.Prelude.{◌≡◌, ℕ, ◌+◌, ◌<◌, ◌≤◌, List, length, take}
use Rattle.std.specs.List.{AllByRecursion}
use Rattle.fleet_base.specs.declared.entries.Act.{Act}
use Rattle.fleet_base.specs.declared.entries.Act.TheVariants.{Merged, Deferred, Retried, Canceled, Withdrawn, Replanned, Reported}
use Rattle.fleet_base.specs.declared.entries.Entry.{Entry}
use Rattle.fleet_base.specs.declared.numbers.CellNo.{CellNo}
use Rattle.fleet_base.specs.declared.numbers.EventNo.{EventNo}
use Rattle.fleet_base.specs.declared.numbers.RobotNo.{RobotNo}
use Rattle.fleet_names.specs.Names.{Named, count_of}
use Rattle.fleet_names.specs.Things as things
use Rattle.fleet_texts.specs.Texts.{entry_text, journal_text}
use Rattle.plan_journal.specs.Reading.{Front}

-- the robot, or the cell, has a name
abbrev pub IsRobot : Named → RobotNo → Type 0
IsRobot names robot = robot.0 < count_of things.is_robot names

abbrev pub IsCell : Named → CellNo → Type 0
IsCell names cell = cell.0 < count_of things.is_cell names

-- a number of at most 15 digits
abbrev pub IsShort : EventNo → Type 0
IsShort event = event.0 ≤ 999999999999999

-- at least one cell, and each has a name
abbrev pub IsNamedRoute : Named → List CellNo → Type 0
IsNamedRoute names route = (1 ≤ length route) × AllByRecursion (IsCell names) route

-- what an act must be: known robots and cells, numbers of at most 15 digits, at most 64 robots in a cycle, at most 1,000,000 removed events
abbrev pub IsPrintableAct : Named → Act → Type 0
IsPrintableAct names (Merged route first) = IsNamedRoute names route × IsShort first
IsPrintableAct names (Deferred route cycle) = IsNamedRoute names route × (length cycle ≤ 64) × AllByRecursion (IsRobot names) cycle
IsPrintableAct names (Retried first) = IsShort first
IsPrintableAct names Canceled = Unit {0}
IsPrintableAct names (Withdrawn removed end) = (removed ≤ 1000000) × IsCell names end
IsPrintableAct names (Replanned route first) = IsNamedRoute names route × IsShort first
IsPrintableAct names (Reported event) = IsShort event

pub record IsPrintable (names : Named) (entry : Entry) : Type 0 where
  pub robot : IsRobot names entry.robot
  pub act : IsPrintableAct names entry.act
  pub short : length (entry_text names entry) ≤ 65536

-- what was read is the printed text of its entries: so many bytes at the front of the text, with a line for each entry, one for the header and one for the end
pub record IsPrintedFront (names : Named) (bytes : List ℕ) (front : Front) : Type 0 where
  pub text : take front.used bytes ≡ journal_text names front.entries
  pub count : front.lines ≡ length front.entries + 2
  pub printable : AllByRecursion (IsPrintable names) front.entries
