-- Small texts by which the definitions are checked.
use Rattle.std.specs.Prelude.{ℕ, List, [], ◌∷◌, codes, Result, Err, map}
use Rattle.fleet_base.specs.declared.numbers.CellNo.{CellNo}
use Rattle.fleet_names.specs.declared.thing.Thing.TheVariants.{Cell, Crossing, Area, Robot}
use Rattle.fleet_names.specs.Names.{Named}
use Rattle.site_lines.specs.declared.fault.At.{At}
use Rattle.site_lines.specs.declared.fault.Code.{Code}
use Rattle.site_map.specs.Built.{BuiltSite}
use Rattle.fleet_commands.specs.declared.command.Command.{Command}
use Rattle.fleet_calls.specs.declared.request.Request.{Request}
use Rattle.fleet_commands.specs.Reading.{commands_of}

-- the cells a, b, c and d, the crossing x, the area yard and the robots r1 and r2
abbrev pub junction : Named
junction =
    (codes "a", Cell 0) ∷ (codes "b", Cell 1) ∷ (codes "c", Cell 2) ∷ (codes "d", Cell 3)
    ∷ (codes "x", Crossing 0) ∷ (codes "yard", Area 0) ∷ (codes "r1", Robot 0) ∷ (codes "r2", Robot 1) ∷ []

-- what lines behind seven others say there
abbrev pub said : List ℕ → Result (List Command) At
said text = commands_of junction 8 text

-- a command of the robot with this number
abbrev pub asks : ℕ → Request → Command
asks r request = record { robot = record { 0 = r }; request = request }

abbrev pub cells : List ℕ → List CellNo
cells numbers = map (λ n. record { 0 = n }) numbers

-- a refusal at a line
abbrev pub bad : ℕ → Code → Result (List Command) At
bad line code = Err (record { line = line; code = code })

-- its site, whose area yard has the cells b and d
abbrev pub junction_site : BuiltSite
junction_site = record { cells = 4; crossings = []; areas = cells (1 ∷ 3 ∷ []) ∷ []; links = [] }
