-- What the lines of a mission add to it, and when they are bad. The words are those behind the keyword.
use Rattle.std.specs.Prelude.{ℕ, suc, zero, ◌+◌, ◌-◌, ◌*◌, ◌==◌, not, nat_le, nat_lt, List, [], ◌∷◌, ◌++◌, length, take, slice_index_or, slice_set, Option, Some, None, Result}
use Rattle.std.specs.List.{list_all}
use Rattle.std.specs.Option.{is_some, unwrap_or}
use Rattle.std.specs.Str.Parse.{digits_value}
use Rattle.fleet_base.specs.declared.limits.TheConstants.{MAX_LEGS}
use Rattle.fleet_names.specs.declared.thing.Thing.{Thing}
use Rattle.fleet_names.specs.declared.thing.Thing.TheVariants as things
use Rattle.fleet_names.specs.Names.{Named, is_name, thing_of}
use Rattle.site_lines.specs.declared.fault.Code.{Code}
use Rattle.site_lines.specs.declared.fault.Code.TheVariants.{S7, S8, S9, S11, S18, S19}
use Rattle.site_lines.specs.Numbers.{is_number}
use Rattle.site_lines.specs.Readings.{Row}
use Rattle.site_map.specs.declared.goal.Goal.{Goal}
use Rattle.site_map.specs.declared.goal.Goal.TheVariants as goals
use Rattle.scenario_reader.specs.SiteLines.{is_out_of}
use Rattle.scenario_reader.specs.States.{Block, Declared, Mission}
use Rattle.scenario_reader.specs.Tables.{few, judged, many, row, word}

-- a cell or an area as a goal; None of another thing
abbrev pub as_goal : Option Thing → Option Goal
as_goal None = None
as_goal (Some (things.Cell n)) = Some (goals.Cell (record { 0 = n }))
as_goal (Some (things.Crossing n)) = None
as_goal (Some (things.Area n)) = Some (goals.Area n)
as_goal (Some (things.Robot n)) = None

-- the goal that a name names
abbrev pub goal_named : Named → List ℕ → Option Goal
goal_named names name = as_goal (thing_of names name)

-- these legs so many times
abbrev pub repeated : ℕ → List Goal → List Goal
repeated zero legs = []
repeated (suc n) legs = legs ++ repeated n legs

-- the innermost of open blocks, the last; where none is open one that nothing reads
abbrev pub innermost : List Block → Block
innermost blocks = slice_index_or blocks (length blocks - 1) (record { times = 0; before = [] })

-- the blocks around it
abbrev pub outer : List Block → List Block
outer blocks = take (length blocks - 1) blocks

-- the faults of a leg
abbrev pub visit_rows : Named → Mission → List (List ℕ) → List Row
visit_rows names m words =
    few 1 words
    ∷ many 1 words
    ∷ row (not (list_all is_name words)) S7
    ∷ row (not (is_some (goal_named names (word words 0)))) S11
    ∷ row (nat_lt MAX_LEGS (length m.legs + 1)) S19
    ∷ []

-- the goal that a word names; an area where it names none
abbrev pub goal_at : Named → List ℕ → Goal
goal_at names name = unwrap_or (goal_named names name) (goals.Area 0)

-- `visit GOAL`
abbrev pub visit_line : Named → Mission → List (List ℕ) → Result Mission Code
visit_line names m words = judged (visit_rows names m words) (record m { legs = m.legs ++ goal_at names (word words 0) ∷ [] })

-- the faults of a block that is opened, at most 4 deep
abbrev pub repeat_rows : Mission → List (List ℕ) → List Row
repeat_rows m words =
    few 1 words
    ∷ many 1 words
    ∷ row (not (is_number 9 (word words 0))) S8
    ∷ row (is_out_of 1 64 (word words 0)) S9
    ∷ row (nat_le 4 (length m.blocks)) S18
    ∷ []

-- a block that is to stand so many times, behind these legs
abbrev pub opened : ℕ → List Goal → Block
opened times legs = record { times = times; before = legs }

-- `repeat TIMES`
abbrev pub repeat_line : Mission → List (List ℕ) → Result Mission Code
repeat_line m words = judged (repeat_rows m words) (record m { legs = []; blocks = m.blocks ++ opened (digits_value 10 (word words 0)) m.legs ∷ [] })

-- the faults of a block that is closed
abbrev pub again_rows : Mission → List (List ℕ) → List Row
again_rows m words =
    many 0 words
    ∷ row (length m.blocks == 0) S18
    ∷ row (nat_lt MAX_LEGS (length (innermost m.blocks).before + (innermost m.blocks).times * length m.legs)) S19
    ∷ []

-- `again`: the innermost block stands as often as its number says
abbrev pub again_line : Mission → List (List ℕ) → Result Mission Code
again_line m words = judged (again_rows m words) (record m {
  legs = (innermost m.blocks).before ++ repeated (innermost m.blocks).times m.legs;
  blocks = outer m.blocks;
})

-- the faults of a mission that is closed
abbrev pub done_rows : Mission → List (List ℕ) → List Row
done_rows m words = many 0 words ∷ row (not (length m.blocks == 0)) S18 ∷ []

-- `done`
abbrev pub done_line : Declared → Mission → List (List ℕ) → Result Declared Code
done_line d m words = judged (done_rows m words) (record d { missions = slice_set d.missions m.robot (Some m.legs) })
