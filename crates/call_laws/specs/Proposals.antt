-- Routes that may be proposed, and what is answered.
use Rattle.std.specs.Prelude.{◌≡◌, ◌<◌, ℕ, List, length, None, Result, Ok}
use Rattle.fleet_base.specs.declared.answers.Block.{Block}
use Rattle.fleet_base.specs.declared.answers.ProposeRefused.{ProposeRefused}
use Rattle.fleet_base.specs.declared.answers.Proposed.{Proposed}
use Rattle.fleet_base.specs.declared.answers.Proposed.TheVariants.{Merged, Deferred}
use Rattle.fleet_base.specs.declared.numbers.CellNo.{CellNo}
use Rattle.fleet_base.specs.declared.numbers.Span.{Span}
use Rattle.fleet_model.specs.Plans.{IsRoute}
use Rattle.fleet_model.specs.States.{State, pending_of}

-- there is such a robot, it has no route pending, and the cells are a legal route of it
pub record MayPropose (s : State) (r : ℕ) (cells : List CellNo) : Type 0 where
  pub robot : r < length s.fleet.starts
  pub free : pending_of s r ≡ None
  pub route : IsRoute s.fleet r cells

-- the answer is that the route was merged
abbrev pub IsMerged : Result Proposed ProposeRefused → Type 0
IsMerged answer = (span : Span) × (answer ≡ Ok (Merged span))

-- the answer is that the route was deferred
abbrev pub IsDeferred : Result Proposed ProposeRefused → Type 0
IsDeferred answer = (block : Block) × (answer ≡ Ok (Deferred block))
