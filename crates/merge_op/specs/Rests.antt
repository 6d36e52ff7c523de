-- Where a robot rests among its unfinished events, and which of its last events nobody waits for.
use Rattle.std.specs.Prelude.{◌≡◌, ℕ, ◌≤◌, Bool, true, false, ◌==◌, nat_lt, List, Some, length, slice_get}
use Rattle.fleet_base.specs.declared.numbers.ClaimGroup.{ClaimGroup}
use Rattle.fleet_base.specs.declared.numbers.Event.{Event}
use Rattle.fleet_base.specs.declared.numbers.Kind.{Kind}
use Rattle.fleet_base.specs.declared.numbers.Kind.TheVariants.{Acquire, Move, Release}
use Rattle.event_graph.specs.Graphs.{has_waiting}

-- a step over a site of so many cells begins with this: with the acquire of a cell's own claim, or with the move where the step stays in its cell
abbrev pub begins_step : ℕ → Kind → Bool
begins_step cells (Acquire c) = nat_lt c.0 cells
begins_step cells (Move a b) = a.0 == b.0
begins_step cells (Release c) = false

-- no event waits for one of the robot's events from this place on
abbrev pub IsUnawaitedFrom : List ClaimGroup → List Event → List Event → ℕ → Type 0
IsUnawaitedFrom groups events mine place = (i : ℕ) (e : Event) → place ≤ i → slice_get mine i ≡ Some e → has_waiting groups events e ≡ false

-- the robot's events from this place on may go: it rests there, and no event waits for one of them
pub record IsFreeFrom (cells : ℕ) (groups : List ClaimGroup) (events mine : List Event) (place : ℕ) : Type 0 where
  pub within : place ≤ length mine
  pub begins : (e : Event) → slice_get mine place ≡ Some e → begins_step cells e.kind ≡ true
  pub unawaited : IsUnawaitedFrom groups events mine place

-- of all places not below a bound this is the first from which events may go
pub record IsFirstFree (cells : ℕ) (groups : List ClaimGroup) (events mine : List Event) (bound place : ℕ) : Type 0 where
  pub free : IsFreeFrom cells groups events mine place
  pub first : (i : ℕ) → bound ≤ i → IsFreeFrom cells groups events mine i → place ≤ i
