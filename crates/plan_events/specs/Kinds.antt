-- How steps end and begin.
use Rattle.std.specs.Prelude.{ℕ, zero, suc, Bool, true, false, List, Option, Some, None, slice_get}
use Rattle.fleet_base.specs.declared.numbers.Kind.{Kind}
use Rattle.fleet_base.specs.declared.numbers.Kind.TheVariants.{Acquire, Move, Release}

-- the kind before the place; None at the front
abbrev pub kind_before : List Kind → ℕ → Option Kind
kind_before kinds zero = None
kind_before kinds (suc n) = slice_get kinds n

-- a step can end with this, or no step is before it: it is no acquire
abbrev pub may_end_step : Option Kind → Bool
may_end_step None = true
may_end_step (Some (Acquire c)) = false
may_end_step (Some (Move a b)) = true
may_end_step (Some (Release c)) = true

-- a step can begin with this, or no step is behind it: it is no release
abbrev pub may_begin_step : Option Kind → Bool
may_begin_step None = true
may_begin_step (Some (Acquire c)) = true
may_begin_step (Some (Move a b)) = true
may_begin_step (Some (Release c)) = false
