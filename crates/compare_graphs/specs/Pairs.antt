-- Two graphs with the same steps behind them, and what may be appended to both.
use Rattle.std.specs.Prelude.{◌≡◌, ℕ, ◌<◌, List, length, slice_get, take, Some}
use Rattle.fleet_base.specs.declared.numbers.Kind.{Kind}
use Rattle.fleet_base.specs.declared.numbers.Kind.TheVariants.{Acquire, Move, Release}
use Rattle.fleet_model.specs.Lists.{In}
use Rattle.event_graph.specs.Graphs.{IsUnchanged}
use Rattle.compare_graphs.specs.declared.pair.Pair.{Pair}

-- there are so many robots and claims, and both graphs have the same robots, groups, events and next number
pub record IsPair (p : Pair) : Type 0 where
  pub some : 0 < p.robots
  pub robots : p.plain.robots ≡ p.robots
  pub claims : length p.plain.groups ≡ p.claims
  pub alike : IsUnchanged p.plain p.fast

-- the claim is one of so many, and a release comes behind an acquire of its claim
abbrev pub FitsBehind : ℕ → List Kind → Kind → Type 0
FitsBehind claims before (Acquire c) = c.0 < claims
FitsBehind claims before (Move a b) = Unit {0}
FitsBehind claims before (Release c) = (c.0 < claims) × In (Acquire c) before

-- each of these fits behind those in front of it
abbrev pub AreFit : ℕ → List Kind → Type 0
AreFit claims kinds = (i : ℕ) (k : Kind) → slice_get kinds i ≡ Some k → FitsBehind claims (take i kinds) k
