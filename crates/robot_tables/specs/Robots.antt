-- What is known of each robot beside the plan.
use Rattle.std.specs.Prelude.{ℕ, ◌<◌, not, ◌==◌, List, [], length, map, slice_index_or, slice_set, Contains}
use Rattle.std.specs.List.{filter}
use Rattle.fleet_base.specs.Lists.{placed}
use Rattle.fleet_base.specs.declared.numbers.CellNo.{CellNo}
use Rattle.fleet_base.specs.declared.numbers.ClaimNo.{ClaimNo}
use Rattle.fleet_base.specs.declared.numbers.Kind.{Kind}
use Rattle.fleet_base.specs.declared.numbers.Kind.TheVariants.{Acquire, Move, Release}
use Rattle.fleet_model.specs.Sites.{Site, footprint_of}
use Rattle.fleet_model.specs.Plans.{Fleet}
use Rattle.fleet_model.specs.Deferral.{ends}
use Rattle.fleet_model.specs.Tables.{holdings, places}

-- for each robot the cell that it ends in by its plan, the cell that it is in and the claims that it holds, ascending
pub record Robots : Type 0 where
  pub ends : List CellNo
  pub places : List CellNo
  pub holdings : List (List ClaimNo)

-- the claims that robot r holds
abbrev pub holding_at : Robots → ℕ → List ClaimNo
holding_at robots r = slice_index_or robots.holdings r []

-- each robot ends and is where it starts, and holds the footprint there
abbrev pub at_starts : Site → List CellNo → Robots
at_starts site starts = record { ends = starts; places = starts; holdings = map (footprint_of site) starts }

-- robot r ends in this cell
abbrev pub with_end : Robots → ℕ → CellNo → Robots
with_end robots r cell = record robots { ends = slice_set robots.ends r cell }

-- robot r holds these claims
abbrev pub with_holding : Robots → ℕ → List ClaimNo → Robots
with_holding robots r claims = record robots { holdings = slice_set robots.holdings r claims }

-- robot r has done this: an acquired claim is held, a move leads to its cell, a released claim isn't held
abbrev pub after_report : Robots → ℕ → Kind → Robots
after_report robots r (Acquire c) = with_holding robots r (placed (holding_at robots r) c)
after_report robots r (Move a b) = record robots { places = slice_set robots.places r b }
after_report robots r (Release c) = with_holding robots r (filter (λ d. not (d.0 == c.0)) (holding_at robots r))

-- an acquired claim isn't among the held ones, and there is a place for it
abbrev pub HasPlaceFor : List ClaimNo → Kind → Type 0
HasPlaceFor claims (Acquire c) = (¬ Contains claims c) × (length claims < 6)
HasPlaceFor claims (Move a b) = Unit {0}
HasPlaceFor claims (Release c) = Unit {0}

-- what a fleet tells of its robots: the ends by the plan, the cells and the held claims by what was reported
abbrev pub robots_of : Fleet → Robots
robots_of m = record { ends = ends m; places = places m; holdings = holdings m }
