-- A plan of three robots, which the tests go through.
use Rattle.std.specs.Prelude.{◌≡◌, ℕ, true, List, [], ◌∷◌, ◌++◌}
use Rattle.fleet_base.specs.declared.numbers.CellNo.{CellNo}
use Rattle.fleet_base.specs.declared.numbers.ClaimGroup.{ClaimGroup}
use Rattle.fleet_base.specs.declared.numbers.ClaimNo.{ClaimNo}
use Rattle.fleet_base.specs.declared.numbers.Event.{Event}
use Rattle.fleet_base.specs.declared.numbers.Kind.{Kind}
use Rattle.fleet_base.specs.declared.numbers.Kind.TheVariants.{Acquire, Move, Release}
use Rattle.fleet_model.specs.Plans.{numbered}
use Rattle.event_graph.specs.Graphs.{Graph}

-- the claim of this number
abbrev pub claim : ℕ → ClaimNo
claim n = record { 0 = n }

-- the cell of this number
abbrev pub cell : ℕ → CellNo
cell n = record { 0 = n }

-- five claims, each alone in its group
abbrev pub example_groups : List ClaimGroup
example_groups = record { group = 0; alone = true } ∷ record { group = 1; alone = true } ∷ record { group = 2; alone = true } ∷ record { group = 3; alone = true } ∷ record { group = 4; alone = true } ∷ []

-- from cell 0 over 1 to 2
abbrev pub over : List Kind
over = Acquire (claim 1) ∷ Move (cell 0) (cell 1) ∷ Release (claim 0) ∷ Acquire (claim 2) ∷ Move (cell 1) (cell 2) ∷ Release (claim 1) ∷ []

-- from cell 3 to 1
abbrev pub behind : List Kind
behind = Acquire (claim 1) ∷ Move (cell 3) (cell 1) ∷ Release (claim 3) ∷ []

-- from cell 4 to 0
abbrev pub back : List Kind
back = Acquire (claim 0) ∷ Move (cell 4) (cell 0) ∷ Release (claim 4) ∷ []

-- the events of the three robots
abbrev pub example_events : List Event
example_events = (numbered 1 0 over ++ numbered 7 1 behind) ++ numbered 10 2 back

-- the graph of this plan
pub record IsExample (g : Graph) : Type 0 where
  pub robots : g.robots ≡ 3
  pub groups : g.groups ≡ example_groups
  pub events : g.events ≡ example_events
