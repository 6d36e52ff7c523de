-- Which robots edges lead between.
use Rattle.std.specs.Prelude.{ℕ, ◌+◌, ◌*◌, Bool, ◌&&◌, nat_lt}
use Rattle.std.specs.Ordering.{nat_cmp}
use Rattle.std.specs.FinSet as set

-- the place of the edge between two robots: 64 places for each robot that edges lead from
abbrev pub edge_place : ℕ → ℕ → ℕ
edge_place from to = 64 * from + to

-- whether an edge leads from one robot to another
abbrev pub leads : set.FinSet nat_cmp → ℕ → ℕ → Bool
leads edges from to = nat_lt to 64 && set.contains edges (edge_place from to)
