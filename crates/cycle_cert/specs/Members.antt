-- Robots that edges lead from.
use Rattle.std.specs.Prelude.{◌≡◌, ℕ, Bool, true, ◌&&◌, nat_lt}
use Rattle.std.specs.Ordering.{nat_cmp}
use Rattle.std.specs.FinSet as set
use Rattle.fleet_base.specs.EdgeSets.{leads}
use Rattle.bit_set.specs.Words.{is_in}

-- an edge leads from v to some number of the set
pub record LeadsInto (edge : ℕ → ℕ → Bool) (set v : ℕ) : Type 0 where
  pub over : ℕ
  pub member : is_in set over ≡ true
  pub leads : edge v over ≡ true

-- an edge leads from one robot below 64 to another
abbrev pub leads_known : set.FinSet nat_cmp → ℕ → ℕ → Bool
leads_known edges from to = nat_lt from 64 && leads edges from to
