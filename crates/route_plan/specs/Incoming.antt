-- The links of a site by the cells that they lead to.
use Rattle.std.specs.Prelude.{◌≡◌, ℕ, List, [], length, Some, slice_index_or, Contains, ◌⊎◌}
use Rattle.fleet_base.specs.declared.numbers.CellNo.{CellNo}
use Rattle.fleet_base.specs.declared.numbers.Link.{Link}
use Rattle.fleet_model.specs.Sites.{Site, cell_count, link_cost}
use Rattle.route_plan.specs.declared.incoming.Entry.{Entry}

-- the links to a cell, as they are kept
abbrev pub row_at : List (List Entry) → CellNo → List Entry
row_at rows b = slice_index_or rows b.0 []

-- a link from a, as it is kept
abbrev pub entry : CellNo → ℕ → Entry
entry a cost = record { from = a; cost = cost }

-- for each cell the links to it are kept, and nothing else
pub record AreIncoming (site : Site) (rows : List (List Entry)) : Type 0 where
  pub long : length rows ≡ cell_count site
  pub all : (a b : CellNo) (c : ℕ) → link_cost site a b ≡ Some c → Contains (row_at rows b) (entry a c)
  pub only : (b : CellNo) (e : Entry) → Contains (row_at rows b) e → link_cost site e.from b ≡ Some e.cost

-- these links from a cell were added, and nothing else
pub record AreEntered (from : CellNo) (links : List Link) (old new : List (List Entry)) : Type 0 where
  pub long : length new ≡ length old
  pub kept : (b : CellNo) (e : Entry) → Contains (row_at old b) e → Contains (row_at new b) e
  pub all : (l : Link) → Contains links l → Contains (row_at new l.to) (entry from l.cost)
  pub only : (b : CellNo) (e : Entry) → Contains (row_at new b) e → Contains (row_at old b) e ⊎ ((l : Link) × Contains links l × (l.to ≡ b) × (e ≡ entry from l.cost))
