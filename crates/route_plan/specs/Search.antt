-- How the search for labels stands.
use Rattle.std.specs.Prelude.{◌≡◌, ℕ, ◌+◌, ◌*◌, ◌^◌, ◌<◌, ◌≤◌, Bool, true, false, ◌&&◌, not, if◌then◌else◌, nat_lt, List, [], ◌∷◌, Option, Some, None, length, slice_set, Contains, ◌⊎◌}
use Rattle.std.specs.Bool.{MatchBool}
use Rattle.std.specs.List.Sorted.{IsPermutation}
use Rattle.std.specs.declared.cmp.Reverse.{Reverse}
use Rattle.fleet_base.specs.declared.numbers.CellNo.{CellNo}
use Rattle.fleet_model.specs.Sites.{Site, cell_count, link_cost}
use Rattle.route_plan.specs.declared.incoming.Entry.{Entry}
use Rattle.route_plan.specs.Incoming.{entry}
use Rattle.route_plan.specs.Labels.{label_at}

-- a cell with this label, as it stands open
abbrev pub open_at : ℕ → CellNo → Reverse (ℕ × ℕ)
open_at label a = record { 0 = (label, a.0) }

-- how many cells have no label
abbrev pub gaps : List (Option ℕ) → ℕ
gaps [] = 0
gaps (None ∷ os) = 1 + gaps os
gaps (Some e ∷ os) = gaps os

-- labels are so low that one more link's cost can be added
pub record AreLow (labels : List (Option ℕ)) : Type 0 where
  pub few : length labels ≤ 1024
  pub low : (a : CellNo) (e : ℕ) → label_at labels a ≡ Some e → e + 2 ^ 32 * gaps labels ≤ 2 ^ 32 * length labels

-- what a label counts among what is left to do; a missing one more than any other
abbrev pub weight : Option ℕ → ℕ
weight None = 2 ^ 43
weight (Some e) = e

abbrev pub weights : List (Option ℕ) → ℕ
weights [] = 0
weights (o ∷ os) = weight o + weights os

-- what is left to do at most: labels can fall, and cells stand open
abbrev pub work : List (Option ℕ) → List (Reverse (ℕ × ℕ)) → ℕ
work labels open_cells = 2 * weights labels + length open_cells

-- the labels are those of walks to the goal, and each is the least that the links give, but for the links back from open cells, and for those that are left of the links back from one cell with its label
pub record IsSearch (site : Site) (goal avoid : CellNo → Bool) (at : CellNo) (label : ℕ) (left : List Entry) (labels : List (Option ℕ)) (open_cells : List (Reverse (ℕ × ℕ))) : Type 0 where
  pub long : length labels ≡ cell_count site
  pub known : (x : Reverse (ℕ × ℕ)) → Contains open_cells x → x.0.1 < cell_count site
  pub avoided : (a : CellNo) (e : ℕ) → label_at labels a ≡ Some e → avoid a ≡ false
  pub goals : (a : CellNo) → a.0 < cell_count site → goal a ≡ true → avoid a ≡ false → label_at labels a ≡ Some 0
  pub within : (a b : CellNo) (c d : ℕ) → link_cost site a b ≡ Some c → avoid a ≡ false → label_at labels b ≡ Some d → ((e : ℕ) × (label_at labels a ≡ Some e) × (e ≤ c + d)) ⊎ (Contains open_cells (open_at d b) ⊎ ((b ≡ at) × (d ≡ label) × Contains left (entry a c)))
  pub tight : (a : CellNo) (e : ℕ) → label_at labels a ≡ Some e → goal a ≡ false → (b : CellNo) × (c : ℕ) × (d : ℕ) × (link_cost site a b ≡ Some c) × (label_at labels b ≡ Some d) × (c + d ≤ e)
  pub source : (e : Entry) → Contains left e → (d : ℕ) × (label_at labels at ≡ Some d) × (d ≤ label) × (link_cost site e.from at ≡ Some e.cost)

-- and no link is left
abbrev pub IsSettled : Site → (CellNo → Bool) → (CellNo → Bool) → List (Option ℕ) → List (Reverse (ℕ × ℕ)) → Type 0
IsSettled site goal avoid labels open_cells = IsSearch site goal avoid (record { 0 = 0 }) 0 [] labels open_cells

-- the label that a cell has first: 0 in the goal, if it isn't to be avoided
abbrev pub first_label : (CellNo → Bool) → (CellNo → Bool) → CellNo → Option ℕ
first_label goal avoid a = if goal a && not (avoid a) then Some 0 else None

-- the first n cells have their first labels, and those of the goal stand open
pub record IsBegun (n : ℕ) (goal avoid : CellNo → Bool) (labels : List (Option ℕ)) (open_cells : List (Reverse (ℕ × ℕ))) : Type 0 where
  pub long : length labels ≡ n
  pub first : (a : CellNo) → a.0 < n → label_at labels a ≡ first_label goal avoid a
  pub begun : (a : CellNo) (e : ℕ) → label_at labels a ≡ Some e → Contains open_cells (open_at e a)
  pub known : (x : Reverse (ℕ × ℕ)) → Contains open_cells x → x.0.1 < n

-- the number is less than the label, or there is none
abbrev pub is_less : ℕ → Option ℕ → Bool
is_less n None = true
is_less n (Some e) = nat_lt n e

-- the label of the cell fell to this one and the cell stands open, where that is less; else nothing changed
abbrev pub IsLowered : CellNo → ℕ → List (Option ℕ) → List (Reverse (ℕ × ℕ)) → List (Option ℕ) → List (Reverse (ℕ × ℕ)) → Type 0
IsLowered a n labels open_cells labels' open_cells' =
    MatchBool (is_less n (label_at labels a))
    ((labels' ≡ slice_set labels a.0 (Some n)) × IsPermutation (open_at n a ∷ open_cells) open_cells')
    ((labels' ≡ labels) × (open_cells' ≡ open_cells))
