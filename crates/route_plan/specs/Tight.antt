-- How labels agree with each other along links.
use Rattle.std.specs.Prelude.{◌≡◌, ℕ, ◌+◌, ◌-◌, ◌≤◌, Bool, true, false, ◌&&◌, ◌==◌, nat_le, if◌then◌else◌, List, [], ◌∷◌, Option, Some, None}
use Rattle.std.specs.List.{list_all, list_any}
use Rattle.std.specs.Option.{is_none}
use Rattle.fleet_base.specs.declared.numbers.CellNo.{CellNo}
use Rattle.fleet_base.specs.declared.numbers.Link.{Link}
use Rattle.fleet_model.specs.Sites.{Site, link_cost}

-- a label isn't more than the way over a link of this cost and the label behind it
abbrev pub is_within : ℕ → ℕ → Option ℕ → Bool
is_within e c None = true
is_within e c (Some d) = nat_le (e - c) d

-- a label is the way over a link of this cost and the label behind it
abbrev pub adds_up : Option ℕ → Option ℕ → Option ℕ → Bool
adds_up (Some e) (Some c) (Some d) = e == c + d
adds_up (Some e) (Some c) None = false
adds_up (Some e) None o = false
adds_up None c o = false

-- the label of a cell that isn't in the goal agrees with those behind its links
abbrev pub agrees_with : (CellNo → Option ℕ) → List Link → Option ℕ → Bool
agrees_with label links None = list_all (λ l. is_none (label l.to)) links
agrees_with label links (Some e) = list_all (λ l. is_within e l.cost (label l.to)) links && list_any (λ l. adds_up (Some e) (Some l.cost) (label l.to)) links

-- the label of a goal's cell is 0
abbrev pub is_nothing : Option ℕ → Bool
is_nothing None = false
is_nothing (Some e) = e == 0

-- the label of the cell agrees with those of the cells that these links from it lead to
abbrev pub agrees : (CellNo → Bool) → (CellNo → Bool) → (CellNo → Option ℕ) → List Link → CellNo → Bool
agrees goal avoid label links a = if avoid a then is_none (label a) else (if goal a then is_nothing (label a) else agrees_with label links (label a))

-- the link from a to b is the first step of a least walk, by the labels
abbrev pub is_tight : Site → (CellNo → Option ℕ) → CellNo → CellNo → Bool
is_tight site label a b = adds_up (label a) (link_cost site a b) (label b)

-- b is the least cell behind a tight link from a
pub record IsNext (site : Site) (label : CellNo → Option ℕ) (a b : CellNo) : Type 0 where
  pub tight : is_tight site label a b ≡ true
  pub least : (x : CellNo) → is_tight site label a x ≡ true → b.0 ≤ x.0

-- the least cell behind a tight link from a, or None where no link is tight
abbrev pub IsNextOf : Site → (CellNo → Option ℕ) → CellNo → Option CellNo → Type 0
IsNextOf site label a None = (x : CellNo) → is_tight site label a x ≡ false
IsNextOf site label a (Some b) = IsNext site label a b

-- each step from a on goes to the least cell behind a tight link, and the last label is 0
abbrev pub IsDescent : Site → (CellNo → Option ℕ) → CellNo → List CellNo → Type 0
IsDescent site label a [] = label a ≡ Some 0
IsDescent site label a (b ∷ bs) = IsNext site label a b × IsDescent site label b bs

-- the cells begin with a, and the steps from it on are those
abbrev pub IsDescentFrom : Site → (CellNo → Option ℕ) → CellNo → List CellNo → Type 0
IsDescentFrom site label a [] = ⊥
IsDescentFrom site label a (b ∷ bs) = (b ≡ a) × IsDescent site label a bs
