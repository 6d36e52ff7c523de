-- Words on lists that several definitions share.
use Rattle.std.specs.Prelude.{◌≡◌, ◌==◌, ℕ, Bool, if◌then◌else◌, List, [], ◌∷◌, ◌++◌, Option, Some, None, map}
use Rattle.std.specs.List.{range_with_len, flat_map, list_any}
use Rattle.fleet_base.specs.declared.numbers.CellNo.{CellNo}

-- x is an element of the list
pub data In {A : Type 0} (x : A) : List A → Type 0 where
  here : {y : A} {ys : List A} → x ≡ y → In x (y ∷ ys)
  there : {y : A} {ys : List A} → In x ys → In x (y ∷ ys)

-- ys begins with xs
abbrev pub Begins : {A : Type 0} → List A → List A → Type 0
Begins {A} xs ys = (rest : List A) × (ys ≡ xs ++ rest)

-- the numbers below n
abbrev pub numbers_below : ℕ → List ℕ
numbers_below n = range_with_len 0 n

-- the cell is one of these
abbrev pub has_cell : List CellNo → CellNo → Bool
has_cell cells a = list_any (λ b. b.0 == a.0) cells

-- the value, where the test holds
abbrev pub when : {A : Type 0} → Bool → A → Option A
when b x = if b then Some x else None

-- the first value that is there
abbrev pub first_some : {A : Type 0} → List (Option A) → Option A
first_some [] = None
first_some (None ∷ os) = first_some os
first_some (Some x ∷ os) = Some x

-- each x with each y
abbrev pub pairs : {A B : Type 0} → List A → List B → List (A × B)
pairs xs ys = flat_map (λ x. map (λ y. (x, y)) ys) xs

-- x, or y where that is there and x doesn't come before it
abbrev pub earlier : {A : Type 0} → (A → A → Bool) → A → Option A → A
earlier upto x None = x
earlier upto x (Some y) = if upto x y then x else y

-- the least element, by an order; None of an empty list
abbrev pub least : {A : Type 0} → (A → A → Bool) → List A → Option A
least upto [] = None
least upto (x ∷ xs) = Some (earlier upto x (least upto xs))
