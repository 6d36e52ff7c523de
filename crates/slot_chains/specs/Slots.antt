-- Slots in chains, as callers see them, and the tables that keep them.
use Rattle.std.specs.Prelude.{◌≡◌, ℕ, ◌+◌, ◌-◌, ◌^◌, ◌<◌, ◌≤◌, ◌==◌, min, Bool, true, false, List, [], ◌∷◌, length, slice_index_or, slice_set, Option, Some, None}
use Rattle.std.specs.List.{filter}

-- the number of chains; of each slot the chain that it is in, or that it is in none; and how many slots can be added before memory is asked for again
pub record Slots : Type 0 where
  pub chains : ℕ
  pub keys : List (Option ℕ)
  pub spare : ℕ

-- slot i is in chain k
abbrev pub IsIn : List (Option ℕ) → ℕ → ℕ → Type 0
IsIn keys k i = slice_index_or keys i None ≡ Some k

-- the first slot of chain k from a place on; or there is none
abbrev pub IsFirst : List (Option ℕ) → ℕ → ℕ → Option ℕ → Type 0
IsFirst keys k low None = (i : ℕ) → low ≤ i → IsIn keys k i → ⊥
IsFirst keys k low (Some i) = (low ≤ i) × IsIn keys k i × ((j : ℕ) → low ≤ j → j < i → IsIn keys k j → ⊥)

-- the last slot of chain k in front of a place; or there is none
abbrev pub IsLast : List (Option ℕ) → ℕ → ℕ → Option ℕ → Type 0
IsLast keys k high None = (i : ℕ) → i < high → IsIn keys k i → ⊥
IsLast keys k high (Some i) = (i < high) × IsIn keys k i × ((j : ℕ) → i < j → j < high → IsIn keys k j → ⊥)

-- the slot's chain is k
abbrev pub has_key : ℕ → Option ℕ → Bool
has_key k None = false
has_key k (Some q) = q == k

-- how many slots chain k has
abbrev pub size_of : ℕ → List (Option ℕ) → ℕ
size_of k keys = length (filter (has_key k) keys)

-- what holds of the slots of chains
pub record IsSlots (s : Slots) : Type 0 where
  pub few : length s.keys < 2 ^ 32
  pub named : (k i : ℕ) → IsIn s.keys k i → k < s.chains

-- the chains and the slots are as before, whatever the spare room
pub record HasSameChains (old new : Slots) : Type 0 where
  pub chains : new.chains ≡ old.chains
  pub keys : new.keys ≡ old.keys

-- how many slots can be added, by the number of slots, which stays below 2^32, and the room of each table
abbrev pub spare_of : ℕ → ℕ → ℕ → ℕ → ℕ
spare_of slots keys before behind = min (2 ^ 32 - 1) (min keys (min before behind)) - slots

-- the tables keep each chain's first and last slot and its size, and each slot's neighbours in its chain
pub record AreChained (keys before behind firsts lasts : List (Option ℕ)) (sizes : List ℕ) : Type 0 where
  pub few : length keys < 2 ^ 32
  pub few_chains : length firsts < 2 ^ 32
  pub before_long : length before ≡ length keys
  pub behind_long : length behind ≡ length keys
  pub lasts_long : length lasts ≡ length firsts
  pub sizes_long : length sizes ≡ length firsts
  pub named : (k i : ℕ) → IsIn keys k i → k < length firsts
  pub first : (k : ℕ) → k < length firsts → IsFirst keys k 0 (slice_index_or firsts k None)
  pub last : (k : ℕ) → k < length firsts → IsLast keys k (length keys) (slice_index_or lasts k None)
  pub next : (k i : ℕ) → IsIn keys k i → IsFirst keys k (i + 1) (slice_index_or behind i None)
  pub previous : (k i : ℕ) → IsIn keys k i → IsLast keys k i (slice_index_or before i None)
  pub size : (k : ℕ) → k < length firsts → slice_index_or sizes k 0 ≡ size_of k keys

-- the place, where there is one, is within so many
abbrev pub IsWithin : Option ℕ → ℕ → Type 0
IsWithin None n = Unit {0}
IsWithin (Some i) n = i < n

-- the table with the slot at that place, where there is one
abbrev pub linked : Option ℕ → Option ℕ → List (Option ℕ) → List (Option ℕ)
linked None to table = table
linked (Some i) to table = slice_set table i to

-- the ends with the slot at the key's place, where there is no place in the table
abbrev pub ended : Option ℕ → ℕ → Option ℕ → List (Option ℕ) → List (Option ℕ)
ended None k to ends = slice_set ends k to
ended (Some i) k to ends = ends
