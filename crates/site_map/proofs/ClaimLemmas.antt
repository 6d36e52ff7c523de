-- The numbers of the claims of crossings.
use Rattle.std.proofs.Common.{◌≡◌, ℕ, zero, suc, ◌+◌, ◌<◌, ◌≤◌, inl, inr, List, [], ◌∷◌, ◌++◌, length, get_or, set, take, refl, sym, ap, subst, ◌∙◌, arith, slice_index, get_or-set_same, get_or-set_other}
use Rattle.std.proofs.lemmas.Bool.{cases_lt, cases_eq}
use Rattle.std.proofs.lemmas.List.{take_more}
use Rattle.site_map.specs.Built.{no_crossing}
use Rattle.site_map.specs.Crossings.{BuiltCrossing, claim_count_of, crossing_claims}
use Rattle.site_map.specs.Inside.{AreNumbered, IsOwner}

-- the claims of one more crossing
pub crossing_claims-append : (xs ys : List BuiltCrossing) → crossing_claims (xs ++ ys) ≡ crossing_claims xs + crossing_claims ys
crossing_claims-append [] ys = omega arith
crossing_claims-append (x ∷ xs) ys = omega (arith, crossing_claims-append xs ys)

pub crossing_claims_more : (xs : List BuiltCrossing) (i : ℕ) → i < length xs → crossing_claims (take (i + 1) xs) ≡ crossing_claims (take i xs) + claim_count_of (get_or xs i no_crossing)
crossing_claims_more xs i within =
    ap crossing_claims (take_more xs i no_crossing within)
    ∙ crossing_claims-append (take i xs) (get_or xs i no_crossing ∷ [])
    ∙ omega arith

pub crossing_claims_front : (xs : List BuiltCrossing) (i : ℕ) → crossing_claims (take i xs) ≤ crossing_claims xs
crossing_claims_front [] zero = omega arith
crossing_claims_front [] (suc i) = omega arith
crossing_claims_front (x ∷ xs) zero = omega arith
crossing_claims_front (x ∷ xs) (suc i) = omega (arith, crossing_claims_front xs i)

-- each crossing has a claim
pub length-crossings : (xs : List BuiltCrossing) → length xs ≤ crossing_claims xs
length-crossings [] = omega arith
length-crossings (x ∷ xs) = omega (arith, length-crossings xs)

-- the claims once one crossing is replaced by another
pub crossing_claims-set : (xs : List BuiltCrossing) (i : ℕ) (y : BuiltCrossing) → i < length xs → crossing_claims (set xs i y) + claim_count_of (get_or xs i no_crossing) ≡ crossing_claims xs + claim_count_of y
crossing_claims-set [] i y within = absurd (omega arith)
crossing_claims-set (x ∷ xs) zero y within = omega arith
crossing_claims-set (x ∷ xs) (suc i) y within = omega (arith, crossing_claims-set xs i y (omega arith))

-- the tables are right below crossing i, whose first claim is next
pub record AreNumberedBelow (xs : List BuiltCrossing) (firsts owners : List ℕ) (next i : ℕ) : Type 0 where
  pub next_is : next ≡ crossing_claims (take i xs)
  pub begun : (k : ℕ) → k < i → slice_index firsts k ≡ crossing_claims (take k xs)
  pub owned : (claim : ℕ) → claim < next → IsOwner xs claim (slice_index owners claim)

pub numbered_none : (xs : List BuiltCrossing) (firsts owners : List ℕ) → AreNumberedBelow xs firsts owners 0 0
numbered_none xs firsts owners = record {
  next_is = claims_of_none xs;
  begun = λ k h. absurd (omega arith);
  owned = λ claim h. absurd (omega arith);
} where
  claims_of_none : (ys : List BuiltCrossing) → 0 ≡ crossing_claims (take 0 ys)
  claims_of_none [] = refl
  claims_of_none (y ∷ ys) = refl

-- the next claims fit the table
pub next_fits : (xs : List BuiltCrossing) (next i count : ℕ) → i < length xs → next ≡ crossing_claims (take i xs) → count ≡ claim_count_of (get_or xs i no_crossing) → next + count ≤ crossing_claims xs
next_fits xs next i count within next_is count_is =
    let more = crossing_claims_more xs i within in
    let front = crossing_claims_front xs (i + 1) in
    omega (arith, more, front, next_is, count_is)

pub numbered_more : (xs : List BuiltCrossing) (firsts owners owners' : List ℕ) (next i count : ℕ) → i < length xs → length firsts ≡ length xs → count ≡ claim_count_of (get_or xs i no_crossing) → ((k : ℕ) → next ≤ k → k < next + count → slice_index owners' k ≡ i) → ((k : ℕ) → k < next → slice_index owners' k ≡ slice_index owners k) → AreNumberedBelow xs firsts owners next i → AreNumberedBelow xs (set firsts i next) owners' (next + count) (i + 1)
numbered_more xs firsts owners owners' next i count within all count_is filled others so_far = record {
  next_is = ap (λ n. n + count) so_far.next_is ∙ ap (λ n. crossing_claims (take i xs) + n) count_is ∙ sym (crossing_claims_more xs i within);
  begun = λ k h. elim (cases_eq k i) [
    | inl same ↦
        ap (λ j. slice_index (set firsts i next) j) same
        ∙ get_or-set_same firsts i next 0 (omega arith)
        ∙ so_far.next_is
        ∙ ap (λ j. crossing_claims (take j xs)) (sym same)
    | inr other ↦ get_or-set_other firsts i k next 0 other ∙ so_far.begun k (omega arith)
  ];
  owned = λ claim h. elim (cases_lt claim next) [
    | inl before ↦ subst (λ k. IsOwner xs claim k) (sym (others claim before)) (so_far.owned claim before)
    | inr after ↦ subst (λ k. IsOwner xs claim k) (sym (filled claim after h)) (record {
      known = within;
      from = omega (arith, so_far.next_is);
      upto = omega (arith, so_far.next_is, crossing_claims_more xs i within, count_is);
    })
  ];
}

take_all : {A : Type 0} (xs : List A) (n : ℕ) → length xs ≤ n → take n xs ≡ xs
take_all [] zero h = refl
take_all [] (suc n) h = refl
take_all (x ∷ xs) zero h = absurd (omega arith)
take_all (x ∷ xs) (suc n) h = ap (λ ys. x ∷ ys) (take_all xs n (omega arith))

pub numbered_all : (xs : List BuiltCrossing) (firsts owners : List ℕ) (next i : ℕ) → length xs ≤ i → length firsts ≡ length xs → length owners ≡ crossing_claims xs → AreNumberedBelow xs firsts owners next i → AreNumbered xs firsts owners
numbered_all xs firsts owners next i past firsts_all owners_all so_far = record {
  firsts_are_all = firsts_all;
  owners_are_all = owners_all;
  begun = λ k h. so_far.begun k (omega arith);
  owned = λ claim h. so_far.owned claim (omega (arith, so_far.next_is, ap crossing_claims (take_all xs i past)));
}
