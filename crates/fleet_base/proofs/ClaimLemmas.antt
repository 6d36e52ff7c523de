-- Short lists of claims that ascend.
use Rattle.std.proofs.Common.{◌≡◌, ℕ, zero, suc, ◌+◌, ◌<◌, ◌≤◌, Bool, true, false, cond, ltb, ◌⊎◌, inl, inr, List, [], ◌∷◌, ◌++◌, length, set, take, drop, Result, Ok, Err, IsOk, OnOk, refl, sym, ap, subst, ◌∙◌, ◌-◌, arith}
use Rattle.std.specs.List.{Contains, filter, insert, prefix_len, take_while}
use Rattle.std.proofs.lemmas.Bool.{ltb-true, ltb-false, true≢false}
use Rattle.fleet_base.specs.declared.numbers.ClaimNo.{ClaimNo}
use Rattle.fleet_base.specs.Lists.{count_below, placed, RiseFrom}
use Rattle.fleet_base.specs.ClaimLists.{AreKept}
use Rattle.smallvec.specs.SmallVec.{SmallVec}
use borrow.Rule.Slice.PartMut.{put_mid, mid_of}
use Rattle.std.proofs.lemmas.Slice.{take-put_mid, between_is}
use Rattle.std.proofs.lemmas.List.{length-take-le, length-drop, length_push, drop-append-le, take_more_set, take-set-le, drop_at, take_at, length-set, take-take}

length-take_while : {X : Type 0} (p : X → Bool) (xs : List X) → length (take_while p xs) ≡ prefix_len p xs
length-take_while p [] = refl
length-take_while p (x ∷ xs) =
    elim (p x) as (λ b. length (take (cond b (1 + prefix_len p xs) 0) (x ∷ xs)) ≡ cond b (1 + prefix_len p xs) 0) [
      | true ↦
          let one_more : 1 + prefix_len p xs ≡ suc (prefix_len p xs) = omega arith in
          rw one_more (ap suc (length-take_while p xs))
      | false ↦ refl
    ]

abbrev is_below : ClaimNo → ClaimNo → Bool
is_below claim c = ltb c.0 claim.0

insert-prefix_len : (claims : List ClaimNo) (claim : ClaimNo) → insert claims (prefix_len (is_below claim) claims) claim ≡ placed claims claim
insert-prefix_len [] claim = refl
insert-prefix_len (c ∷ cs) claim =
    elim (ltb c.0 claim.0) as (λ b. insert (c ∷ cs) (cond b (1 + prefix_len (is_below claim) cs) 0) claim ≡ cond b (c ∷ placed cs claim) (claim ∷ c ∷ cs)) [
      | true ↦
          let one_more : 1 + prefix_len (is_below claim) cs ≡ suc (prefix_len (is_below claim) cs) = omega arith in
          rw one_more (ap (λ xs. c ∷ xs) (insert-prefix_len cs claim))
      | false ↦ refl
    ]

-- the place of a claim is where `placed` has it
pub insert-count_below : (claims : List ClaimNo) (claim : ClaimNo) → insert claims (count_below claims claim) claim ≡ placed claims claim
insert-count_below claims claim = ap (λ i. insert claims i claim) (length-take_while (is_below claim) claims) ∙ insert-prefix_len claims claim

Contains-tail : (c claim : ClaimNo) (cs : List ClaimNo) → Contains cs claim → Contains (c ∷ cs) claim
Contains-tail c claim cs (k, below, at) = (suc k, omega arith, at)

Contains-head : (c claim : ClaimNo) (cs : List ClaimNo) → c.0 ≡ claim.0 → Contains (c ∷ cs) claim
Contains-head c claim cs same = (0, omega arith, ap (λ n. record { 0 = n }) same)

-- a list that ascends still does with a claim that wasn't there in its place
pub RiseFrom-placed : (low : ℕ) (claims : List ClaimNo) (claim : ClaimNo) → RiseFrom low claims → low ≤ claim.0 → (Contains claims claim → ⊥) → RiseFrom low (placed claims claim)
RiseFrom-placed low [] claim rise above missing = (above, tt)
RiseFrom-placed low (c ∷ cs) claim rise above missing =
    elim (ltb c.0 claim.0) as (λ b. ltb c.0 claim.0 ≡ b → RiseFrom low (cond b (c ∷ placed cs claim) (claim ∷ c ∷ cs))) [
      | true ↦ λ e.
          let below = ltb-true c.0 claim.0 e in
          (rise.0, RiseFrom-placed (c.0 + 1) cs claim rise.1 (omega arith) (λ h. missing (Contains-tail c claim cs h)))
      | false ↦ λ e.
          let upto = ltb-false c.0 claim.0 e in
          let other : c.0 ≡ claim.0 → ⊥ = λ same. missing (Contains-head c claim cs same) in
          (above, (omega arith, rise.1))
    ] refl

pub length-placed : (claims : List ClaimNo) (claim : ClaimNo) → length (placed claims claim) ≡ length claims + 1
length-placed [] claim = refl
length-placed (c ∷ cs) claim =
    elim (ltb c.0 claim.0) as (λ b. length (cond b (c ∷ placed cs claim) (claim ∷ c ∷ cs)) ≡ suc (length cs) + 1) [
      | true ↦ omega (arith, length-placed cs claim)
      | false ↦ omega arith
    ]

Contains-cases : (c other : ClaimNo) (cs : List ClaimNo) → Contains (c ∷ cs) other → (c ≡ other) ⊎ Contains cs other
Contains-cases c other cs (zero, below, at) = inl at
Contains-cases c other cs (suc k, below, at) = inr (k, omega arith, at)

-- a list with a claim put into its place contains that claim and those that it had
pub Contains-placed : (claims : List ClaimNo) (claim other : ClaimNo) → Contains (placed claims claim) other → (claim ≡ other) ⊎ Contains claims other
Contains-placed [] claim other has = Contains-cases claim other [] has
Contains-placed (c ∷ cs) claim other has =
    elim (ltb c.0 claim.0) as (λ b. Contains (cond b (c ∷ placed cs claim) (claim ∷ c ∷ cs)) other → (claim ≡ other) ⊎ Contains (c ∷ cs) other) [
      | true ↦ λ h. elim (Contains-cases c other (placed cs claim) h) [
        | inl first ↦ inr (0, omega arith, first)
        | inr later ↦ elim (Contains-placed cs claim other later) [ inl is ↦ inl is | inr had ↦ inr (Contains-tail c other cs had) ]
      ]
      | false ↦ λ h. Contains-cases claim other (c ∷ cs) h
    ] has

pub placed-contains : (claims : List ClaimNo) (claim other : ClaimNo) → (claim ≡ other) ⊎ Contains claims other → Contains (placed claims claim) other
placed-contains [] claim other (inl is) = (0, omega arith, is)
placed-contains [] claim other (inr had) = Contains-tail claim other [] had
placed-contains (c ∷ cs) claim other has =
    elim (ltb c.0 claim.0) as (λ b. Contains (cond b (c ∷ placed cs claim) (claim ∷ c ∷ cs)) other) [
      | true ↦ elim has [
        | inl is ↦ Contains-tail c other (placed cs claim) (placed-contains cs claim other (inl is))
        | inr had ↦ elim (Contains-cases c other cs had) [
          | inl first ↦ (0, omega arith, first)
          | inr later ↦ Contains-tail c other (placed cs claim) (placed-contains cs claim other (inr later))
        ]
      ]
      | false ↦ elim has [
        | inl is ↦ (0, omega arith, is)
        | inr had ↦ Contains-tail claim other (c ∷ cs) had
      ]
    ]

-- a claim is missing from the empty list, and still is where another claim was put
pub missing_at_first : (claim : ClaimNo) → Contains [] claim → ⊥
missing_at_first claim (k, below, at) = omega arith

pub missing_still : (claims : List ClaimNo) (claim other : ClaimNo) → (Contains claims other → ⊥) → (claim.0 ≡ other.0 → ⊥) → Contains (placed claims claim) other → ⊥
missing_still claims claim other missing apart has =
    elim (Contains-placed claims claim other has) [ inl is ↦ apart (ap (λ c. c.0) is) | inr had ↦ missing had ]

-- a short vector of claims stays one with a claim in its place
pub AreKept-placed : (old new : SmallVec ClaimNo) (claim : ClaimNo) → AreKept old → (Contains old.items claim → ⊥) → length old.items < 3 → new.items ≡ placed old.items claim → new.capacity ≡ old.capacity → AreKept new
AreKept-placed old new claim kept missing room items capacity = record {
  ascending = subst (RiseFrom 0) (sym items) (RiseFrom-placed 0 old.items claim kept.ascending (omega arith) missing);
  short = omega (arith, ap length items, length-placed old.items claim);
  inline = capacity ∙ kept.inline;
}

-- the last element of a list before the others
rotated : {X : Type 0} (xs : List X) (x : X) → drop (length (xs ++ x ∷ []) - 1) (xs ++ x ∷ []) ++ take (length (xs ++ x ∷ []) - 1) (xs ++ x ∷ []) ≡ x ∷ xs
rotated xs x =
    let last : length xs ≡ length (xs ++ x ∷ []) - 1 = omega (arith, length_push xs x) in
    ap (λ l. l ++ take (length (xs ++ x ∷ []) - 1) (xs ++ x ∷ [])) (drop_at xs (x ∷ []) (length (xs ++ x ∷ []) - 1) last)
    ∙ ap (λ l. x ∷ l) (take_at xs (x ∷ []) (length (xs ++ x ∷ []) - 1) last)

-- a place after the used ones is written, and then the part from a claim's place on is rotated by one
pub take-rotated : (places part : List ClaimNo) (count place : ℕ) (claim : ClaimNo) → count < length places → place ≤ count → part ≡ drop (length (mid_of place (count + 1 - place) (set places count claim)) - 1) (mid_of place (count + 1 - place) (set places count claim)) ++ take (length (mid_of place (count + 1 - place) (set places count claim)) - 1) (mid_of place (count + 1 - place) (set places count claim)) → take (count + 1) (put_mid place (count + 1 - place) (set places count claim) part) ≡ insert (take count places) place claim
take-rotated places part count place claim within upto is =
    let used : length (take count places) ≡ count = length-take-le count places (omega arith) in
    let mid : mid_of place (count + 1 - place) (set places count claim) ≡ drop place (take count places) ++ claim ∷ [] =
    between_is (set places count claim) place (count + 1)
    ∙ ap (λ l. drop place l) (take_more_set places count claim within)
    ∙ drop-append-le place (take count places) (claim ∷ []) (omega arith)
    in
    let whole : part ≡ claim ∷ drop place (take count places) =
    is ∙ ap (λ m. drop (length m - 1) m ++ take (length m - 1) m) mid ∙ rotated (drop place (take count places)) claim
    in
    let front : take place (set places count claim) ≡ take place (take count places) =
    take-set-le place places count claim upto ∙ sym (take-take place count places upto)
    in
    let long : count + 1 ≡ place + length part = omega (arith, ap length whole, length-drop place (take count places)) in
    take-put_mid place (count + 1 - place) (set places count claim) part (count + 1) long (omega (arith, length-set places count claim))
    ∙ ap (λ l. l ++ part) front
    ∙ ap (λ l. take place (take count places) ++ l) whole

-- a call that succeeds keeps what it promises on success
pub on_ok : {T E : Type 0} (r : Result T E) (P : Type 0) → IsOk r → OnOk r P → P
on_ok (Ok x) P is kept = kept
on_ok (Err e) P is kept = absurd (true≢false (sym is))

-- what rises from somewhere rises from any number below
pub RiseFrom-lower : (low least : ℕ) (claims : List ClaimNo) → least ≤ low → RiseFrom low claims → RiseFrom least claims
RiseFrom-lower low least [] upto rise = tt
RiseFrom-lower low least (c ∷ cs) upto rise = (omega (arith, rise.0), rise.1)

-- claims that ascend still do when some are left out
pub RiseFrom-filter : (p : ClaimNo → Bool) (low : ℕ) (claims : List ClaimNo) → RiseFrom low claims → RiseFrom low (filter p claims)
RiseFrom-filter p low [] rise = tt
RiseFrom-filter p low (c ∷ cs) rise =
    elim (p c) as (λ b. RiseFrom low (cond b (c ∷ filter p cs) (filter p cs))) [
      | true ↦ (rise.0, RiseFrom-filter p (c.0 + 1) cs rise.1)
      | false ↦ RiseFrom-lower (c.0 + 1) low (filter p cs) (omega (arith, rise.0)) (RiseFrom-filter p (c.0 + 1) cs rise.1)
    ]
