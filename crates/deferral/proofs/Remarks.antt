-- Sets of robots that are changed claim by claim.
use Rattle.std.proofs.Common.{◌≡◌, ℕ, ◌+◌, ◌<◌, ◌≤◌, Bool, true, false, cond, ◌&&◌, ◌||◌, ◌==◌, inl, inr, refl, sym, ap, ◌∙◌, List, length, get_or, take, arith, eq-eqb, Some}
use Rattle.std.proofs.lemmas.Bool.{and_parts, and_right, cases_eq, cases_lt, eqb-true, false_from_ne_true, le-ltb, lt-ltb, ne_eqb}
use Rattle.std.proofs.lemmas.Option.{slice_get-get_or, slice_get_past}
use Rattle.std.proofs.lemmas.List.Folds.{list_any_more}
use Rattle.std.specs.Prelude.{nat_lt, slice_get}
use Rattle.std.specs.List.{list_any}
use Rattle.fleet_base.specs.declared.numbers.ClaimGroup.{ClaimGroup}
use Rattle.fleet_base.specs.declared.numbers.ClaimNo.{ClaimNo}
use Rattle.fleet_model.specs.Sites.{in_conflict}
use Rattle.fleet_model.proofs.Claims.{conflict_symmetric}
use Rattle.claim_reach.specs.declared.Reach.{Reach}
use Rattle.claim_reach.specs.Reaches.{AreReaches}
use Rattle.claim_reach.proofs.Conflicts.{conflict_within, no_conflict, reach_end}
use Rattle.deferral.specs.Backlogs.{is_kept}
use Rattle.deferral.specs.Tallies.{is_marked, IsRemarked}

-- nothing passes, and nothing is changed
pub remarked_none : (sets : List ℕ) (p : ℕ → ℕ → Bool) (there : Bool) → ((c r : ℕ) → p c r ≡ false) → IsRemarked sets sets p there
remarked_none sets p there none = record { long = refl; each = λ c r below. sym (ap (λ t. cond t there (is_marked sets c r)) (none c r)) }

-- by another test that says the same
pub remarked_by : (old new : List ℕ) (p q : ℕ → ℕ → Bool) (there : Bool) → ((c r : ℕ) → c < length old → p c r ≡ q c r) → IsRemarked old new p there → IsRemarked old new q there
remarked_by old new p q there same m = record { long = m.long; each = λ c r below. m.each c r below ∙ ap (λ t. cond t there (is_marked old c r)) (same c r below) }

twice : (s t u there b : Bool) → u ≡ (s || t) → cond s there (cond t there b) ≡ cond u there b
twice true t u there b e = ap (λ x. cond x there b) (sym e)
twice false t u there b e = ap (λ x. cond x there b) (sym e)

-- changed once more
pub remarked_twice : (old cur new : List ℕ) (p q both : ℕ → ℕ → Bool) (there : Bool) → ((c r : ℕ) → c < length old → both c r ≡ (q c r || p c r)) → IsRemarked old cur p there → IsRemarked cur new q there → IsRemarked old new both there
remarked_twice old cur new p q both there is m n = record {
  long = n.long ∙ m.long;
  each = λ c r below.
      n.each c r (let l = m.long in omega arith)
      ∙ ap (λ b. cond (q c r) there b) (m.each c r below)
      ∙ twice (q c r) (p c r) (both c r) there (is_marked old c r) (is c r below);
}

-- nothing is to be changed where it is so already
already : (s t there old now : Bool) → now ≡ cond t there old → (s ≡ true → now ≡ there) → now ≡ cond (s || t) there old
already true t there old now e h = h refl
already false t there old now e h = e

module _ (groups : List ClaimGroup) (reaches : List Reach) (reached : AreReaches groups reaches) (claim : ClaimNo) (a : ℕ) where
  -- robot a, and a claim below the bound that conflicts
  abbrev pub near : ℕ → ℕ → ℕ → Bool
  near bound c r = (r == a) && (nat_lt c bound && in_conflict groups (record { 0 = c }) claim)

  -- robot a, and any claim that conflicts
  abbrev pub far : ℕ → ℕ → Bool
  far c r = (r == a) && in_conflict groups (record { 0 = c }) claim

  free_of : (c : ℕ) → (in_conflict groups (record { 0 = c }) claim ≡ true → ⊥) → in_conflict groups (record { 0 = c }) claim ≡ false
  free_of c = false_from_ne_true (in_conflict groups (record { 0 = c }) claim)

  -- a claim without a reach conflicts with none
  pub near_none : (sets : List ℕ) (there : Bool) → length reaches ≤ claim.0 → IsRemarked sets sets far there
  near_none sets there past = remarked_none sets far there (λ c r. and_right (r == a) _ (free_of c (λ h. no_conflict groups reaches reached claim (record { 0 = c }) (slice_get_past reaches claim.0 past) (conflict_symmetric groups (record { 0 = c }) claim h))))

  module _ (reach : Reach) (within : claim.0 < length reaches) (is : reach ≡ get_or reaches claim.0 reach) where
    at : slice_get reaches claim.0 ≡ Some reach
    at = slice_get-get_or reaches claim.0 reach within ∙ ap (λ r. Some r) (sym is)

    inside : (c : ℕ) → in_conflict groups (record { 0 = c }) claim ≡ true → (reach.first ≤ c) × (c < reach.end)
    inside c h = conflict_within groups reaches reached claim (record { 0 = c }) reach at (conflict_symmetric groups (record { 0 = c }) claim h)

    -- a number of a reach is that of a claim
    pub near_known : (n : ℕ) → n < reach.end → n < length groups
    near_known n below = let e = reach_end groups reaches reached claim.0 reach at in omega arith

    -- none conflicts in front of the reach
    pub near_first : (sets : List ℕ) (there : Bool) → IsRemarked sets sets (near reach.first) there
    near_first sets there = remarked_none sets (near reach.first) there (λ c r. and_right (r == a) _ (elim (cases_lt c reach.first) [
      | inl before ↦ and_right (nat_lt c reach.first) _ (free_of c (λ h. let i = inside c h in let low = i.0 in omega arith))
      | inr behind ↦ ap (λ t. t && in_conflict groups (record { 0 = c }) claim) (le-ltb c reach.first behind)
    ]))

    -- none conflicts behind it
    pub near_all : (old new : List ℕ) (there : Bool) (bound : ℕ) → reach.end ≤ bound → IsRemarked old new (near bound) there → IsRemarked old new far there
    near_all old new there bound upto = remarked_by old new (near bound) far there (λ c r below. ap (λ t. (r == a) && t) (elim (cases_lt c bound) [
      | inl before ↦ ap (λ t. t && in_conflict groups (record { 0 = c }) claim) (lt-ltb c bound before)
      | inr behind ↦ (let clear = free_of c (λ h. let i = inside c h in let high = i.1 in omega arith) in and_right (nat_lt c bound) _ clear ∙ sym clear)
    ]))

  in_front : (row x t : Bool) → x ≡ t → (row && (true && x)) ≡ ((row && (true && t)) || (row && (false && x)))
  in_front true x true e = e
  in_front true x false e = e
  in_front false x t e = refl

  away : (row u x t : Bool) → (row && (u && x)) ≡ ((row && (false && t)) || (row && (u && x)))
  away true u x t = refl
  away false u x t = refl

  -- one more number below the bound
  one_more : (t : Bool) (n c r : ℕ) → in_conflict groups (record { 0 = n }) claim ≡ t → near (n + 1) c r ≡ (((r == a) && ((c == n) && t)) || near n c r)
  one_more t n c r is = elim (cases_eq c n) [
    | inl same ↦
        rw (eq-eqb c n same, lt-ltb c (n + 1) (omega arith), le-ltb c n (omega arith))
        (in_front (r == a) (in_conflict groups (record { 0 = c }) claim) t (ap (λ k. in_conflict groups (record { 0 = k }) claim) same ∙ is))
    | inr other ↦
        rw (ne_eqb c n other, elsewhere c n other)
        (away (r == a) (nat_lt c n) (in_conflict groups (record { 0 = c }) claim) t)
  ]
    where
      elsewhere : (c n : ℕ) → (c ≡ n → ⊥) → nat_lt c (n + 1) ≡ nat_lt c n
      elsewhere c n other = elim (cases_lt c n) [
        | inl before ↦ lt-ltb c (n + 1) (omega arith) ∙ sym (lt-ltb c n before)
        | inr behind ↦ le-ltb c (n + 1) (omega arith) ∙ sym (le-ltb c n behind)
      ]

  and-true : (t : Bool) → (t && true) ≡ t
  and-true true = refl
  and-true false = refl

  one_conflict : (n c r : ℕ) → in_conflict groups (record { 0 = n }) claim ≡ true → near (n + 1) c r ≡ (((r == a) && (c == n)) || near n c r)
  one_conflict n c r h = one_more true n c r h ∙ ap (λ t. ((r == a) && t) || near n c r) (and-true (c == n))

  -- a claim in conflict is changed
  pub near_more : (old cur new : List ℕ) (there : Bool) (n : ℕ) → in_conflict groups (record { 0 = n }) claim ≡ true → IsRemarked old cur (near n) there → IsRemarked cur new (λ c r. (r == a) && (c == n)) there → IsRemarked old new (near (n + 1)) there
  near_more old cur new there n h = remarked_twice old cur new (near n) (λ c r. (r == a) && (c == n)) (near (n + 1)) there (λ c r below. one_conflict n c r h)

  -- or it is so already
  pub near_already : (old cur : List ℕ) (there : Bool) (n : ℕ) → in_conflict groups (record { 0 = n }) claim ≡ true → is_marked cur n a ≡ there → IsRemarked old cur (near n) there → IsRemarked old cur (near (n + 1)) there
  near_already old cur there n h so m = record {
    long = m.long;
    each = λ c r below.
        already ((r == a) && (c == n)) (near n c r) there (is_marked old c r) (is_marked cur c r) (m.each c r below)
        (λ t. let p = and_parts (r == a) (c == n) t in ap (λ k. is_marked cur k r) (eqb-true c n p.1) ∙ (ap (λ k. is_marked cur n k) (eqb-true r a p.0) ∙ so))
        ∙ ap (λ t. cond t there (is_marked old c r)) (sym (one_conflict n c r h));
  }

  -- a claim that isn't in conflict stays
  pub near_other : (old cur : List ℕ) (there : Bool) (n : ℕ) → in_conflict groups (record { 0 = n }) claim ≡ false → IsRemarked old cur (near n) there → IsRemarked old cur (near (n + 1)) there
  near_other old cur there n h = remarked_by old cur (near n) (near (n + 1)) there (λ c r below. sym (one_more false n c r h ∙ ap (λ t. t || near n c r) (and_right (r == a) _ (and_right (c == n) false refl))))

-- robot a, and a claim that one of these keeps
abbrev pub kept_by : List ClaimGroup → List ClaimNo → ℕ → ℕ → ℕ → Bool
kept_by groups claims a c r = (r == a) && is_kept groups claims c

-- one claim more of a list
pub list_more : (groups : List ClaimGroup) (claims : List ClaimNo) (a i : ℕ) (d : ClaimNo) (old cur new : List ℕ) (there : Bool) → i < length claims
    → IsRemarked old cur (kept_by groups (take i claims) a) there → IsRemarked cur new (λ c r. (r == a) && in_conflict groups (record { 0 = c }) (get_or claims i d)) there → IsRemarked old new (kept_by groups (take (i + 1) claims) a) there
list_more groups claims a i d old cur new there within =
    remarked_twice old cur new (kept_by groups (take i claims) a) (λ c r. (r == a) && in_conflict groups (record { 0 = c }) (get_or claims i d)) (kept_by groups (take (i + 1) claims) a) there
    (λ c r below. ap (λ t. (r == a) && t) (list_any_more (conflicts c) claims i d within) ∙ apart (r == a) (list_any (conflicts c) (take i claims)) (conflicts c (get_or claims i d)))
  where
    conflicts : ℕ → ClaimNo → Bool
    conflicts c d = in_conflict groups (record { 0 = c }) d

    apart : (row x y : Bool) → (row && (x || y)) ≡ ((row && y) || (row && x))
    apart false x y = refl
    apart true true true = refl
    apart true true false = refl
    apart true false true = refl
    apart true false false = refl
