-- The counts of the sets are those of the backlog.
use Rattle.std.proofs.Common.{◌≡◌, ℕ, ◌<◌, ◌≤◌, Bool, true, false, cond, ◌&&◌, ◌==◌, inl, inr, refl, sym, ap, ◌∙◌, List, [], length, arith, Option, Some, None}
use Rattle.std.proofs.lemmas.Bool.{and_right, both_ways, cases_lt, false_from_ne_true, lt-ltb, le-ltb}
use Rattle.std.proofs.lemmas.List.{get_or_past}
use Rattle.std.proofs.lemmas.Option.{slice_get_past}
use Rattle.std.specs.Prelude.{nat_lt, slice_get}
use Rattle.bit_set.specs.Words.{is_in}
use Rattle.bit_set.proofs.WordBits.{is_in-zero}
use Rattle.fleet_base.specs.declared.numbers.ClaimGroup.{ClaimGroup}
use Rattle.fleet_base.specs.declared.numbers.ClaimNo.{ClaimNo}
use Rattle.fleet_model.specs.Sites.{exclude, in_conflict}
use Rattle.fleet_model.proofs.Tests.{any_In}
use Rattle.deferral.specs.declared.pending.Pending.{Pending}
use Rattle.deferral.specs.Backlogs.{Backlog, pending_of, end_claims, is_needed, is_kept, needed_claims, kept_claims, blocker_count, is_deferred_on}
use Rattle.deferral.specs.Tallies.{Marks, is_marked, mark_count}
use Rattle.deferral.proofs.Passing.{count_passing, count_passing-none, count_passing-same}

-- a claim that conflicts with another has a group
pub conflict_within : (groups : List ClaimGroup) (c d : ClaimNo) → in_conflict groups c d ≡ true → c.0 < length groups
unfolding in_conflict
conflict_within groups c d h = elim (cases_lt c.0 (length groups)) [
  | inl within ↦ within
  | inr past ↦ absurd (both_ways false refl (ap (λ g. exclude g (slice_get groups d.0) (c.0 == d.0)) (sym (slice_get_past groups c.0 past)) ∙ h))
]

-- a claim that is kept has a group
pub kept_within : (groups : List ClaimGroup) (end : List ClaimNo) (c : ℕ) → is_kept groups end c ≡ true → c < length groups
kept_within groups end c h =
    let d = any_In (λ (d : ClaimNo). in_conflict groups (record { 0 = c }) d) end h in
    conflict_within groups (record { 0 = c }) d.0 d.2

-- the sets of those whose ends keep a claim, behind the last one too
pub kept_everywhere : (groups : List ClaimGroup) (kept : List ℕ) (end : List ClaimNo) (q : ℕ) → length kept ≡ length groups → ((c : ℕ) → c < length groups → is_marked kept c q ≡ is_kept groups end c) → (c : ℕ) → is_marked kept c q ≡ is_kept groups end c
kept_everywhere groups kept end q long shown c = elim (cases_lt c (length groups)) [
  | inl within ↦ shown c within
  | inr past ↦
      ap (λ w. is_in w q) (get_or_past kept c 0 (omega arith))
      ∙ is_in-zero q
      ∙ sym (false_from_ne_true (is_kept groups end c) (λ h. let w = kept_within groups end c h in absurd (omega arith)))
]

-- how many kept claims there are
length-kept_claims : (groups : List ClaimGroup) (pending : Option Pending) (end : List ClaimNo) → length (kept_claims groups pending end) ≡ count_passing (λ c. is_needed pending c && is_kept groups end c) (length groups)
unfolding needed_claims
length-kept_claims groups None end = sym (count_passing-none (λ c. is_needed None c && is_kept groups end c) (length groups) (λ c. refl))
length-kept_claims groups (Some p) end = refl

apart_same : (t : Bool) (n m : ℕ) → n ≡ m → cond t 0 n ≡ cond t 0 m
apart_same t n m e = ap (λ k. cond t 0 k) e

-- a count of the sets is that of the backlog
pub count_shown : (b : Backlog) (m : Marks) (r q : ℕ) → length m.needed ≡ length b.groups
    → ((c : ℕ) → c < length b.groups → is_marked m.needed c r ≡ is_needed (pending_of b r) c) → ((c : ℕ) → c < length b.groups → is_marked m.kept c q ≡ is_kept b.groups (end_claims b q) c)
    → mark_count m r q ≡ blocker_count b r q
count_shown b m r q long needed kept = apart_same (q == r) _ _ (
    ap (λ n. count_passing (λ c. is_marked m.needed c r && is_marked m.kept c q) n) long
    ∙ count_passing-same (λ c. is_needed (pending_of b r) c && is_kept b.groups (end_claims b q) c) (λ c. is_marked m.needed c r && is_marked m.kept c q) (length b.groups)
    (λ c below. ap (λ t. t && is_marked m.kept c q) (needed c below) ∙ ap (λ t. is_needed (pending_of b r) c && t) (kept c below))
    ∙ sym (length-kept_claims b.groups (pending_of b r) (end_claims b q))
    )

apart_none : (t : Bool) (n : ℕ) → n ≡ 0 → nat_lt 0 (cond t 0 n) ≡ false
apart_none true n e = refl
apart_none false n e = ap (λ k. nat_lt 0 k) e

-- nobody is deferred on an end that isn't there
deferred_past : (b : Backlog) (r q : ℕ) → length b.ends ≤ q → is_deferred_on b r q ≡ false
deferred_past b r q past = apart_none (q == r) _ (
    length-kept_claims b.groups (pending_of b r) (end_claims b q)
    ∙ count_passing-none (λ c. is_needed (pending_of b r) c && is_kept b.groups (end_claims b q) c) (length b.groups)
    (λ c. and_right (is_needed (pending_of b r) c) _ (ap (λ end. is_kept b.groups end c) (get_or_past b.ends q [] past)))
    )

-- nobody that isn't there is deferred
past_deferred : (b : Backlog) (r q : ℕ) → length b.pending ≤ r → is_deferred_on b r q ≡ false
past_deferred b r q past = apart_none (q == r) _ (ap (λ p. length (kept_claims b.groups p (end_claims b q))) (get_or_past b.pending r None past))

-- the relation among all numbers
pub relation_shown : (b : Backlog) (m : Marks) (r q : ℕ) → length b.pending ≤ 64 → length b.ends ≤ 64 → length m.needed ≡ length b.groups
    → ((c : ℕ) → c < length b.groups → is_marked m.needed c r ≡ is_needed (pending_of b r) c) → ((c : ℕ) → c < length b.groups → is_marked m.kept c q ≡ is_kept b.groups (end_claims b q) c)
    → (nat_lt r 64 && (nat_lt q 64 && nat_lt 0 (mark_count m r q))) ≡ is_deferred_on b r q
relation_shown b m r q robots ends long needed kept = elim (cases_lt r 64) [
  | inl r_known ↦ elim (cases_lt q 64) [
    | inl q_known ↦ rw (lt-ltb r 64 r_known, lt-ltb q 64 q_known) (ap (λ n. nat_lt 0 n) (count_shown b m r q long needed kept))
    | inr past ↦ rw (lt-ltb r 64 r_known, le-ltb q 64 past) (sym (deferred_past b r q (omega arith)))
  ]
  | inr past ↦ rw (le-ltb r 64 past) (sym (past_deferred b r q (omega arith)))
]
