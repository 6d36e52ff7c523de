-- What edges lead where, after each call.
use Rattle.std.proofs.Common.{◌≡◌, ℕ, ◌^◌, ◌<◌, Bool, true, false, cond, not, ◌&&◌, ◌||◌, eqb, ltb, refl, sym, ap, ◌∙◌, inl, inr, arith}
use Rattle.std.specs.Ordering.{nat_cmp}
use Rattle.std.specs.FinSet.{FinSet, empty, contains, insert, remove, contains-empty}
use Rattle.std.proofs.lemmas.Bool.{lt-ltb, le-ltb, eq-eqb, ne_eqb, cases_eq, cases_lt, and_right, cond-false}
use Rattle.bit_set.specs.Marks.{contains-insert_nat, contains-remove_nat}
use Rattle.bit_set.specs.Words.{is_in}
use Rattle.bit_set.proofs.WordBits.{is_in-past}
use Rattle.fleet_base.specs.EdgeSets.{edge_place, leads}

-- where there are no edges, none leads anywhere
pub leads-empty : (r q : ℕ) → leads empty r q ≡ false
leads-empty r q = and_right (ltb q 64) _ (contains-empty nat_cmp (edge_place r q))

-- two edges with one place are one edge
same_place : (r q from to : ℕ) → q < 64 → to < 64 → eqb (edge_place r q) (edge_place from to) ≡ (eqb r from && eqb q to)
same_place r q from to q_known to_known =
    elim (cases_eq r from) [
      | inr other ↦ rw (ne_eqb r from other) (ne_eqb _ _ (λ e. other (omega arith)))
      | inl same ↦ elim (cases_eq q to) [
        | inl is ↦ rw (eq-eqb r from same, eq-eqb q to is) (eq-eqb _ _ (omega arith))
        | inr other ↦ rw (eq-eqb r from same, ne_eqb q to other) (ne_eqb _ _ (λ e. other (omega arith)))
      ]
    ]

-- a change of the test at one place changes one edge
leads_changed : (old new : FinSet nat_cmp) (from to : ℕ) (there : Bool) → to < 64 → ((p : ℕ) → contains new p ≡ cond (eqb p (edge_place from to)) there (contains old p)) → (r q : ℕ) → leads new r q ≡ cond (eqb r from && eqb q to) there (leads old r q)
leads_changed old new from to there known changed r q =
    elim (cases_lt q 64) [
      | inl within ↦
          rw (lt-ltb q 64 within)
          (changed (edge_place r q) ∙ ap (λ b. cond b there (contains old (edge_place r q))) (same_place r q from to within known))
      | inr past ↦
          rw (le-ltb q 64 past)
          (sym (cond-false _ there false (and_right (eqb r from) (eqb q to) (ne_eqb q to (omega arith)))))
    ]

or-cond : (b x : Bool) → (b || x) ≡ cond b true x
or-cond true x = refl
or-cond false x = refl

and-cond : (b x : Bool) → (not b && x) ≡ cond b false x
and-cond true x = refl
and-cond false x = refl

-- an edge that is made to lead
pub leads-insert : (edges : FinSet nat_cmp) (from to : ℕ) → to < 64 → (r q : ℕ) → leads (insert edges (edge_place from to)) r q ≡ cond (eqb r from && eqb q to) true (leads edges r q)
leads-insert edges from to known = leads_changed edges _ from to true known (λ p. contains-insert_nat edges (edge_place from to) p ∙ or-cond (eqb p (edge_place from to)) (contains edges p))

-- an edge that is made not to lead
pub leads-remove : (edges : FinSet nat_cmp) (from to : ℕ) → to < 64 → (r q : ℕ) → leads (remove edges (edge_place from to)) r q ≡ cond (eqb r from && eqb q to) false (leads edges r q)
leads-remove edges from to known = leads_changed edges _ from to false known (λ p. contains-remove_nat edges (edge_place from to) p ∙ and-cond (eqb p (edge_place from to)) (contains edges p))

-- the word of a row has the robots that edges lead to
pub is_in-row : (edges : FinSet nat_cmp) (word from : ℕ) → word < 2 ^ 64 → ((i : ℕ) → i < 64 → is_in word i ≡ contains edges (edge_place from i)) → (q : ℕ) → is_in word q ≡ leads edges from q
is_in-row edges word from fits shown q =
    elim (cases_lt q 64) [
      | inl within ↦ rw (lt-ltb q 64 within) (shown q within)
      | inr past ↦ rw (le-ltb q 64 past) (is_in-past word q fits past)
    ]
