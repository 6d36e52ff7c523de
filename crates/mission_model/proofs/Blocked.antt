-- The robots that a robot is behind: the list is there, and it is one.
use Rattle.std.proofs.Common.{◌≡◌, ℕ, zero, suc, ◌+◌, ◌<◌, ◌≤◌, Bool, true, false, cond, ◌==◌, inl, inr, refl, sym, ap, ◌∙◌, subst, List, [], ◌∷◌, ◌++◌, length, arith, Option, Some, None}
use Rattle.std.proofs.lemmas.Bool.{eqb-true}
use Rattle.std.proofs.lemmas.List.{append-nil, append_assoc, length-append}
use Rattle.std.proofs.lemmas.Option.{same_Some}
use Rattle.std.specs.List.{list_any}
use Rattle.fleet_base.specs.declared.numbers.ClaimNo.{ClaimNo}
use Rattle.fleet_model.specs.Lists.{In, here, there}
use Rattle.fleet_model.specs.Sites.{needs}
use Rattle.fleet_model.specs.Cycles.{are_distinct}
use Rattle.fleet_model.specs.Deferral.{ends, least_blocker}
use Rattle.fleet_model.specs.States.{State, pending_route}
use Rattle.fleet_model.proofs.Lists.{In-append_cases, In-nil, In_cases}
use Rattle.fleet_model.proofs.Tests.{any_In}
use Rattle.fleet_model.proofs.Options.{map_some}
use Rattle.fleet_model.proofs.Blockers.{found_blocks, blocker_below}
use Rattle.fleet_model.proofs.Distinct.{absent_out, distinct_join, distinct_length}
use Rattle.mission_model.specs.Outcomes.{blocker_of, ComeNext, IsBehindList, blockers_on, behind_of}

-- the robot of a least blocker is one of the fleet
blocker_known : (s : State) (r q : ℕ) → blocker_of s r ≡ Some q → q < length s.fleet.starts
blocker_known s r q h =
    let m = map_some {f = λ (b : ClaimNo × ℕ). b.1} (least_blocker s.fleet.site (ends s.fleet) r (needs s.fleet.site (pending_route s r))) q h in
    subst (λ n. n < length s.fleet.starts) m.2 (blocker_below s.fleet r (pending_route s r) m.0.0 m.0.1 (found_blocks s.fleet r (pending_route s r) m.0 m.1))

-- two lists of those that come next are one
pub behind_one : (s : State) (front : List ℕ) (next : Option ℕ) (xs ys : List ℕ) → ComeNext s front next xs → ComeNext s front next ys → xs ≡ ys
behind_one s front next [] [] h g = refl
behind_one s front next [] (y ∷ ys) h g = absurd (g.1 (h y g.0))
behind_one s front next (x ∷ xs) [] h g = absurd (h.1 (g x h.0))
behind_one s front next (x ∷ xs) (y ∷ ys) h g =
    let e = same_Some x y (sym h.0 ∙ g.0) in
    let rest = behind_one s (front ++ x ∷ []) (blocker_of s x) xs ys h.2 (subst (λ z. ComeNext s (front ++ z ∷ []) (blocker_of s z) ys) (sym e) g.2) in
    ap (λ z. z ∷ xs) e ∙ ap (λ zs. y ∷ zs) rest

-- what is computed: the robots in front, with those that come next behind them
record IsFound (s : State) (front : List ℕ) (next : Option ℕ) (all : List ℕ) : Type 0 where
  rest : List ℕ
  splits : all ≡ front ++ rest
  are : ComeNext s front next rest

module _ (s : State) where
  -- one more robot in front
  known_more : (front : List ℕ) (q : ℕ) → ((p : ℕ) → In p front → p < length s.fleet.starts) → q < length s.fleet.starts → (p : ℕ) → In p (front ++ q ∷ []) → p < length s.fleet.starts
  known_more front q known l p i = elim (In-append_cases front (q ∷ []) i) [
    | inl j ↦ known p j
    | inr j ↦ elim (In_cases j) [ inl e ↦ subst (λ n. n < length s.fleet.starts) (sym e) l | inr k ↦ absurd (In-nil k) ]
  ]

  distinct_more : (front : List ℕ) (q : ℕ) → are_distinct front ≡ true → (In q front → ⊥) → are_distinct (front ++ q ∷ []) ≡ true
  distinct_more front q d out =
      distinct_join front (q ∷ []) d refl (λ p i j. elim (In_cases j) [ inl e ↦ out (subst (λ n. In n front) e i) | inr k ↦ In-nil k ])

  -- where the next robot stands in front already, or there is none, nothing is behind
  stops_here : (front : List ℕ) (next : Option ℕ) → ((q : ℕ) → next ≡ Some q → In q front) → IsFound s front next front
  stops_here front next h = record { rest = []; splits = sym (append-nil front); are = h }

  found : (n : ℕ) (front : List ℕ) (next : Option ℕ) → are_distinct front ≡ true → ((p : ℕ) → In p front → p < length s.fleet.starts) → ((q : ℕ) → next ≡ Some q → q < length s.fleet.starts) → length s.fleet.starts ≤ n + length front
      → IsFound s front next (blockers_on s n front next)
  found n front None d known below room = stops_here front None (λ q e. absurd (cc))
  found zero front (Some q) d known below room = stops_here front (Some q) (λ p e. subst (λ x. In x front) (same_Some q p e) (full (list_any (λ p. p == q) front) refl))
    where
      full : (b : Bool) → list_any (λ p. p == q) front ≡ b → In q front
      full true e = let m = any_In (λ p. p == q) front e in subst (λ x. In x front) (eqb-true m.0 q m.2) m.1
      full false e =
          let more = distinct_length (length s.fleet.starts) (front ++ q ∷ []) (distinct_more front q d (absent_out q front e)) (known_more front q known (below q refl)) in
          let long = length-append front (q ∷ []) in
          absurd (omega arith)
  found (suc n) front (Some q) d known below room = go (list_any (λ p. p == q) front) refl (found n (front ++ q ∷ []) (blocker_of s q))
    where
      go : (b : Bool) → list_any (λ p. p == q) front ≡ b
          → (are_distinct (front ++ q ∷ []) ≡ true → ((p : ℕ) → In p (front ++ q ∷ []) → p < length s.fleet.starts) → ((p : ℕ) → blocker_of s q ≡ Some p → p < length s.fleet.starts) → length s.fleet.starts ≤ n + length (front ++ q ∷ []) → IsFound s (front ++ q ∷ []) (blocker_of s q) (blockers_on s n (front ++ q ∷ []) (blocker_of s q)))
          → IsFound s front (Some q) (cond b front (blockers_on s n (front ++ q ∷ []) (blocker_of s q)))
      go true e ih = stops_here front (Some q) (λ p k. let m = any_In (λ p. p == q) front e in subst (λ x. In x front) (eqb-true m.0 q m.2 ∙ same_Some q p k) m.1)
      go false e ih =
          let out = absent_out q front e in
          let long = length-append front (q ∷ []) in
          let r = ih (distinct_more front q d out) (known_more front q known (below q refl)) (blocker_known s q) (omega arith) in
          record { rest = q ∷ r.rest; splits = r.splits ∙ append_assoc front (q ∷ []) r.rest; are = (refl, out, r.are) }

  -- the list that is computed is that of the robots that a robot is behind
  pub behind_found : (r : ℕ) → IsBehindList s r (behind_of s r)
  behind_found r =
      let f = found (length s.fleet.starts) [] (blocker_of s r) refl (λ p i. absurd (In-nil i)) (blocker_known s r) (omega arith) in
      subst (IsBehindList s r) (sym f.splits) f.are
