-- The least closed walk is the least cycle: a walk that comes to one number twice has a shorter one.
use Rattle.std.proofs.Common.{◌≡◌, ℕ, ◌+◌, ◌≤◌, Bool, true, false, not, ◌==◌, ◌&&◌, ◌⊎◌, inl, inr, refl, sym, ap, ◌∙◌, subst, List, [], ◌∷◌, ◌++◌, length, arith}
use Rattle.std.proofs.lemmas.Bool.{both_ways, and_parts, and_from, and_cases, or_cases, not-false, ltb-true, eqb-true, true_from_ne_false}
use Rattle.std.proofs.lemmas.List.{length-append}
use Rattle.std.specs.Prelude.{nat_lt}
use Rattle.std.specs.List.{list_any}
use Rattle.fleet_model.specs.Lists.{In}
use Rattle.fleet_model.specs.Cycles.{leads, are_distinct, is_upto, precedes, IsLeastCycle}
use Rattle.fleet_model.proofs.Cycles.{cycle_parts, cycle_from}
use Rattle.fleet_model.proofs.Lists.{In_split}
use Rattle.fleet_model.proofs.Tests.{any_In}

-- of all closed walks that begin with r, the least: shortest first, then as in a dictionary
pub record IsLeastWalk (edge : ℕ → ℕ → Bool) (r : ℕ) (vs : List ℕ) : Type 0 where
  pub closed : leads edge r (r ∷ vs) ≡ true
  pub least : (ws : List ℕ) → leads edge r (r ∷ ws) ≡ true → precedes (r ∷ vs) (r ∷ ws) ≡ true

-- a list that comes to a number twice
record Repeats (ws : List ℕ) : Type 0 where
  front : List ℕ
  again : ℕ
  loop : List ℕ
  rest : List ℕ
  split : ws ≡ front ++ again ∷ (loop ++ again ∷ rest)

-- a list whose numbers don't all differ comes to one twice
repeated : (ws : List ℕ) → are_distinct ws ≡ false → Repeats ws
repeated [] h = absurd (both_ways true h refl)
repeated (w ∷ ws) h = go (and_cases (not (list_any (λ q. q == w) ws)) (are_distinct ws) h) (repeated ws)
  where
    go : (not (list_any (λ q. q == w) ws) ≡ false) ⊎ (are_distinct ws ≡ false) → (are_distinct ws ≡ false → Repeats ws) → Repeats (w ∷ ws)
    go (inl t) ih =
        let q = any_In (λ q. q == w) ws (not-false (list_any (λ q. q == w) ws) t) in
        let same : q.0 ≡ w = eqb-true q.0 w q.2 in
        let s = In_split ws (subst (λ x. In x ws) same q.1) in
        record { front = []; again = w; loop = s.0; rest = s.1; split = ap (λ zs. w ∷ zs) s.2 }
    go (inr f) ih = let r = ih f in record { front = w ∷ r.front; again = r.again; loop = r.loop; rest = r.rest; split = ap (λ zs. w ∷ zs) r.split }

module _ (edge : ℕ → ℕ → Bool) (z : ℕ) where
  leads_tail : (x y : ℕ) (ys : List ℕ) → leads edge z (x ∷ y ∷ ys) ≡ true → leads edge z (y ∷ ys) ≡ true
  leads_tail x y ys h = (and_parts (edge x y) (leads edge z (y ∷ ys)) h).1

  -- the end of a chain leads on
  pub leads_behind : (xs : List ℕ) (a : ℕ) (rest : List ℕ) → leads edge z (xs ++ a ∷ rest) ≡ true → leads edge z (a ∷ rest) ≡ true
  leads_behind [] a rest h = h
  leads_behind (x ∷ []) a rest h = leads_tail x a rest h
  leads_behind (x ∷ y ∷ ys) a rest h = leads_behind (y ∷ ys) a rest (leads_tail x y (ys ++ a ∷ rest) h)

  -- what stands between two times of one number may be left out
  shortcut : (xs : List ℕ) (a : ℕ) (ys zs : List ℕ) → leads edge z (xs ++ a ∷ (ys ++ a ∷ zs)) ≡ true → leads edge z (xs ++ a ∷ zs) ≡ true
  shortcut [] a ys zs h = leads_behind (a ∷ ys) a zs h
  shortcut (x ∷ []) a ys zs h = let p = and_parts (edge x a) (leads edge z (a ∷ (ys ++ a ∷ zs))) h in and_from (edge x a) (leads edge z (a ∷ zs)) p.0 (shortcut [] a ys zs p.1)
  shortcut (x ∷ y ∷ xs) a ys zs h = let p = and_parts (edge x y) (leads edge z (y ∷ (xs ++ a ∷ (ys ++ a ∷ zs)))) h in and_from (edge x y) (leads edge z (y ∷ (xs ++ a ∷ zs))) p.0 (shortcut (y ∷ xs) a ys zs p.1)

precedes_length : (xs ys : List ℕ) → precedes xs ys ≡ true → length xs ≤ length ys
precedes_length xs ys h = elim (or_cases (nat_lt (length xs) (length ys)) ((length xs == length ys) && is_upto xs ys) h)
    [ inl l ↦ (let k = ltb-true (length xs) (length ys) l in omega arith) | inr e ↦ (let k = eqb-true (length xs) (length ys) (and_parts (length xs == length ys) (is_upto xs ys) e).0 in omega arith) ]

-- a least walk comes to no number twice
no_repeat : (edge : ℕ → ℕ → Bool) (r : ℕ) (vs : List ℕ) → IsLeastWalk edge r vs → Repeats (r ∷ vs) → ⊥
no_repeat edge r vs walk rep = go rep.front refl
  where
    long : length (r ∷ vs) ≡ length rep.front + (1 + (length rep.loop + (1 + length rep.rest)))
    long = ap length rep.split ∙ (length-append rep.front (rep.again ∷ (rep.loop ++ rep.again ∷ rep.rest)) ∙ ap (λ n. length rep.front + n) (let l = length-append rep.loop (rep.again ∷ rep.rest) in omega arith))

    shorter : (ws : List ℕ) → r ∷ ws ≡ rep.front ++ rep.again ∷ rep.rest → ⊥
    shorter ws e =
        let closed = subst (λ zs. leads edge r zs ≡ true) (sym e) (shortcut edge r rep.front rep.again rep.loop rep.rest (subst (λ zs. leads edge r zs ≡ true) rep.split walk.closed)) in
        let l = precedes_length (r ∷ vs) (r ∷ ws) (walk.least ws closed) in
        let k : length (r ∷ ws) ≡ length rep.front + (1 + length rep.rest) = ap length e ∙ (length-append rep.front (rep.again ∷ rep.rest) ∙ ap (λ n. length rep.front + n) (omega arith)) in
        let j = long in
        omega arith

    go : (front : List ℕ) → rep.front ≡ front → ⊥
    go [] e =
        let s : r ∷ vs ≡ [] ++ rep.again ∷ (rep.loop ++ rep.again ∷ rep.rest) = rep.split ∙ ap (λ f. f ++ rep.again ∷ (rep.loop ++ rep.again ∷ rep.rest)) e in
        let same : r ≡ rep.again = cc in
        shorter rep.rest (ap (λ x. x ∷ rep.rest) same ∙ ap (λ f. f ++ rep.again ∷ rep.rest) (sym e))
    go (x ∷ xs) e =
        let s : r ∷ vs ≡ x ∷ (xs ++ rep.again ∷ (rep.loop ++ rep.again ∷ rep.rest)) = rep.split ∙ ap (λ f. f ++ rep.again ∷ (rep.loop ++ rep.again ∷ rep.rest)) e in
        let same : r ≡ x = cc in
        shorter (xs ++ rep.again ∷ rep.rest) (ap (λ y. y ∷ (xs ++ rep.again ∷ rep.rest)) same ∙ ap (λ f. f ++ rep.again ∷ rep.rest) (sym e))

-- the least closed walk is the least cycle
pub least_walk_cycle : (edge : ℕ → ℕ → Bool) (r : ℕ) (vs : List ℕ) → IsLeastWalk edge r vs → IsLeastCycle edge r (r ∷ vs)
least_walk_cycle edge r vs walk = (
  cycle_from edge r vs (true_from_ne_false (are_distinct (r ∷ vs)) (λ f. no_repeat edge r vs walk (repeated (r ∷ vs) f))) walk.closed,
  λ ys h. let p = cycle_parts edge r ys h in
      let e : ys ≡ r ∷ p.others = p.begins in
      subst (λ xs. precedes (r ∷ vs) xs ≡ true) (sym e) (walk.least p.others (subst (λ xs. leads edge r xs ≡ true) e p.leads_back)),
)
