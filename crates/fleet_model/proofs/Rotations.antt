-- A cycle may begin at each of its members; a cycle of deferrals stands where its deferrals do.
use Rattle.std.proofs.Common.{◌≡◌, ◌≢◌, ◌↔◌, ℕ, Bool, true, refl, sym, subst, List, [], ◌∷◌, ◌++◌, length}
use Rattle.std.proofs.lemmas.Bool.{both_ways, and_parts, and_from}
use Rattle.fleet_model.specs.Lists.{In}
use Rattle.fleet_model.specs.Cycles.{leads, are_distinct, is_cycle, IsLeastCycle}
use Rattle.fleet_model.specs.States.{State, is_deferred_on, IsDeferredOn, cycle_of}
use Rattle.fleet_model.specs.Sound.{IsCycle}
use Rattle.fleet_model.proofs.Lists.{In_split, In_swap}
use Rattle.fleet_model.proofs.Distinct.{distinct_split, distinct_join}
use Rattle.fleet_model.proofs.Cycles.{IsCycleOf, cycle_parts, cycle_from, cycle_next, cycle_on}
use Rattle.fleet_model.proofs.Deferrals.{deferred_true, true_deferred, cycle_of_least}

module _ (edge : ℕ → ℕ → Bool) where
  -- the end of a chain leads on
  leads_behind : (z : ℕ) (xs : List ℕ) (a : ℕ) (rest : List ℕ) → leads edge z (xs ++ a ∷ rest) ≡ true → leads edge z (a ∷ rest) ≡ true
  leads_behind z [] a rest h = h
  leads_behind z (x ∷ []) a rest h = (and_parts (edge x a) (leads edge z (a ∷ rest)) h).1
  leads_behind z (x ∷ y ∷ ys) a rest h = leads_behind z (y ∷ ys) a rest (and_parts (edge x y) (leads edge z (y ∷ (ys ++ a ∷ rest))) h).1

  -- the beginning of a chain leads to what follows
  leads_front : (z x : ℕ) (xs : List ℕ) (a : ℕ) (rest : List ℕ) → leads edge z (x ∷ (xs ++ a ∷ rest)) ≡ true → leads edge a (x ∷ xs) ≡ true
  leads_front z x [] a rest h = (and_parts (edge x a) (leads edge z (a ∷ rest)) h).0
  leads_front z x (y ∷ ys) a rest h =
      let p = and_parts (edge x y) (leads edge z (y ∷ (ys ++ a ∷ rest))) h in
      and_from (edge x y) (leads edge a (y ∷ ys)) p.0 (leads_front z y ys a rest p.1)

  -- a chain to z and a chain from z are one chain
  leads_join : (r z x : ℕ) (xs zs : List ℕ) → leads edge z (x ∷ xs) ≡ true → leads edge r (z ∷ zs) ≡ true → leads edge r (x ∷ (xs ++ z ∷ zs)) ≡ true
  leads_join r z x [] zs h g = and_from (edge x z) (leads edge r (z ∷ zs)) h g
  leads_join r z x (y ∷ ys) zs h g =
      let p = and_parts (edge x y) (leads edge z (y ∷ ys)) h in
      and_from (edge x y) (leads edge r (y ∷ (ys ++ z ∷ zs))) p.0 (leads_join r z y ys zs p.1 g)

-- the same cycle, begun with r
pub record IsTurned (edge : ℕ → ℕ → Bool) (zs : List ℕ) (r : ℕ) (rs : List ℕ) : Type 0 where
  pub cycle : is_cycle edge r (r ∷ rs) ≡ true
  pub inside : (x : ℕ) → In x (r ∷ rs) → In x zs
  pub all : (x : ℕ) → In x zs → In x (r ∷ rs)

-- a cycle may begin with each of its members
pub cycle_turns : (edge : ℕ → ℕ → Bool) (z : ℕ) (zs : List ℕ) (r : ℕ) → is_cycle edge z zs ≡ true → In r zs → (rs : List ℕ) × IsTurned edge zs r rs
cycle_turns edge z zs r h m = let s = In_split zs m in go s.0 s.1 s.2 (cycle_parts edge z zs h)
  where
    go : (before behind : List ℕ) → zs ≡ before ++ r ∷ behind → IsCycleOf edge z zs → (rs : List ℕ) × IsTurned edge zs r rs
    go [] behind e p =
        let b = p.begins in
        let same : z ≡ r = cc in (
          behind,
          record {
            cycle = subst (λ ys. is_cycle edge r ys ≡ true) e (subst (λ w. is_cycle edge w zs ≡ true) same h);
            inside = λ x i. subst (λ ys. In x ys) (sym e) i;
            all = λ x i. subst (λ ys. In x ys) e i;
          },
        )
    go (b ∷ bs) behind e p =
        let begins = p.begins in
        let same : b ≡ z = cc in
        let chain : leads edge b (b ∷ (bs ++ r ∷ behind)) ≡ true = subst (λ w. leads edge w (b ∷ (bs ++ r ∷ behind)) ≡ true) (sym same) (subst (λ ys. leads edge z ys ≡ true) e p.leads_back) in
        let d = distinct_split (b ∷ bs) (r ∷ behind) (subst (λ ys. are_distinct ys ≡ true) e p.distinct) in (
          behind ++ b ∷ bs,
          record {
            cycle = cycle_from edge r (behind ++ b ∷ bs) (distinct_join (r ∷ behind) (b ∷ bs) d.1 d.0 (λ x i j. d.2 x j i))
                (leads_join edge r b r behind bs (leads_behind edge b (b ∷ bs) r behind chain) (leads_front edge b b bs r behind chain));
            inside = λ x i. subst (λ ys. In x ys) (sym e) (In_swap (r ∷ behind) (b ∷ bs) i);
            all = λ x i. In_swap (b ∷ bs) (r ∷ behind) (subst (λ ys. In x ys) e i);
          },
        )

-- a least cycle that isn't empty is a cycle
pub least_is_cycle : (edge : ℕ → ℕ → Bool) (r : ℕ) (xs : List ℕ) → IsLeastCycle edge r xs → xs ≢ [] → is_cycle edge r xs ≡ true
least_is_cycle edge r [] h n = absurd (n refl)
least_is_cycle edge r (x ∷ xs) h n = h.0

-- the least cycle is empty exactly where there is no cycle
pub least_cycle_some : (edge : ℕ → ℕ → Bool) (r : ℕ) (xs : List ℕ) → IsLeastCycle edge r xs → (xs ≢ []) ↔ ((others : List ℕ) × (is_cycle edge r (r ∷ others) ≡ true))
least_cycle_some edge r [] h = (λ n. absurd (n refl), λ c. absurd (both_ways (is_cycle edge r (r ∷ c.0)) (h (r ∷ c.0)) c.1))
least_cycle_some edge r (x ∷ xs) h = (λ n. let p = cycle_parts edge r (x ∷ xs) h.0 in (p.others, subst (λ ys. is_cycle edge r ys ≡ true) p.begins h.0), λ c n. absurd (cc))

-- each member of a cycle of deferrals is deferred on a member
pub cycle_closed : (s : State) (members : List ℕ) → IsCycle s members → (x : ℕ) → In x members → (y : ℕ) × In y members × IsDeferredOn s x y
cycle_closed s [] h x i = absurd h
cycle_closed s (r ∷ rs) h x i = let n = cycle_next (is_deferred_on s) r (r ∷ rs) h x i in (n.0, n.1, deferred_true s x n.0 n.2)

-- a cycle of deferrals stands in another state where each deferral between its members does
pub cycle_stands : (s n : State) (members : List ℕ) → ((a b : ℕ) → In a members → In b members → IsDeferredOn s a b → IsDeferredOn n a b) → IsCycle s members → IsCycle n members
cycle_stands s n [] f h = h
cycle_stands s n (r ∷ rs) f h = cycle_on (is_deferred_on s) (is_deferred_on n) r (r ∷ rs) (λ a b i j d. true_deferred n a b (f a b i j (deferred_true s a b d))) h

-- a cycle of deferrals may begin with each of its members
pub deferrals_turn : (s : State) (members : List ℕ) (r : ℕ) → IsCycle s members → In r members → (rs : List ℕ) × IsCycle s (r ∷ rs) × ((x : ℕ) → In x (r ∷ rs) → In x members) × ((x : ℕ) → In x members → In x (r ∷ rs))
deferrals_turn s [] r h m = absurd h
deferrals_turn s (z ∷ zs) r h m = let t = cycle_turns (is_deferred_on s) z (z ∷ zs) r h m in (t.0, t.1.cycle, t.1.inside, t.1.all)

-- the cycle of a state is empty exactly where there is no cycle through the robot
pub cycle_of_some : (s : State) (r : ℕ) → length s.pending ≡ length s.fleet.starts → (cycle_of s r ≢ []) ↔ ((others : List ℕ) × IsCycle s (r ∷ others))
cycle_of_some s r e = least_cycle_some (is_deferred_on s) r (cycle_of s r) (cycle_of_least s r e)
