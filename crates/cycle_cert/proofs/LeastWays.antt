-- The least way back by the first level that has the number is the least cycle.
use Rattle.std.proofs.Common.{zero, suc, ◌≡◌, ℕ, ◌<◌, ◌≤◌, Bool, true, ◌==◌, ◌&&◌, ◌⊎◌, inl, inr, refl, sym, ap, subst, List, [], ◌∷◌, length, arith, eq-eqb}
use Rattle.std.proofs.lemmas.Bool.{cases_eq, cases_lt, and_parts, and_from, or_left, or_right, cases_order, lt-ltb, false_from_ne_true}
use Rattle.std.specs.Prelude.{nat_lt}
use Rattle.fleet_model.specs.Lists.{In}
use Rattle.fleet_model.specs.Cycles.{leads, is_cycle, is_upto, precedes, IsLeastCycle}
use Rattle.fleet_model.proofs.Cycles.{cycle_parts, cycle_distinct}
use Rattle.fleet_model.proofs.Distinct.{distinct_length}
use Rattle.fleet_model.proofs.Lists.{In_either}
use Rattle.cycle_cert.specs.Ways.{Returns, IsLeastWay, IsWayShown}
use Rattle.cycle_cert.proofs.Shortcuts.{IsLeastWalk, least_walk_cycle}

module _ (edge : ℕ → ℕ → Bool) (z : ℕ) where
  -- a least way leads back
  pub way_leads : (v : ℕ) (ws : List ℕ) → IsLeastWay edge z v ws → leads edge z (v ∷ ws) ≡ true
  way_leads v [] h = h
  way_leads v (w ∷ ws) h = and_from (edge v w) (leads edge z (w ∷ ws)) h.0 (way_leads w ws h.2)

  -- a least way comes no later than any other that is as long
  way_upto : (v : ℕ) (ws us : List ℕ) → length us ≡ length ws → IsLeastWay edge z v ws → leads edge z (v ∷ us) ≡ true → is_upto ws us ≡ true
  way_upto v [] us e h c = refl
  way_upto v (w ∷ ws) [] e h c = absurd (omega arith)
  way_upto v (w ∷ ws) (u ∷ us) e h c = go (cases_order w u) (way_upto w ws us (omega arith) h.2)
    where
      p : (edge v u ≡ true) × (leads edge z (u ∷ us) ≡ true)
      p = and_parts (edge v u) (leads edge z (u ∷ us)) c

      upto : w ≤ u
      upto = h.1 u p.0 (record { over = us; long = omega arith; closed = p.1 })

      go : (w ≡ u) ⊎ ((w < u) ⊎ (u < w)) → (leads edge z (w ∷ us) ≡ true → is_upto ws us ≡ true) → is_upto (w ∷ ws) (u ∷ us) ≡ true
      go (inl same) ih =
          or_right (nat_lt w u) ((w == u) && is_upto ws us)
          (and_from (w == u) (is_upto ws us) (eq-eqb w u same) (ih (subst (λ x. leads edge z (x ∷ us) ≡ true) (sym same) p.1)))
      go (inr (inl l)) ih = or_left (nat_lt w u) ((w == u) && is_upto ws us) (lt-ltb w u l)
      go (inr (inr l)) ih = let k = upto in absurd (omega arith)

-- a list that is as long and comes no later precedes
as_long : (xs ys : List ℕ) → length xs ≡ length ys → is_upto xs ys ≡ true → precedes xs ys ≡ true
as_long xs ys e h = or_right (nat_lt (length xs) (length ys)) ((length xs == length ys) && is_upto xs ys) (and_from (length xs == length ys) (is_upto xs ys) (eq-eqb (length xs) (length ys) e) h)

-- a shorter list precedes
as_short : (xs ys : List ℕ) → length xs < length ys → precedes xs ys ≡ true
as_short xs ys l = or_left (nat_lt (length xs) (length ys)) ((length xs == length ys) && is_upto xs ys) (lt-ltb (length xs) (length ys) l)

-- both lists begin with the number
upto_behind : (r : ℕ) (xs ys : List ℕ) → is_upto xs ys ≡ true → is_upto (r ∷ xs) (r ∷ ys) ≡ true
upto_behind r xs ys h = or_right (nat_lt r r) ((r == r) && is_upto xs ys) (and_from (r == r) (is_upto xs ys) (eq-eqb r r refl) h)

-- a least way back over as few as can be is the least walk
least_way_walk : (edge : ℕ → ℕ → Bool) (r : ℕ) (vs : List ℕ) → IsLeastWay edge r r vs → ((k : ℕ) → k < length vs → Returns edge r k r → ⊥) → IsLeastWalk edge r vs
least_way_walk edge r vs way none = record { closed = way_leads edge r r vs way; least = λ ws c. go ws c (cases_order (length ws) (length vs)) }
  where
    go : (ws : List ℕ) → leads edge r (r ∷ ws) ≡ true → (length ws ≡ length vs) ⊎ ((length ws < length vs) ⊎ (length vs < length ws)) → precedes (r ∷ vs) (r ∷ ws) ≡ true
    go ws c (inl e) = as_long (r ∷ vs) (r ∷ ws) (omega arith) (upto_behind r vs ws (way_upto edge r r vs ws e way c))
    go ws c (inr (inl l)) = absurd (none (length ws) l (record { over = ws; long = refl; closed = c }))
    go ws c (inr (inr l)) = as_short (r ∷ vs) (r ∷ ws) (omega arith)

-- what is shown of a least way back over as few as can be is the least cycle
pub shown_least : (edge : ℕ → ℕ → Bool) (r between : ℕ) (numbers : List ℕ) → IsWayShown edge r between numbers → ((k : ℕ) → k < between → Returns edge r k r → ⊥) → IsLeastCycle edge r numbers
shown_least edge r between numbers w none =
    let long = w.long in
    subst (λ xs. IsLeastCycle edge r xs) (sym w.shown) (least_walk_cycle edge r w.way (least_way_walk edge r w.way w.least (λ k l. none k (omega arith))))

-- what is led to is below the bound of what edges lead to
leads_below : (edge : ℕ → ℕ → Bool) (n : ℕ) → ((a b : ℕ) → edge a b ≡ true → b < n) → (z x : ℕ) (xs : List ℕ) → leads edge z (x ∷ xs) ≡ true → (z < n) × ((y : ℕ) → In y xs → y < n)
leads_below edge n bounded z x [] h = (bounded x z h, λ y i. elim i [ ])
leads_below edge n bounded z x (w ∷ ws) h =
    let p = and_parts (edge x w) (leads edge z (w ∷ ws)) h in
    let r = leads_below edge n bounded z w ws p.1 in
    (r.0, λ y i. In_either i (λ e. subst (λ q. q < n) (sym e) (bounded x w p.0)) (λ j. r.1 y j))

-- the numbers of a cycle are below the bound of what edges lead to
pub cycle_inside : (edge : ℕ → ℕ → Bool) (n r : ℕ) → ((a b : ℕ) → edge a b ≡ true → b < n) → (ys : List ℕ) → is_cycle edge r ys ≡ true → (x : ℕ) → In x ys → x < n
cycle_inside edge n r bounded ys h x i =
    let p = cycle_parts edge r ys h in
    let below = leads_below edge n bounded r r p.others (subst (λ xs. leads edge r xs ≡ true) p.begins p.leads_back) in
    In_either (subst (λ xs. In x xs) p.begins i) (λ e. subst (λ q. q < n) (sym e) below.0) (λ j. below.1 x j)

-- a cycle of a relation to numbers below n leads back over fewer than n
cycle_returns : (edge : ℕ → ℕ → Bool) (n r : ℕ) → ((a b : ℕ) → edge a b ≡ true → b < n) → (ys : List ℕ) → is_cycle edge r ys ≡ true → (k : ℕ) × (k < n) × Returns edge r k r
cycle_returns edge n r bounded ys h =
    let p = cycle_parts edge r ys h in
    let back : leads edge r (r ∷ p.others) ≡ true = subst (λ xs. leads edge r xs ≡ true) p.begins p.leads_back in
    let short = distinct_length n ys (cycle_distinct edge r ys h) (cycle_inside edge n r bounded ys h) in
    let long : length ys ≡ length (r ∷ p.others) = ap length p.begins in
    (length p.others, omega arith, record { over = p.others; long = refl; closed = back })

-- where the number isn't reached over fewer than n, there is no cycle through it of a relation to numbers below n
pub none_least : (edge : ℕ → ℕ → Bool) (n r : ℕ) → ((a b : ℕ) → edge a b ≡ true → b < n) → ((k : ℕ) → k < n → Returns edge r k r → ⊥) → IsLeastCycle edge r []
none_least edge n r bounded none = λ ys. false_from_ne_true (is_cycle edge r ys) (λ h. let c = cycle_returns edge n r bounded ys h in none c.0 c.1 c.2)

-- numbers lead back over one more where one leads to the first of them
pub Returns_step : (edge : ℕ → ℕ → Bool) (z k v q : ℕ) → edge v q ≡ true → Returns edge z k q → Returns edge z (suc k) v
Returns_step edge z k v q e r = record {
  over = q ∷ r.over;
  long = let l = r.long in omega arith;
  closed = and_from (edge v q) (leads edge z (q ∷ r.over)) e r.closed;
}

-- what leads back over one more leads to what leads back
pub Returns_next : (edge : ℕ → ℕ → Bool) (z k v : ℕ) → Returns edge z (suc k) v → (q : ℕ) × (edge v q ≡ true) × Returns edge z k q
Returns_next edge z k v r = go r.over r.long r.closed
  where
    go : (ws : List ℕ) → length ws ≡ suc k → leads edge z (v ∷ ws) ≡ true → (q : ℕ) × (edge v q ≡ true) × Returns edge z k q
    go [] l c = absurd (omega arith)
    go (q ∷ qs) l c = let p = and_parts (edge v q) (leads edge z (q ∷ qs)) c in (q, p.0, record { over = qs; long = omega arith; closed = p.1 })

-- just those numbers lead back over none that lead to z
pub Returns_none : (edge : ℕ → ℕ → Bool) (z v : ℕ) → Returns edge z 0 v → edge v z ≡ true
Returns_none edge z v r = go r.over r.long r.closed
  where
    go : (ws : List ℕ) → length ws ≡ 0 → leads edge z (v ∷ ws) ≡ true → edge v z ≡ true
    go [] l c = c
    go (q ∷ qs) l c = absurd (omega arith)

pub none_Returns : (edge : ℕ → ℕ → Bool) (z v : ℕ) → edge v z ≡ true → Returns edge z 0 v
none_Returns edge z v h = record { over = []; long = refl; closed = h }

-- where all that lead back over k lead back over fewer, so do all that lead back over any number
pub returns_within : (edge : ℕ → ℕ → Bool) (z k : ℕ) → ((a b : ℕ) → edge a b ≡ true → b < 64) → ((v : ℕ) → v < 64 → Returns edge z k v → (i : ℕ) × (i < k) × Returns edge z i v) → (j v : ℕ) → v < 64 → Returns edge z j v → (i : ℕ) × (i < k) × Returns edge z i v
returns_within edge z k bounded near zero v known r = elim (cases_lt 0 k) [
  | inl l ↦ (0, l, r)
  | inr past ↦ near v known (let none : 0 ≡ k = omega arith in subst (λ n. Returns edge z n v) none r)
]
returns_within edge z k bounded near (suc j) v known r =
    let n = Returns_next edge z j v r in
    let rest = returns_within edge z k bounded near j n.0 (bounded v n.0 n.1) n.2 in
    let more = Returns_step edge z rest.0 v n.0 n.1 rest.2 in
    elim (cases_eq (suc rest.0) k) [
      | inl same ↦ near v known (subst (λ m. Returns edge z m v) same more)
      | inr other ↦ (suc rest.0, (let l = rest.1 in omega arith), more)
    ]
