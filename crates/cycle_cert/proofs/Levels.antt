-- The levels of the search, and the way along them.
use Rattle.std.proofs.Common.{◌≡◌, ◌↔◌, ◌||◌, eqb, bit_or, ℕ, ◌+◌, ◌-◌, ◌<◌, ◌≤◌, Bool, true, false, inl, inr, refl, sym, ap, ◌∙◌, subst, List, [], ◌∷◌, ◌++◌, length, get_or, set, arith, get_or-set_same, get_or-set_other, append_assoc}
use Rattle.std.proofs.lemmas.Bool.{both_ways, and_parts, cases_eq, ltb-true, or_cases, or_right}
use Rattle.std.proofs.lemmas.List.{append-nil, map-append, length-append}
use Rattle.std.specs.Prelude.{nat_lt}
use Rattle.std.specs.Ordering.{nat_cmp}
use Rattle.std.specs.FinSet.{FinSet, contains}
use Rattle.fleet_base.specs.EdgeSets.{leads, edge_place}
use Rattle.fleet_base.specs.Lists.{numbers_of}
use Rattle.fleet_base.specs.declared.numbers.RobotNo.{RobotNo}
use Rattle.bit_set.specs.Words.{is_in}
use Rattle.cycle_cert.specs.Members.{LeadsInto}
use Rattle.cycle_cert.specs.Ways.{Returns, IsLeastWay, AreLevels, IsWayShown}
use Rattle.cycle_cert.proofs.LeastWays.{Returns_step, Returns_next, Returns_none, none_Returns, returns_within}
use Rattle.bit_set.proofs.WordBits.{is_in-zero}
use Rattle.cycle_cert.proofs.Bits.{into_one, is_in-or}

-- edges lead to robots below 64 alone
pub leads_below_64 : (edges : FinSet nat_cmp) (a b : ℕ) → leads edges a b ≡ true → b < 64
leads_below_64 edges a b h = ltb-true b 64 (and_parts (nat_lt b 64) (contains edges (edge_place a b)) h).0

-- the levels so far, the next one, what is in some level so far, and that the number itself is in none
pub record IsSearched (edge : ℕ → ℕ → Bool) (z : ℕ) (sets : List ℕ) (next seen between : ℕ) : Type 0 where
  pub levels : AreLevels edge z sets between
  pub level : (v : ℕ) → v < 64 → (is_in next v ≡ true) ↔ Returns edge z between v
  pub nearer : (v : ℕ) → v < 64 → is_in seen v ≡ true → (k : ℕ) × (k < between) × Returns edge z k v
  pub none : (k : ℕ) → k < between → Returns edge z k z → ⊥

-- the first level is what leads to the number
pub searched_first : (edge : ℕ → ℕ → Bool) (z : ℕ) (levels : List ℕ) (level one : ℕ) → ((q : ℕ) → is_in one q ≡ (eqb q z || is_in 0 q)) → ((v : ℕ) → v < 64 → (is_in level v ≡ true) ↔ LeadsInto edge one v) → IsSearched edge z levels level 0 0
searched_first edge z levels level one alone into = record {
  levels = λ k v l m. absurd (omega arith);
  level = λ v l. (
    λ h. none_Returns edge z v ((into_one edge one z v alone).0 ((into v l).0 h)),
    λ r. (into v l).1 ((into_one edge one z v alone).1 (Returns_none edge z v r)),
  );
  nearer = λ v l h. absurd (both_ways (is_in 0 v) (is_in-zero v) h);
  none = λ k l. absurd (omega arith);
}

-- one more level, where the number isn't in this one
pub searched_more : (edge : ℕ → ℕ → Bool) (z : ℕ) (levels : List ℕ) (level seen between more : ℕ) → ((a b : ℕ) → edge a b ≡ true → b < 64) → ((v : ℕ) → v < 64 → (is_in more v ≡ true) ↔ LeadsInto edge level v) → z < 64 → between < length levels → is_in level z ≡ false → IsSearched edge z levels level seen between → IsSearched edge z (set levels between level) more (bit_or seen level) (between + 1)
searched_more edge z levels level seen between more bounded into known room absent s = record {
  levels = λ k v l m. elim (cases_eq k between) [
    | inl same ↦ subst (λ i. (is_in (get_or (set levels between level) i 0) v ≡ true) ↔ Returns edge z i v) (sym same)
        (subst (λ w. (is_in w v ≡ true) ↔ Returns edge z between v) (sym (get_or-set_same levels between level 0 room)) (s.level v m))
    | inr other ↦ subst (λ w. (is_in w v ≡ true) ↔ Returns edge z k v) (sym (get_or-set_other levels between k level 0 other)) (s.levels k v (omega arith) m)
  ];
  level = λ v l. (
    λ h. (let i = (into v l).0 h in Returns_step' v i.over i.leads ((s.level i.over (bounded v i.over i.leads)).0 i.member)),
    λ r. (let n = Returns_next edge z between v (subst (λ k. Returns edge z k v) (omega arith) r) in
        (into v l).1 (record { over = n.0; member = (s.level n.0 (bounded v n.0 n.1)).1 n.2; leads = n.1 })),
  );
  nearer = λ v l h. elim (or_cases (is_in seen v) (is_in level v) (sym (is_in-or seen level v) ∙ h)) [
    | inl before ↦ (let n = s.nearer v l before in (n.0, (let below = n.1 in omega arith), n.2))
    | inr now ↦ (between, omega arith, (s.level v l).0 now)
  ];
  none = λ k l r. elim (cases_eq k between) [
    | inl same ↦ both_ways (is_in level z) absent ((s.level z known).1 (subst (λ i. Returns edge z i z) same r))
    | inr other ↦ s.none k (omega arith) r
  ];
}
  where
    Returns_step' : (v q : ℕ) → edge v q ≡ true → Returns edge z between q → Returns edge z (between + 1) v
    Returns_step' v q e r = subst (λ k. Returns edge z k v) (omega arith) (Returns_step edge z between v q e r)

-- where a level has nothing new, the number is in no level
pub searched_all : (edge : ℕ → ℕ → Bool) (z : ℕ) (levels : List ℕ) (level seen between : ℕ) → ((a b : ℕ) → edge a b ≡ true → b < 64) → z < 64 → bit_or seen level ≡ seen → IsSearched edge z levels level seen between → (k : ℕ) → Returns edge z k z → ⊥
searched_all edge z levels level seen between bounded known same s k r =
    let n = returns_within edge z between bounded (λ v m b. s.nearer v m (ap (λ w. is_in w v) (sym same) ∙ (is_in-or seen level v ∙ or_right (is_in seen v) (is_in level v) ((s.level v m).1 b)))) k z known r in
    s.none n.0 n.1 n.2

-- the way so far: with a least way from here on it is a least way from the number
pub record IsUnderway (edge : ℕ → ℕ → Bool) (z between : ℕ) (cycle : List RobotNo) (at left : ℕ) : Type 0 where
  pub known : at < 64
  pub within : left ≤ between
  pub long : length cycle + left ≡ between + 1
  pub returns : Returns edge z left at
  pub ways : (ws : List ℕ) → length ws ≡ left → IsLeastWay edge z at ws → IsWayShown edge z between (numbers_of cycle ++ ws)

-- at first it is the number alone
pub underway_first : (edge : ℕ → ℕ → Bool) (between : ℕ) (robot : RobotNo) → robot.0 < 64 → Returns edge robot.0 between robot.0 → IsUnderway edge robot.0 between (robot ∷ []) robot.0 between
underway_first edge between robot known returns = record {
  known = known;
  within = omega arith;
  long = omega arith;
  returns = returns;
  ways = λ ws e h. record { way = ws; shown = refl; long = e; least = h };
}

-- a number of the level that follows
pub underway_some : (edge : ℕ → ℕ → Bool) (z between : ℕ) (cycle : List RobotNo) (at left : ℕ) (levels : List ℕ) → ((a b : ℕ) → edge a b ≡ true → b < 64) → AreLevels edge z levels between → 0 < left → IsUnderway edge z between cycle at left → (q : ℕ) × (edge at q ≡ true) × (is_in (get_or levels (left - 1) 0) q ≡ true)
underway_some edge z between cycle at left levels bounded leveled more u =
    let w = u.within in
    let n = Returns_next edge z (left - 1) at (subst (λ k. Returns edge z k at) (omega arith) u.returns) in
    (n.0, n.1, (leveled (left - 1) n.0 (omega arith) (bounded at n.0 n.1)).1 n.2)

-- the least of these is next
pub underway_more : (edge : ℕ → ℕ → Bool) (z between : ℕ) (cycle : List RobotNo) (at left : ℕ) (levels : List ℕ) (next : RobotNo) → ((a b : ℕ) → edge a b ≡ true → b < 64) → AreLevels edge z levels between → 0 < left → edge at next.0 ≡ true → is_in (get_or levels (left - 1) 0) next.0 ≡ true → ((q : ℕ) → edge at q ≡ true → is_in (get_or levels (left - 1) 0) q ≡ true → next.0 ≤ q) → IsUnderway edge z between cycle at left → IsUnderway edge z between (cycle ++ next ∷ []) next.0 (left - 1)
underway_more edge z between cycle at left levels next bounded leveled more follows inside least u = record {
  known = bounded at next.0 follows;
  within = (let w = u.within in omega arith);
  long = (let l = u.long in omega (arith, length-append cycle (next ∷ [])));
  returns = (let w = u.within in (leveled (left - 1) next.0 (omega arith) (bounded at next.0 follows)).0 inside);
  ways = λ ws e h. subst (λ xs. IsWayShown edge z between xs) (turned ws)
      (u.ways (next.0 ∷ ws) (omega arith) (follows, λ m f r. (let w = u.within in least m f ((leveled (left - 1) m (omega arith) (bounded at m f)).1 (subst (λ k. Returns edge z k m) e r))), h));
}
  where
    turned : (ws : List ℕ) → numbers_of cycle ++ next.0 ∷ ws ≡ numbers_of (cycle ++ next ∷ []) ++ ws
    turned ws = sym (ap (λ xs. xs ++ ws) (map-append (λ (r : RobotNo). r.0) cycle (next ∷ [])) ∙ append_assoc (numbers_of cycle) (next.0 ∷ []) ws)

-- at last it is shown
pub underway_last : (edge : ℕ → ℕ → Bool) (z between : ℕ) (cycle : List RobotNo) (at left : ℕ) → left ≡ 0 → IsUnderway edge z between cycle at left → IsWayShown edge z between (numbers_of cycle)
underway_last edge z between cycle at left e u =
    subst (λ xs. IsWayShown edge z between xs) (append-nil (numbers_of cycle))
    (u.ways [] (sym e) (Returns_none edge z at (subst (λ k. Returns edge z k at) e u.returns)))
