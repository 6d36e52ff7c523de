-- The scenario of a drill is one.
use Rattle.std.proofs.Common.{◌≡◌, ◌≢◌, ℕ, zero, suc, ◌+◌, ◌-◌, ◌*◌, ◌<◌, ◌≤◌, Bool, true, false, cond, not, ◌&&◌, ◌||◌, ◌==◌, ◌⊎◌, inl, inr, refl, sym, ap, ◌∙◌, subst, List, [], ◌∷◌, ◌++◌, length, map, get_or, arith, Option, Some, None}
use Rattle.std.proofs.Math.Nat.{mul-le-mul_left}
use Rattle.std.proofs.lemmas.Bool.{and_parts, both_ways, cases_Bool, cases_order, eqb-true, eq-eqb, false_from_ne_true, le-ltb, lt-ltb, ltb-true, ne_eqb, or_from}
use Rattle.std.proofs.lemmas.List.FromFn.{get_or-map-range_with_len, length-map-range_with_len}
use Rattle.std.specs.Prelude.{All, AllPairs, nat_lt, slice_get, flat_map}
use Rattle.std.specs.List.{filter, list_any}
use Rattle.fleet_base.specs.declared.numbers.CellNo.{CellNo}
use Rattle.fleet_base.specs.declared.numbers.ClaimGroup.{ClaimGroup}
use Rattle.fleet_base.specs.declared.numbers.ClaimNo.{ClaimNo}
use Rattle.fleet_model.specs.Lists.{In, here, there, has_cell, numbers_below}
use Rattle.fleet_model.specs.Sites.{Site, exclude, footprint_of, in_conflict, is_kept_from}
use Rattle.fleet_model.proofs.Lists.{below_In, In_All, In_unfilter, In_unflat_map, In_unmap, In_cases, In-nil}
use Rattle.fleet_model.proofs.Tests.{any_In}
use Rattle.fleet_names.specs.Things.{is_area, is_cell, is_crossing, is_robot}
use Rattle.fleet_names.specs.Names.{Named, count_of}
use Rattle.fleet_names.specs.declared.thing.Thing.{Thing}
use Rattle.fleet_names.specs.declared.thing.Thing.TheVariants as thing
use Rattle.scenario.specs.Scenarios.{do_conflict, IsMission, IsScenario, NamesAll}
use Rattle.site_map.specs.Built.{BuiltSite}
use Rattle.site_map.specs.Cells.{cells_below, in_order}
use Rattle.site_map.specs.Claims.{cell_group, claims_from, footprint_in, groups_of, site_of}
use Rattle.site_map.specs.Crossings.{BuiltCrossing, claim_count_of, flow_of}
use Rattle.site_map.specs.Goals.{IsGoal}
use Rattle.site_map.specs.declared.goal.Goal.{Goal}
use Rattle.site_map.specs.declared.goal.Goal.TheVariants as goal
use Rattle.site_map.proofs.SiteLemmas.{footprint_at, group_of_cell}
use Rattle.scenario_gen.specs.Draws.{draw, drawn, after_draws}
use Rattle.scenario_gen.specs.Grids.{block, cell, corners, crossing, crossings, crossings_in, site}
use Rattle.scenario_gen.specs.Generated.{before_robot, leg, mission, missions, names, numbered, scenario_on, start}
use Rattle.scenario_gen.proofs.Counting.{all_counted, count_of-append, none_counted}
use Rattle.fleet_names.proofs.Steps.{count_of-holds, count_of-fails}
use Rattle.std.specs.Prelude.{codes}
use Rattle.std.specs.Fmt.{decimal}
use Rattle.scenario_gen.proofs.Drawn.{draw_below}

-- Cells in no crossing.

-- a cell that isn't among these isn't among them in order
not_in_order : (n : ℕ) (cells : List CellNo) (c : CellNo) → has_cell cells c ≡ false → has_cell (in_order n cells) c ≡ false
not_in_order n cells c out =
    false_from_ne_true (has_cell (in_order n cells) c) (λ t.
    let m = any_In (λ (b : CellNo). b.0 == c.0) (in_order n cells) t in
    let same : m.0.0 ≡ c.0 = eqb-true m.0.0 c.0 m.2 in
    let has : has_cell cells m.0 ≡ true = (In_unfilter (has_cell cells) (cells_below n) m.1).1 in
    both_ways (has_cell cells c) out (subst (λ k. has_cell cells (record { 0 = k }) ≡ true) same has))

-- a cell in no crossing has its own claim alone
none_claimed : (first : ℕ) (xs : List BuiltCrossing) (c : CellNo) → ((q : BuiltCrossing) → In q xs → has_cell q.cells c ≡ false) → claims_from first xs c ≡ []
none_claimed first [] c out = refl
none_claimed first (x ∷ xs) c out =
    ap (λ b. cond b (record { 0 = first + flow_of x c } ∷ claims_from (first + claim_count_of x) xs c) (claims_from (first + claim_count_of x) xs c)) (out x (here refl))
    ∙ none_claimed (first + claim_count_of x) xs c (λ q i. out q (there i))

-- a number in the corners is 1, or 5 at least, and another follows it
corner_is : (n k : ℕ) → In k (corners n) → ((k ≡ 1) ⊎ (5 ≤ k)) × (k + 1 < n)
corner_is n k i =
    let u = In_unfilter (λ j. nat_lt (j + 1) n) (1 ∷ 5 ∷ 9 ∷ 13 ∷ []) i in (
      elim (In_cases u.0) [
        | inl e ↦ inl e
        | inr j ↦ elim (In_cases j) [
          | inl e ↦ inr (omega arith)
          | inr j ↦ elim (In_cases j) [
            | inl e ↦ inr (omega arith)
            | inr j ↦ elim (In_cases j) [ inl e ↦ inr (omega arith) | inr j ↦ absurd (In-nil j) ]
          ]
        ]
      ],
      ltb-true (k + 1) n u.1,
    )

-- a cell apart from four numbers isn't one of these cells
apart_four : (a b c d k : ℕ) → a ≢ k → b ≢ k → c ≢ k → d ≢ k → has_cell (cell a ∷ cell b ∷ cell c ∷ cell d ∷ []) (cell k) ≡ false
apart_four a b c d k p q r s =
    or_from (a == k) _ (ne_eqb a k p) (or_from (b == k) _ (ne_eqb b k q) (or_from (c == k) _ (ne_eqb c k r) (or_from (d == k) false (ne_eqb d k s) refl)))

-- The names are those of the cells, the crossings, the two areas and the robots.

names_counted : (test : Thing → Bool) (cells xs m a b d : ℕ) (t : Bool) → count_of test (numbered (codes "c") (thing.Cell 0) cells) ≡ a → count_of test (numbered (codes "x") (thing.Crossing 0) xs) ≡ b → test (thing.Area 0) ≡ t → test (thing.Area 1) ≡ t → count_of test (numbered (codes "r") (thing.Robot 0) m) ≡ d
    → count_of test (names cells xs m) ≡ a + (b + (cond t 2 0 + d))
names_counted test cells xs m a b d t hc hx h0 h1 hr =
    let areas : Named = (codes "top", thing.Area 0) ∷ (codes "bottom", thing.Area 1) ∷ numbered (codes "r") (thing.Robot 0) m in
    let one = count_of-append test (numbered (codes "c") (thing.Cell 0) cells) (numbered (codes "x") (thing.Crossing 0) xs ++ areas) in
    let two = count_of-append test (numbered (codes "x") (thing.Crossing 0) xs) areas in
    let three : count_of test areas ≡ cond t 2 0 + d = by t h0 h1 in
    omega arith
  where
    by : (t : Bool) → test (thing.Area 0) ≡ t → test (thing.Area 1) ≡ t → count_of test ((codes "top", thing.Area 0) ∷ (codes "bottom", thing.Area 1) ∷ numbered (codes "r") (thing.Robot 0) m) ≡ cond t 2 0 + d
    by true p q =
        let first = count_of-holds test (codes "top", thing.Area 0) ((codes "bottom", thing.Area 1) ∷ numbered (codes "r") (thing.Robot 0) m) p in
        let second = count_of-holds test (codes "bottom", thing.Area 1) (numbered (codes "r") (thing.Robot 0) m) q in
        omega arith
    by false p q =
        let first = count_of-fails test (codes "top", thing.Area 0) ((codes "bottom", thing.Area 1) ∷ numbered (codes "r") (thing.Robot 0) m) p in
        let second = count_of-fails test (codes "bottom", thing.Area 1) (numbered (codes "r") (thing.Robot 0) m) q in
        omega arith

module _ (cells xs m : ℕ) where
  count_cells : count_of is_cell (names cells xs m) ≡ cells
  count_cells =
      let n = names_counted is_cell cells xs m cells 0 0 false (all_counted is_cell (λ i. (codes "c" ++ decimal i, thing.Cell i)) (λ i. refl) 0 cells) (none_counted is_cell (λ i. (codes "x" ++ decimal i, thing.Crossing i)) (λ i. refl) 0 xs) refl refl (none_counted is_cell (λ i. (codes "r" ++ decimal i, thing.Robot i)) (λ i. refl) 0 m) in
      omega arith

  count_crossings : count_of is_crossing (names cells xs m) ≡ xs
  count_crossings =
      let n = names_counted is_crossing cells xs m 0 xs 0 false (none_counted is_crossing (λ i. (codes "c" ++ decimal i, thing.Cell i)) (λ i. refl) 0 cells) (all_counted is_crossing (λ i. (codes "x" ++ decimal i, thing.Crossing i)) (λ i. refl) 0 xs) refl refl (none_counted is_crossing (λ i. (codes "r" ++ decimal i, thing.Robot i)) (λ i. refl) 0 m) in
      omega arith

  count_areas : count_of is_area (names cells xs m) ≡ 2
  count_areas =
      let n = names_counted is_area cells xs m 0 0 0 true (none_counted is_area (λ i. (codes "c" ++ decimal i, thing.Cell i)) (λ i. refl) 0 cells) (none_counted is_area (λ i. (codes "x" ++ decimal i, thing.Crossing i)) (λ i. refl) 0 xs) refl refl (none_counted is_area (λ i. (codes "r" ++ decimal i, thing.Robot i)) (λ i. refl) 0 m) in
      omega arith

  count_robots : count_of is_robot (names cells xs m) ≡ m
  count_robots =
      let n = names_counted is_robot cells xs m 0 0 m false (none_counted is_robot (λ i. (codes "c" ++ decimal i, thing.Cell i)) (λ i. refl) 0 cells) (none_counted is_robot (λ i. (codes "x" ++ decimal i, thing.Crossing i)) (λ i. refl) 0 xs) refl refl (all_counted is_robot (λ i. (codes "r" ++ decimal i, thing.Robot i)) (λ i. refl) 0 m) in
      omega arith

module _ (w h : ℕ) (wide : 8 ≤ w) (high : 8 ≤ h) where
  -- the cells of the first row and of row 3
  data InRows (k : ℕ) : Type 0 where
    First : k < w → InRows k
    Third : 3 * w ≤ k → k < 4 * w → InRows k

  many : w * 8 ≤ w * h
  many = mul-le-mul_left w high

  rows_below : (k : ℕ) → InRows k → k < w * h
  rows_below k (First l) = let m = many in omega arith
  rows_below k (Third a b) = let m = many in omega arith

  -- they are in no block
  out_of_block : (x y k : ℕ) → In x (corners w) → In y (corners h) → InRows k → has_cell (block w x y) (cell k) ≡ false
  out_of_block x y k i j r =
      let cx = corner_is w x i in
      let cy = corner_is h y j in
      at cx.1 cy.0 r
    where
      at : x + 1 < w → ((y ≡ 1) ⊎ (5 ≤ y)) → InRows k → has_cell (block w x y) (cell k) ≡ false
      at within (inl e) (First l) =
          let one : y * w ≡ w = ap (λ n. n * w) e ∙ omega arith in
          let two : (y + 1) * w ≡ 2 * w = ap (λ n. (n + 1) * w) e in
          apart_four (y * w + x) (y * w + x + 1) ((y + 1) * w + x) ((y + 1) * w + x + 1) k (λ q. absurd (omega arith)) (λ q. absurd (omega arith)) (λ q. absurd (omega arith)) (λ q. absurd (omega arith))
      at within (inl e) (Third a b) =
          let one : y * w ≡ w = ap (λ n. n * w) e ∙ omega arith in
          let two : (y + 1) * w ≡ 2 * w = ap (λ n. (n + 1) * w) e in
          apart_four (y * w + x) (y * w + x + 1) ((y + 1) * w + x) ((y + 1) * w + x + 1) k (λ q. absurd (omega arith)) (λ q. absurd (omega arith)) (λ q. absurd (omega arith)) (λ q. absurd (omega arith))
      at within (inr l) r =
          let five : w * 5 ≤ w * y = mul-le-mul_left w l in
          let low = below r in
          apart_four (y * w + x) (y * w + x + 1) ((y + 1) * w + x) ((y + 1) * w + x + 1) k (λ q. absurd (omega arith)) (λ q. absurd (omega arith)) (λ q. absurd (omega arith)) (λ q. absurd (omega arith))
        where
          below : InRows k → k < 4 * w
          below (First f) = omega arith
          below (Third a b) = b

  out_of_crossings : (k : ℕ) → InRows k → (q : BuiltCrossing) → In q (crossings w h) → has_cell q.cells (cell k) ≡ false
  out_of_crossings k r q i =
      let y = In_unflat_map (crossings_in (w * h) w) (corners h) i in
      let x = In_unmap (λ x. crossing (w * h) w x y.0) (corners w) y.2 in
      ap (λ (p : BuiltCrossing). has_cell p.cells (cell k)) x.2 ∙ not_in_order (w * h) (block w x.0 y.0) (cell k) (out_of_block x.0 y.0 k x.1 y.1 r)

  -- two of them don't conflict where they differ
  apart_cells : (links : ℕ) (j k : ℕ) → InRows j → InRows k → j ≢ k → do_conflict (site w h links) (cell j) (cell k) ≡ false
  unfolding in_conflict
  apart_cells links j k rj rk ne =
      ap (list_any (λ c. is_kept_from plain c (cell k))) (alone j rj)
      ∙ (or_from (is_kept_from plain (own j) (cell k)) false
      (ap (list_any (λ d. in_conflict plain.groups (own j) d)) (alone k rk)
      ∙ or_from (in_conflict plain.groups (own j) (own k)) false
      (ap (λ g. exclude g (slice_get plain.groups k) (j == k)) (group_of_cell built j (rows_below j rj))
      ∙ (ap (λ g. exclude (Some (cell_group j)) g (j == k)) (group_of_cell built k (rows_below k rk))
      ∙ ap (λ b. b && (not (j == k) || true)) (ne_eqb j k ne)))
      refl)
      refl)
    where
      built : BuiltSite
      built = site w h links

      plain : Site
      plain = site_of built

      own : ℕ → ClaimNo
      own n = record { 0 = n }

      alone : (n : ℕ) → InRows n → footprint_of plain (cell n) ≡ own n ∷ []
      alone n r = footprint_at built (cell n) (rows_below n r) ∙ ap (λ cs. own n ∷ cs) (none_claimed (w * h) (crossings w h) (cell n) (out_of_crossings n r))

  -- Where robots start.

  start_first : (i : ℕ) → i < w → start w i ≡ cell i
  start_first i l = ap (λ b. cond b (cell i) (cell (3 * w + (i - w)))) (lt-ltb i w l)

  start_third : (i : ℕ) → w ≤ i → start w i ≡ cell (3 * w + (i - w))
  start_third i l = ap (λ b. cond b (cell i) (cell (3 * w + (i - w)))) (le-ltb i w l)

  first_or_third : (i : ℕ) → (i < w) ⊎ (w ≤ i)
  first_or_third i = elim (cases_order i w) [ inl e ↦ inr (omega arith) | inr s ↦ elim s [ inl l ↦ inl l | inr l ↦ inr (omega arith) ] ]

  start_known : (i : ℕ) → i < 2 * w → (start w i).0 < w * h
  start_known i l = elim (first_or_third i) [
    | inl f ↦ subst (λ (c : CellNo). c.0 < w * h) (sym (start_first i f)) (rows_below i (First f))
    | inr t ↦ subst (λ (c : CellNo). c.0 < w * h) (sym (start_third i t)) (rows_below (3 * w + (i - w)) (Third (omega arith) (omega arith)))
  ]

  starts_apart : (links i j : ℕ) → i < j → j < 2 * w → do_conflict (site w h links) (start w i) (start w j) ≡ false
  starts_apart links i j less l = go (first_or_third i) (first_or_third j)
    where
      Apart : CellNo → CellNo → Type 0
      Apart a b = do_conflict (site w h links) a b ≡ false

      go : (i < w) ⊎ (w ≤ i) → (j < w) ⊎ (w ≤ j) → Apart (start w i) (start w j)
      go (inl f) (inl g) = subst (λ a. Apart a (start w j)) (sym (start_first i f)) (subst (Apart (cell i)) (sym (start_first j g)) (apart_cells links i j (First f) (First g) (λ e. absurd (omega arith))))
      go (inl f) (inr t) = subst (λ a. Apart a (start w j)) (sym (start_first i f)) (subst (Apart (cell i)) (sym (start_third j t)) (apart_cells links i (3 * w + (j - w)) (First f) (Third (omega arith) (omega arith)) (λ e. absurd (omega arith))))
      go (inr t) (inl g) = absurd (omega arith)
      go (inr s) (inr t) =
          subst (λ a. Apart a (start w j)) (sym (start_third i s))
          (subst (Apart (cell (3 * w + (i - w)))) (sym (start_third j t)) (apart_cells links (3 * w + (i - w)) (3 * w + (j - w)) (Third (omega arith) (omega arith)) (Third (omega arith) (omega arith)) (λ e. absurd (omega arith))))

  -- Missions.

  leg_known : (links x : ℕ) → IsGoal (site w h links) (leg (w * h) x)
  leg_known links x = elim (cases_Bool (draw 4 x == 0)) [
    | inl area ↦ subst (IsGoal (site w h links)) (sym (ap (λ b. cond b (goal.Area (draw 2 (drawn x))) (goal.Cell (cell (draw (w * h) (drawn x))))) area)) (draw_below 2 (drawn x) (omega arith))
    | inr one ↦ subst (IsGoal (site w h links)) (sym (ap (λ b. cond b (goal.Area (draw 2 (drawn x))) (goal.Cell (cell (draw (w * h) (drawn x))))) one)) (draw_below (w * h) (drawn x) (let m = many in omega arith))
  ]

  mission_known : (links x : ℕ) → IsMission (site w h links) (mission (w * h) x)
  mission_known links x = record {
    few = (let long = length-map-range_with_len (λ i. leg (w * h) (after_draws (2 * i) (drawn x))) 0 (1 + draw 4 x) in let few = draw_below 4 x (omega arith) in omega arith);
    goals = In_All (IsGoal (site w h links)) (mission (w * h) x) (λ g i.
        let at = In_unmap (λ i. leg (w * h) (after_draws (2 * i) (drawn x))) (numbers_below (1 + draw 4 x)) i in
        subst (IsGoal (site w h links)) (sym at.2) (leg_known links (after_draws (2 * at.0) (drawn x))));
  }

  -- The whole.

  pub drill_is : (links m y : ℕ) → 1 ≤ m → m ≤ 16 → IsScenario (scenario_on w h links m y)
  drill_is links m y some few =
      let long : length (map (start w) (numbers_below m)) ≡ m = length-map-range_with_len (start w) 0 m in
      record {
        some = omega arith;
        few = omega arith;
        starts = In_All (λ (c : CellNo). c.0 < w * h) (map (start w) (numbers_below m)) (λ c i.
            let at = In_unmap (start w) (numbers_below m) i in
            let l = below_In m at.0 at.1 in
            subst (λ (a : CellNo). a.0 < w * h) (sym at.2) (start_known at.0 (omega arith)));
        apart = λ i j d less within.
            subst (λ a. do_conflict (site w h links) a (get_or (map (start w) (numbers_below m)) j d) ≡ false) (sym (get_or-map-range_with_len (start w) 0 m i i d (omega arith) (omega arith)))
            (subst (λ b. do_conflict (site w h links) (start w i) b ≡ false) (sym (get_or-map-range_with_len (start w) 0 m j j d (omega arith) (omega arith))) (starts_apart links i j less (omega arith)));
        named = record {
          cells = count_cells (w * h) (length (crossings w h)) m;
          crossings = count_crossings (w * h) (length (crossings w h)) m;
          areas = count_areas (w * h) (length (crossings w h)) m;
          robots = count_robots (w * h) (length (crossings w h)) m ∙ sym long;
        };
        missions = length-map-range_with_len (λ r. mission (w * h) (before_robot y r)) 0 m ∙ sym long;
        legs = In_All (IsMission (site w h links)) (missions (w * h) y m) (λ legs i.
            let at = In_unmap (λ r. mission (w * h) (before_robot y r)) (numbers_below m) i in
            subst (IsMission (site w h links)) (sym at.2) (mission_known links (before_robot y at.0)));
      }
