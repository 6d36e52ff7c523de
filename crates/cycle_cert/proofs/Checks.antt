-- A list that is checked from its end on.
use Rattle.std.proofs.Common.{zero, suc, ◌≡◌, ℕ, ◌-◌, ◌<◌, Bool, true, false, not, ◌||◌, ◌==◌, eqb, inl, inr, refl, sym, ap, ◌∙◌, subst, List, [], ◌∷◌, ◌++◌, take, drop, Some, arith, eq-eqb}
use Rattle.std.proofs.lemmas.Bool.{both_ways, and_parts, and_from, cases_eq, ne_eqb, not_from_false, not-true, lt-ltb}
use Rattle.std.proofs.lemmas.List.{take-append-drop}
use Rattle.std.specs.Prelude.{slice_get, nat_lt}
use Rattle.std.specs.List.{list_any}
use Rattle.std.specs.Ordering.{nat_cmp}
use Rattle.std.specs.FinSet.{FinSet}
use Rattle.fleet_base.specs.EdgeSets as edges
use Rattle.fleet_base.specs.Lists.{numbers_of}
use Rattle.fleet_base.specs.declared.numbers.RobotNo.{RobotNo}
use Rattle.fleet_model.specs.Cycles.{leads, are_distinct, is_cycle}
use Rattle.fleet_model.proofs.Cycles.{cycle_parts, cycle_from, cycle_on}
use Rattle.fleet_model.proofs.Distinct.{distinct_split}
use Rattle.bit_set.specs.Words.{is_in}
use Rattle.cycle_cert.specs.Members.{leads_known}
use Rattle.cycle_cert.proofs.Shortcuts.{leads_behind}
use Rattle.cycle_cert.proofs.LeastWays.{cycle_inside}
use Rattle.cycle_cert.proofs.Levels.{leads_below_64}
use Rattle.bit_set.proofs.WordBits.{is_in-zero}

-- the next number begins the rest, which leads back to z; where there is no rest it is z
abbrev pub LeadsBack : (ℕ → ℕ → Bool) → ℕ → ℕ → List ℕ → Type 0
LeadsBack edge z next [] = next ≡ z
LeadsBack edge z next (y ∷ ys) = (next ≡ y) × (leads edge z (y ∷ ys) ≡ true)

-- the rest of a list leads back to z, its numbers differ, and they are marked
pub record IsChecked (edge : ℕ → ℕ → Bool) (z next seen : ℕ) (rest : List ℕ) : Type 0 where
  pub back : LeadsBack edge z next rest
  pub distinct : are_distinct rest ≡ true
  pub marked : (q : ℕ) → is_in seen q ≡ list_any (λ p. p == q) rest

-- at first there is no rest
pub checked_none : (edge : ℕ → ℕ → Bool) (z : ℕ) → IsChecked edge z z 0 []
checked_none edge z = record { back = refl; distinct = refl; marked = λ q. is_in-zero q }

-- a number that leads to the next leads back
more_leads : (edge : ℕ → ℕ → Bool) (z next y : ℕ) (rest : List ℕ) → LeadsBack edge z next rest → edge y next ≡ true → leads edge z (y ∷ rest) ≡ true
more_leads edge z next y [] h e = subst (λ w. edge y w ≡ true) h e
more_leads edge z next y (x ∷ xs) h e = and_from (edge y x) (leads edge z (x ∷ xs)) (subst (λ w. edge y w ≡ true) h.0 e) h.1

-- a number that leads back leads to the next
pub leads_more : (edge : ℕ → ℕ → Bool) (z next y : ℕ) (rest : List ℕ) → LeadsBack edge z next rest → leads edge z (y ∷ rest) ≡ true → edge y next ≡ true
leads_more edge z next y [] h e = subst (λ w. edge y w ≡ true) (sym h) e
leads_more edge z next y (x ∷ xs) h e = subst (λ w. edge y w ≡ true) (sym h.0) (and_parts (edge y x) (leads edge z (x ∷ xs)) e).0

turn_eqb : (a b : ℕ) → eqb a b ≡ eqb b a
turn_eqb a b = elim (cases_eq a b) [ inl e ↦ eq-eqb a b e ∙ sym (eq-eqb b a (sym e)) | inr n ↦ ne_eqb a b n ∙ sym (ne_eqb b a (λ e. n (sym e))) ]

-- one more number that leads to the next and isn't marked
pub checked_more : (edge : ℕ → ℕ → Bool) (z next seen more y : ℕ) (rest : List ℕ) → edge y next ≡ true → is_in seen y ≡ false → ((q : ℕ) → is_in more q ≡ (eqb q y || is_in seen q)) → IsChecked edge z next seen rest → IsChecked edge z y more (y ∷ rest)
checked_more edge z next seen more y rest e absent marks h = record {
  back = (refl, more_leads edge z next y rest h.back e);
  distinct = and_from (not (list_any (λ q. q == y) rest)) (are_distinct rest) (not_from_false (list_any (λ q. q == y) rest) (sym (h.marked y) ∙ absent)) h.distinct;
  marked = λ q. marks q ∙ (ap (λ b. b || is_in seen q) (turn_eqb q y) ∙ ap (λ b. eqb y q || b) (h.marked q));
}

-- the rest begins with the robot at the place
pub drop_at : (robots : List RobotNo) (place : ℕ) (robot : RobotNo) → slice_get robots place ≡ Some robot → drop place (numbers_of robots) ≡ robot.0 ∷ drop (suc place) (numbers_of robots)
drop_at [] place robot h = absurd (cc)
drop_at (r ∷ rs) zero robot h = let e : r ≡ robot = cc in ap (λ (x : RobotNo). x.0 ∷ numbers_of rs) e
drop_at (r ∷ rs) (suc n) robot h = drop_at rs n robot h

module _ (known : FinSet nat_cmp) where
  -- a cycle has robots below 64 alone
  known_cycle : (r : ℕ) (xs : List ℕ) → is_cycle (edges.leads known) r xs ≡ true → is_cycle (leads_known known) r xs ≡ true
  known_cycle r xs h = cycle_on (edges.leads known) (leads_known known) r xs (λ a b i j e. and_from (nat_lt a 64) (edges.leads known a b) (lt-ltb a 64 (cycle_inside (edges.leads known) 64 r (leads_below_64 known) xs h a i)) e) h

  cycle_known : (r : ℕ) (xs : List ℕ) → is_cycle (leads_known known) r xs ≡ true → is_cycle (edges.leads known) r xs ≡ true
  cycle_known r xs h = cycle_on (leads_known known) (edges.leads known) r xs (λ a b i j e. (and_parts (nat_lt a 64) (edges.leads known a b) e).1) h

  -- a list that is checked whole is a cycle
  pub checked_cycle : (z next seen : ℕ) (zs : List ℕ) → IsChecked (leads_known known) z next seen (z ∷ zs) → is_cycle (edges.leads known) z (z ∷ zs) ≡ true
  checked_cycle z next seen zs h = cycle_known z (z ∷ zs) (cycle_from (leads_known known) z zs h.distinct h.back.1)

  -- in a cycle each number leads to the next
  pub cycle_leads : (r z next seen y : ℕ) (front rest xs zs : List ℕ) → xs ≡ front ++ y ∷ rest → xs ≡ z ∷ zs → is_cycle (edges.leads known) r xs ≡ true → IsChecked (leads_known known) z next seen rest → leads_known known y next ≡ true
  cycle_leads r z next seen y front rest xs zs split first h checked =
      let p = cycle_parts (leads_known known) r xs (known_cycle r xs h) in
      let b = p.begins in
      let same : r ≡ z = cc in
      leads_more (leads_known known) z next y rest checked.back
      (leads_behind (leads_known known) z front y rest (subst (λ ys. leads (leads_known known) z ys ≡ true) split (subst (λ w. leads (leads_known known) w xs ≡ true) same p.leads_back)))

  -- in a cycle no number stands twice
  pub cycle_apart : (r z next seen y : ℕ) (front rest xs : List ℕ) → xs ≡ front ++ y ∷ rest → is_cycle (edges.leads known) r xs ≡ true → IsChecked (leads_known known) z next seen rest → is_in seen y ≡ true → ⊥
  cycle_apart r z next seen y front rest xs split h checked twice =
      let p = cycle_parts (edges.leads known) r xs h in
      let d = distinct_split front (y ∷ rest) (subst (λ ys. are_distinct ys ≡ true) split p.distinct) in
      let q = and_parts (not (list_any (λ q. q == y) rest)) (are_distinct rest) d.1 in
      both_ways (list_any (λ q. q == y) rest) (not-true (list_any (λ q. q == y) rest) q.0) (sym (checked.marked y) ∙ twice)

suc-sub_one : (n : ℕ) → 0 < n → suc (n - 1) ≡ n
suc-sub_one n more = omega arith

-- the rest of the list before a step
pub rest_at : (robots : List RobotNo) (place : ℕ) (robot : RobotNo) → 0 < place → slice_get robots (place - 1) ≡ Some robot → drop (place - 1) (numbers_of robots) ≡ robot.0 ∷ drop place (numbers_of robots)
rest_at robots place robot more h = drop_at robots (place - 1) robot h ∙ ap (λ k. robot.0 ∷ drop k (numbers_of robots)) (suc-sub_one place more)

-- the list around the robot at the place
pub split_at : (robots : List RobotNo) (place : ℕ) (robot : RobotNo) → 0 < place → slice_get robots (place - 1) ≡ Some robot → numbers_of robots ≡ take (place - 1) (numbers_of robots) ++ robot.0 ∷ drop place (numbers_of robots)
split_at robots place robot more h = sym (take-append-drop (place - 1) (numbers_of robots)) ∙ ap (λ xs. take (place - 1) (numbers_of robots) ++ xs) (rest_at robots place robot more h)
