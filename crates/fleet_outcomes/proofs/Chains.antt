-- The robots that come one behind the other, as they are found.
use Rattle.std.proofs.Common.{◌≡◌, ℕ, zero, suc, ◌+◌, ◌-◌, ◌<◌, ◌≤◌, Bool, true, false, cond, ◌||◌, ◌==◌, refl, sym, ap, ◌∙◌, List, [], ◌∷◌, ◌++◌, length, drop, arith, Option, Some, None}
use Rattle.std.proofs.lemmas.List.{drop_all, drop_more, map-append}
use Rattle.std.proofs.lemmas.Option.{get_or_from_slice_get, slice_get_within}
use Rattle.std.specs.Prelude.{slice_get}
use Rattle.std.specs.List.{list_any}
use Rattle.std.specs.Option.{option_map}
use Rattle.fleet_base.specs.Lists.{numbers_of, robots_of}
use Rattle.fleet_base.specs.declared.numbers.RobotNo.{RobotNo}
use Rattle.fleet_model.specs.States.{State}
use Rattle.mission_model.specs.Outcomes.{blocker_of, blockers_on}

-- robots with the numbers of robots are these robots
robots_back : (robots : List RobotNo) → robots_of (numbers_of robots) ≡ robots
robots_back [] = refl
robots_back (q ∷ qs) = ap (λ rest. q ∷ rest) (robots_back qs)

any_number : (robots : List RobotNo) (q : ℕ) → list_any (λ p. p == q) (numbers_of robots) ≡ list_any (λ (p : RobotNo). p.0 == q) robots
any_number [] q = refl
any_number (p ∷ ps) q = ap (λ b. (p.0 == q) || b) (any_number ps q)

module _ (s : State) (first : Option ℕ) where
  abbrev count : ℕ
  count = length s.fleet.starts

  -- all of them
  abbrev whole : List RobotNo
  whole = robots_of (blockers_on s count [] first)

  -- those that come behind the first n of them
  abbrev on : ℕ → List RobotNo → Option ℕ → List RobotNo
  on n robots next = robots_of (blockers_on s (count - n) (numbers_of robots) next)

  -- where none comes next
  pub chain_ends : (n : ℕ) (robots : List RobotNo) (next : Option RobotNo) → whole ≡ on n robots (option_map (λ (q : RobotNo). q.0) next) → next ≡ None → robots ≡ whole
  chain_ends n robots next same none =
      sym (same ∙ (ap (λ o. on n robots (option_map (λ (q : RobotNo). q.0) o)) none ∙ (none_on (count - n) ∙ robots_back robots)))
    where
      none_on : (k : ℕ) → robots_of (blockers_on s k (numbers_of robots) None) ≡ robots_of (numbers_of robots)
      none_on zero = refl
      none_on (suc k) = refl

  -- one more of them
  one_on : (n : ℕ) (robots : List RobotNo) (q : RobotNo) (b : Bool) → n < count → list_any (λ (p : RobotNo). p.0 == q.0) robots ≡ b
      → on n robots (Some q.0) ≡ robots_of (cond b (numbers_of robots) (blockers_on s (count - (n + 1)) (numbers_of robots ++ q.0 ∷ []) (blocker_of s q.0)))
  one_on n robots q b within there =
      let left : count - n ≡ suc (count - (n + 1)) = omega arith in
      ap (λ k. robots_of (blockers_on s k (numbers_of robots) (Some q.0))) left
      ∙ ap (λ t. robots_of (cond t (numbers_of robots) (blockers_on s (count - (n + 1)) (numbers_of robots ++ q.0 ∷ []) (blocker_of s q.0)))) (any_number robots q.0 ∙ there)

  -- where the next one stands there already
  pub chain_closes : (n : ℕ) (robots : List RobotNo) (next : Option RobotNo) (q : RobotNo) → n < count → whole ≡ on n robots (option_map (λ (q : RobotNo). q.0) next) → next ≡ Some q → list_any (λ (p : RobotNo). p.0 == q.0) robots ≡ true → robots ≡ whole
  chain_closes n robots next q within same is there =
      sym (same ∙ (ap (λ o. on n robots (option_map (λ (q : RobotNo). q.0) o)) is ∙ (one_on n robots q true within there ∙ robots_back robots)))

  -- where it doesn't
  pub chain_grows : (n : ℕ) (robots more : List RobotNo) (next then : Option RobotNo) (q : RobotNo) → n < count → whole ≡ on n robots (option_map (λ (q : RobotNo). q.0) next) → next ≡ Some q → list_any (λ (p : RobotNo). p.0 == q.0) robots ≡ false
      → more ≡ robots ++ q ∷ [] → option_map (λ (q : RobotNo). q.0) then ≡ blocker_of s q.0 → whole ≡ on (n + 1) more (option_map (λ (q : RobotNo). q.0) then)
  chain_grows n robots more next then q within same is there grown found =
      same
      ∙ (ap (λ o. on n robots (option_map (λ (q : RobotNo). q.0) o)) is
      ∙ (one_on n robots q false within there
      ∙ (ap (λ numbers. robots_of (blockers_on s (count - (n + 1)) numbers (blocker_of s q.0))) (sym (ap numbers_of grown ∙ map-append (λ (p : RobotNo). p.0) robots (q ∷ [])))
      ∙ ap (λ o. robots_of (blockers_on s (count - (n + 1)) (numbers_of more) o)) (sym found))))

  -- where all robots were gone over
  pub chain_full : (n : ℕ) (robots : List RobotNo) (next : Option RobotNo) → count ≤ n → whole ≡ on n robots (option_map (λ (q : RobotNo). q.0) next) → robots ≡ whole
  chain_full n robots next past same =
      let left : count - n ≡ 0 = omega arith in
      sym (same ∙ (ap (λ k. robots_of (blockers_on s k (numbers_of robots) (option_map (λ (q : RobotNo). q.0) next))) left ∙ (none_left next ∙ robots_back robots)))
    where
      none_left : (o : Option RobotNo) → robots_of (blockers_on s 0 (numbers_of robots) (option_map (λ (q : RobotNo). q.0) o)) ≡ robots_of (numbers_of robots)
      none_left None = refl
      none_left (Some q) = refl

-- The robots of a list.

split_at : (robots : List RobotNo) (n : ℕ) (p : RobotNo) → slice_get robots n ≡ Some p → drop n robots ≡ p ∷ drop (n + 1) robots
split_at robots n p at = drop_more robots n p (slice_get_within robots n p at) ∙ ap (λ x. x ∷ drop (n + 1) robots) (get_or_from_slice_get robots n p p at)

module _ (robots : List RobotNo) (q : ℕ) where
  abbrev is : RobotNo → Bool
  is p = p.0 == q

  -- one robot more is looked at
  pub any_more : (n : ℕ) (p : RobotNo) (b : Bool) → slice_get robots n ≡ Some p → list_any is robots ≡ list_any is (drop n robots) → is p ≡ b → list_any is robots ≡ (b || list_any is (drop (n + 1) robots))
  any_more n p b at same here = same ∙ (ap (list_any is) (split_at robots n p at) ∙ ap (λ t. t || list_any is (drop (n + 1) robots)) here)

  -- all were looked at
  pub any_end : (n : ℕ) → length robots ≤ n → list_any is robots ≡ list_any is (drop n robots) → list_any is robots ≡ false
  any_end n past same = same ∙ ap (list_any is) (drop_all n robots past)

  -- there is a robot at each place of the list
  pub one_there : (n : ℕ) → n < length robots → slice_get robots n ≡ None → ⊥
  one_there n within none = go robots n within none
    where
      go : (xs : List RobotNo) (k : ℕ) → k < length xs → slice_get xs k ≡ None → ⊥
      go [] k l h = absurd (omega arith)
      go (x ∷ xs) zero l h = absurd (cc)
      go (x ∷ xs) (suc k) l h = go xs k (omega arith) h
