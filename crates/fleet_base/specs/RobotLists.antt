-- The places of a short list of robots.
use Rattle.std.specs.Prelude.{◌≡◌, ℕ, ◌+◌, ◌-◌, ◌<◌, List, [], ◌∷◌, ◌++◌, length, take, drop, replicate, slice_set, All}
use Rattle.std.proofs.Common.{refl, ap, sym, subst, ◌∙◌, arith}
use Rattle.std.proofs.lemmas.List.{take-append-drop, length-map, length-take, drop-set-lt, drop-drop, drop-replicate, take_more_set, length-set}
use Rattle.std.proofs.lemmas.List.Elements.{All-push}
use Rattle.fleet_base.specs.declared.numbers.RobotNo.{RobotNo}
use Rattle.fleet_base.specs.declared.robot_list.RobotList.TheInside.{Inside}
use Rattle.fleet_base.specs.Lists.{robots_of, numbers_of}

-- the robots of the list
abbrev pub shown : Inside → List RobotNo
shown l = robots_of (take l.len l.places)

-- the numbers fit, and a place that isn't used holds 0
pub record IsKept (l : Inside) : Type 0 where
  pub used : length (take l.len l.places) ≡ l.len
  pub small : All (λ b. b < 64) (take l.len l.places)
  pub unused : drop l.len l.places ≡ replicate (64 - l.len) 0

-- the places of a list that shows these robots
abbrev pub places_of : List RobotNo → Inside
places_of robots = record { len = length robots; places = numbers_of robots ++ replicate (64 - length robots) 0 }

pub numbers_of-robots_of : (numbers : List ℕ) → numbers_of (robots_of numbers) ≡ numbers
numbers_of-robots_of [] = refl
numbers_of-robots_of (n ∷ ns) = ap (λ xs. n ∷ xs) (numbers_of-robots_of ns)

-- a list gives its places back
pub places_of-shown : (l : Inside) → IsKept l → places_of (shown l) ≡ l
places_of-shown l kept =
    let len : length (shown l) ≡ l.len = length-map (take l.len l.places) (λ n. record { 0 = n }) ∙ kept.used in
    let places : numbers_of (shown l) ++ replicate (64 - l.len) 0 ≡ l.places =
    ap (λ ns. ns ++ replicate (64 - l.len) 0) (numbers_of-robots_of (take l.len l.places))
    ∙ ap (λ ns. take l.len l.places ++ ns) (sym kept.unused)
    ∙ take-append-drop l.len l.places
    in
    let with_len : ℕ → Inside = λ n. record { len = n; places = numbers_of (shown l) ++ replicate (64 - n) 0 } in
    let with_places : List ℕ → Inside = λ ps. record { len = l.len; places = ps } in
    ap with_len len ∙ ap with_places places

-- one more number in the first unused place
pub IsKept-push : (l : Inside) (number : ℕ) → IsKept l → length l.places ≡ 64 → l.len < 64 → number < 64 → IsKept (record { len = l.len + 1; places = slice_set l.places l.len number })
IsKept-push l number kept full room small = record {
  used = simp (length-take, length-set) (omega arith);
  small = subst (All (λ b. b < 64)) (sym (take_more_set l.places l.len number (omega arith))) (All-push (λ b. b < 64) (take l.len l.places) number kept.small small);
  unused =
      drop-set-lt (l.len + 1) l.places l.len number (omega arith)
      ∙ sym (drop-drop 1 l.len l.places)
      ∙ ap (λ ns. drop 1 ns) kept.unused
      ∙ drop-replicate 1 (64 - l.len) 0
      ∙ ap (λ n. replicate n 0) (omega arith);
}
