-- Lists of passes that stay those of a fleet.
use Rattle.std.proofs.Common.{◌≡◌, ℕ, zero, suc, ◌+◌, ◌<◌, List, [], ◌∷◌, length, map, get_or, set, refl, ap, ◌∙◌, arith}
use Rattle.std.specs.Prelude.{All}
use Rattle.std.specs.List.{range_with_len}
use Rattle.std.proofs.lemmas.List.Elements.{All-map, All-set}
use Rattle.shared_fleet.specs.Tokens.{ArePasses, IsOf, Shared, Token, fresh_pass, fresh_passes}

module _ (fleet : Shared) where
  robots_of_fresh : (a n : ℕ) → map (λ (p : Token). p.robot) (map (fresh_pass fleet) (range_with_len a n)) ≡ range_with_len a n
  robots_of_fresh a zero = refl
  robots_of_fresh a (suc n) = ap (λ l. a ∷ l) (robots_of_fresh (a + 1) n)

  -- those that `set_up` gives
  pub fresh_are : ArePasses fleet (fresh_passes fleet)
  fresh_are =
      let numbers = range_with_len 0 (length fleet.opening.starts) in
      record {
        own = All-map (IsOf fleet) (fresh_pass fleet) numbers (λ k d lt. record { lock_is = refl; opening_is = refl });
        robots = robots_of_fresh 0 (length fleet.opening.starts);
      }

  robots_of_set : (ps : List Token) (i : ℕ) (p : Token) → i < length ps → p.robot ≡ (get_or ps i p).robot → map (λ (q : Token). q.robot) (set ps i p) ≡ map (λ (q : Token). q.robot) ps
  robots_of_set [] i p near same = refl
  robots_of_set (q ∷ ps) zero p near same = ap (λ (n : ℕ). n ∷ map (λ (q : Token). q.robot) ps) same
  robots_of_set (q ∷ ps) (suc i) p near same = ap (λ (l : List ℕ). q.robot ∷ l) (robots_of_set ps i p (omega arith) same)

  -- where one pass is changed
  pub set_are : (ps : List Token) (i : ℕ) (p : Token) → ArePasses fleet ps → i < length ps → IsOf fleet p → p.robot ≡ (get_or ps i p).robot → ArePasses fleet (set ps i p)
  set_are ps i p are near own same = record { own = All-set (IsOf fleet) ps i p own are.own; robots = robots_of_set ps i p near same ∙ are.robots }

  robots_of_each : (old now : List Token) → length now ≡ length old → ((i : ℕ) (d : Token) → i < length old → (get_or now i d).robot ≡ (get_or old i d).robot) → map (λ (q : Token). q.robot) now ≡ map (λ (q : Token). q.robot) old
  robots_of_each [] [] long same = refl
  robots_of_each [] (q ∷ now) long same = absurd (omega arith)
  robots_of_each (p ∷ old) [] long same = absurd (omega arith)
  robots_of_each (p ∷ old) (q ∷ now) long same =
      let head : q.robot ≡ p.robot = same 0 p (omega arith) in
      ap (λ (n : ℕ). n ∷ map (λ (r : Token). r.robot) now) head
      ∙ ap (λ (l : List ℕ). p.robot ∷ l) (robots_of_each old now (omega arith) (λ i d near. same (suc i) d (omega arith)))

  -- where each is
  pub each_are : (old now : List Token) → ArePasses fleet old → length now ≡ length old → All (IsOf fleet) now → ((i : ℕ) (d : Token) → i < length old → (get_or now i d).robot ≡ (get_or old i d).robot) → ArePasses fleet now
  each_are old now are long own same = record { own = own; robots = robots_of_each old now long same ∙ are.robots }
