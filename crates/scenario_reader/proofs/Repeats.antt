-- Legs that are repeated.
use Rattle.std.proofs.Common.{◌≡◌, ℕ, zero, suc, ◌+◌, ◌-◌, ◌*◌, ◌<◌, List, ◌++◌, length, sym, ap, ◌∙◌, arith, append_assoc, length-append, suc-mul, zero-mul}
use Rattle.std.proofs.lemmas.List.{append-nil}
use Rattle.site_map.specs.declared.goal.Goal.{Goal}
use Rattle.scenario_reader.specs.MissionLines.{repeated}

by_suc : (n m : ℕ) (legs : List Goal) → n ≡ suc m → repeated n legs ≡ legs ++ repeated m legs
by_suc n m legs is = ap (λ k. repeated k legs) is

-- one time less
pub repeated_less : (legs more : List Goal) (times i : ℕ) → i < times → (legs ++ more) ++ repeated (times - (i + 1)) more ≡ legs ++ repeated (times - i) more
repeated_less legs more times i below = append_assoc legs more (repeated (times - (i + 1)) more) ∙ ap (λ r. legs ++ r) (sym (by_suc (times - i) (times - (i + 1)) more (omega arith)))

-- none left
pub repeated_all : (legs more : List Goal) (n : ℕ) → n ≡ 0 → legs ++ repeated n more ≡ legs
repeated_all legs more n none = ap (λ k. legs ++ repeated k more) none ∙ append-nil legs

pub length-repeated : (n : ℕ) (legs : List Goal) → length (repeated n legs) ≡ n * length legs
length-repeated zero legs = omega (arith, zero-mul (length legs))
length-repeated (suc n) legs = length-append legs (repeated n legs) ∙ ap (λ k. length legs + k) (length-repeated n legs) ∙ omega (arith, suc-mul n (length legs))
