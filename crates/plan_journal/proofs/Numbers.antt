-- Numbers without a leading zero.
use Rattle.std.proofs.Common.{◌≡◌, ⊎_elim, ℕ, ◌≤◌, ◌&&◌, ◌||◌, true, false, not, eqb, leb, List, length, get_or, Ok, Err, refl, sym, ◌∙◌, arith, rules}
use Rattle.std.specs.Fmt.{decimal}
use Rattle.std.specs.Str.{all_ascii_digits}
use Rattle.std.specs.Str.Parse.{digits_value}
use Rattle.std.proofs.lemmas.Bool.{cases_Bool, and_parts, and_from, and_left, leb-true, le-leb, or_cases, eqb-true, eq-eqb, not_from_true, false≢true}
use Rattle.std.proofs.lemmas.Str.Parse.{IsNumeralModel, numerals_by_value, digits_value_short}
use Rattle.std.proofs.lemmas.Fmt.{decimal-digits_value}
use Rattle.site_lines.specs.Numbers.{is_number, number_of}
use Rattle.site_lines.specs.declared.number.NumberRefused.{NumberRefused}
use Rattle.plan_journal.specs.Entries.{is_plain_number}

pub own : IsNumeralModel (λ ds. all_ascii_digits ds ≡ true) (digits_value 10)
own = numerals_by_value _ (search rules)

-- 15 digits are at most so much
pub small_number : (word : List ℕ) → is_number 15 word ≡ true → digits_value 10 word ≤ 999999999999999
small_number word is =
    let parts = and_parts (leb 1 (length word) && leb (length word) 15) (all_ascii_digits word) is in
    let short = leb-true (length word) 15 (and_parts (leb 1 (length word)) (leb (length word) 15) parts.0).1 in
    let below = digits_value_short own word 15 parts.1 short in
    omega arith

in_range : (value : ℕ) → value ≤ 999999999999999 → leb 0 value && leb value 999999999999999 ≡ true
in_range value small = and_from (leb 0 value) (leb value 999999999999999) (le-leb 0 value (omega arith)) (le-leb value 999999999999999 small)

told_number : (word : List ℕ) → is_number 15 word ≡ true → number_of word 15 0 999999999999999 ≡ Ok (digits_value 10 word)
told_number word holds = rw (holds, in_range (digits_value 10 word) (small_number word holds)) refl

pub refused_number : (word : List ℕ) (refused : NumberRefused) → Err refused ≡ number_of word 15 0 999999999999999 → is_number 15 word ≡ false
refused_number word refused is = ⊎_elim (λ holds. let told = told_number word holds in absurd (cc)) (λ fails. fails) (cases_Bool (is_number 15 word))

pub not_plain : (word : List ℕ) → is_number 15 word ≡ false → is_plain_number word ≡ false
not_plain word fails = and_left (is_number 15 word) (eqb (length word) 1 || not (eqb (get_or word 0 0) 48)) fails

-- without a leading zero a number is written as it is printed
no_zero : (word : List ℕ) → eqb (length word) 1 || not (eqb (get_or word 0 0) 48) ≡ true → get_or word 0 0 ≡ 48 → length word ≡ 1
no_zero word is zero =
    ⊎_elim (λ one. eqb-true (length word) 1 one) (λ other. absurd (false≢true (sym (not_from_true (eqb (get_or word 0 0) 48) (eq-eqb (get_or word 0 0) 48 zero)) ∙ other))) (or_cases (eqb (length word) 1) (not (eqb (get_or word 0 0) 48)) is)

pub plain_decimal : (word : List ℕ) → is_plain_number word ≡ true → decimal (digits_value 10 word) ≡ word
plain_decimal word is =
    let parts = and_parts (is_number 15 word) (eqb (length word) 1 || not (eqb (get_or word 0 0) 48)) is in
    let digits = and_parts (leb 1 (length word) && leb (length word) 15) (all_ascii_digits word) parts.0 in
    let some = leb-true 1 (length word) (and_parts (leb 1 (length word)) (leb (length word) 15) digits.0).0 in
    let small = small_number word parts.0 in
    decimal-digits_value own word digits.1 (omega arith) (no_zero word parts.1) (omega arith)
