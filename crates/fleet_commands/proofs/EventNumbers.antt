-- The numbers that 15 digits write fit.
use Rattle.std.proofs.Common.{◌≡◌, nat_le, ⊎_elim, ℕ, ◌^◌, ◌<◌, ◌≤◌, true, false, List, length, Ok, Err, arith}
use Rattle.std.specs.Str.{all_ascii_digits}
use Rattle.std.specs.Str.Parse.{digits_value}
use Rattle.std.proofs.lemmas.Str.Parse.{digits_value_short, numerals_by_value, tells_all_ascii_digits}
use Rattle.std.proofs.lemmas.Bool.{cases_Bool}
use Rattle.std.proofs.lemmas.Bool.Decides.{nat_tests}
use Rattle.site_lines.specs.declared.number.NumberRefused.{NumberRefused}
use Rattle.site_lines.specs.Numbers.{is_number, number_of}

pub number_fits : (word : List ℕ) → is_number 15 word ≡ true → digits_value 10 word < 10 ^ 15
number_fits word is =
    let digits : all_ascii_digits word ≡ true = grind (arith, is) in
    let short : length word ≤ 15 = grind (arith, is) in
    digits_value_short (numerals_by_value (λ ds. all_ascii_digits ds ≡ true) tells_all_ascii_digits) word 15 digits short

-- so no number of 15 digits is out of range
pub not_number : (word : List ℕ) (refused : NumberRefused) → number_of word 15 0 18446744073709551615 ≡ Err refused → is_number 15 word ≡ false
not_number word refused e = ⊎_elim
    (λ is.
    let small = number_fits word is in
    let fits : nat_le (digits_value 10 word) 18446744073709551615 ≡ true = grind (arith, nat_tests) in
    let low : nat_le 0 (digits_value 10 word) ≡ true = grind (arith, nat_tests) in
    let accepted : Ok (digits_value 10 word) ≡ Err refused = rw (is, low, fits) at e in
    absurd (cc))
    (λ no. no)
    (cases_Bool (is_number 15 word))
