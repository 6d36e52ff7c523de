-- Numbers in decimal digits.
use Rattle.std.specs.Prelude.{ℕ, ◌≤◌, nat_le, ◌&&◌, if◌then◌else◌, Bool, List, length, Ok, Err, Result}
use Rattle.std.specs.Str.{all_ascii_digits}
use Rattle.std.specs.Str.Parse.{digits_value}
use Rattle.site_lines.specs.declared.number.NumberRefused.{NumberRefused}
use Rattle.site_lines.specs.declared.number.NumberRefused.TheVariants.{BadNumber, OutOfRange}

-- whether a word is 1 to so many decimal digits
abbrev pub is_number : ℕ → List ℕ → Bool
is_number digits word = nat_le 1 (length word) && nat_le (length word) digits && all_ascii_digits word

-- from the one to the other, both counted
abbrev pub IsWithin : ℕ → ℕ → ℕ → Type 0
IsWithin low high value = (low ≤ value) × (value ≤ high)

-- the number from `low` to `high` that a word of at most so many digits says
abbrev pub number_of : List ℕ → ℕ → ℕ → ℕ → Result ℕ NumberRefused
number_of word digits low high =
    let value = digits_value 10 word in
    if is_number digits word then (if nat_le low value && nat_le value high then Ok value else Err OutOfRange) else Err BadNumber
