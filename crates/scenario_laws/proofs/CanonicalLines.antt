-- The words of a line that is made of words.
use Rattle.std.proofs.Common.{◌≡◌, ⊎_elim, ℕ, zero, suc, ◌+◌, ◌*◌, ◌-◌, ◌^◌, ◌<◌, ◌≤◌, ◌&&◌, ◌||◌, leb, ltb, eqb, not, Bool, true, false, List, [], ◌∷◌, ◌++◌, length, get_or, refl, ap, ◌∙◌, arith, rules}
use Rattle.std.specs.Prelude.{filter, flat_map}
use Rattle.std.specs.Fmt.{decimal}
use Rattle.std.specs.List.{list_any, list_all, AllByRecursion, slice_split}
use Rattle.std.specs.Str.{all_ascii_digits}
use Rattle.std.specs.Str.Parse.{digits_value}
use Rattle.std.proofs.lemmas.Bool.{and_parts, and_from, or_cases, or_left, or_right, eqb-true, ne_eqb, leb-true, le-leb, le-ltb, not_from_true}
use Rattle.std.proofs.lemmas.List.{append-nil, length-append}
use Rattle.std.proofs.lemmas.List.Elements.{All-from_recursion}
use Rattle.std.proofs.lemmas.List.Splits.{slice_split_at, slice_split_none}
use Rattle.std.proofs.lemmas.Fmt.{decimal_nonempty, digits_decimal, digits_value-decimal, length-decimal-le}
use Rattle.std.proofs.lemmas.Str.Parse.{IsNumeralModel, numerals_by_value}
use Rattle.fleet_names.specs.Names.{is_name, is_name_byte}
use Rattle.site_lines.specs.Lines.{is_too_long, without_return}
use Rattle.site_lines.specs.Numbers.{is_number}
use Rattle.site_lines.specs.Words.{has_bad_byte, has_bytes, is_bad_byte, is_word_byte, text_behind, words_of}
use Rattle.scenario_reader.specs.Reading.{keyword_line, step}
use Rattle.scenario_reader.specs.States.{State}
use Rattle.scenario_laws.proofs.RoundTrip.{bare_line}

-- each word is a name
abbrev pub AreNameWords : List (List ℕ) → Type 0
AreNameWords words = AllByRecursion (λ word. is_name word ≡ true) words

-- what a name tells of its bytes
record IsWord (word : List ℕ) : Type 0 where
  some : 1 ≤ length word
  few : length word ≤ 32
  bytes : list_all is_name_byte word ≡ true

name_parts : (word : List ℕ) → is_name word ≡ true → IsWord word
name_parts word is =
    let parts = and_parts (leb 1 (length word) && leb (length word) 32) (list_all is_name_byte word) is in
    let bounds = and_parts (leb 1 (length word)) (leb (length word) 32) parts.0 in
    record { some = leb-true 1 (length word) bounds.0; few = leb-true (length word) 32 bounds.1; bytes = parts.1 }

name_from : (word : List ℕ) → 1 ≤ length word → length word ≤ 32 → list_all is_name_byte word ≡ true → is_name word ≡ true
name_from word some few bytes =
    and_from (leb 1 (length word) && leb (length word) 32) (list_all is_name_byte word)
    (and_from (leb 1 (length word)) (leb (length word) 32) (le-leb 1 (length word) some) (le-leb (length word) 32 few))
    bytes

-- a byte of a line of words
pub record IsLineByte (b : ℕ) : Type 0 where
  pub low : 32 ≤ b
  pub high : b ≤ 126
  pub comment : eqb b 35 ≡ false

-- from 48 on, so no `#`
byte_range : (b : ℕ) → is_name_byte b ≡ true → (48 ≤ b) × (b ≤ 122)
byte_range b is =
    ⊎_elim
    (λ other.
    ⊎_elim
    (λ letter. let r = and_parts (leb 97 b) (leb b 122) letter in let low = leb-true 97 b r.0 in let high = leb-true b 122 r.1 in (omega arith, omega arith))
    (λ digit. let r = and_parts (leb 48 b) (leb b 57) digit in let low = leb-true 48 b r.0 in let high = leb-true b 57 r.1 in (omega arith, omega arith))
    (or_cases (leb 97 b && leb b 122) (leb 48 b && leb b 57) other))
    (λ underscore. let is = eqb-true b 95 underscore in (omega arith, omega arith))
    (or_cases (leb 97 b && leb b 122 || leb 48 b && leb b 57) (eqb b 95) is)

line_byte : (b : ℕ) → is_name_byte b ≡ true → IsLineByte b
line_byte b is =
    let range = byte_range b is in
    let low = range.0 in
    let high = range.1 in
    record { low = omega arith; high = omega arith; comment = ne_eqb b 35 (λ same. absurd (omega arith)) }

word_byte : (b : ℕ) → is_name_byte b ≡ true → is_word_byte b ≡ true
word_byte b is =
    let range = byte_range b is in
    let low = range.0 in
    let high = range.1 in
    and_from (leb 33 b) (leb b 126) (le-leb 33 b (omega arith)) (le-leb b 126 (omega arith))

space : IsLineByte 32
space = record { low = omega arith; high = omega arith; comment = refl }

both : {A : Type 0} (P : A → Type 0) (xs ys : List A) → AllByRecursion P xs → AllByRecursion P ys → AllByRecursion P (xs ++ ys)
both P [] ys left right = right
both P (x ∷ xs) ys left right = (left.0, both P xs ys left.1 right)

word_bytes : (word : List ℕ) → list_all is_name_byte word ≡ true → AllByRecursion IsLineByte word
word_bytes [] plain = tt
word_bytes (b ∷ bs) plain = let parts = and_parts (is_name_byte b) (list_all is_name_byte bs) plain in (line_byte b parts.0, word_bytes bs parts.1)

behind_bytes : (words : List (List ℕ)) → AreNameWords words → AllByRecursion IsLineByte (flat_map (λ word. 32 ∷ word) words)
behind_bytes [] plain = tt
behind_bytes (word ∷ words) plain = (space, both IsLineByte word (flat_map (λ w. 32 ∷ w) words) (word_bytes word (name_parts word plain.0).bytes) (behind_bytes words plain.1))

pub line_bytes : (keyword : List ℕ) (words : List (List ℕ)) → AreNameWords (keyword ∷ words) → AllByRecursion IsLineByte (bare_line keyword words)
line_bytes keyword words plain = both IsLineByte keyword (flat_map (λ w. 32 ∷ w) words) (word_bytes keyword (name_parts keyword plain.0).bytes) (behind_bytes words plain.1)

-- such a line has no comment
and_not : (a b : Bool) → b ≡ false → a && b ≡ false
and_not true b is = is
and_not false b is = refl

no_comment : (within : Bool) (bs : List ℕ) → AllByRecursion IsLineByte bs → text_behind within bs ≡ bs
no_comment within [] plain = refl
no_comment within (b ∷ bs) plain = rw (and_not (not within) (eqb b 35) plain.0.comment) (ap (λ rest. b ∷ rest) (no_comment (is_word_byte b) bs plain.1))

-- no carriage return at its end
not_return : (bs : List ℕ) (i : ℕ) → AllByRecursion IsLineByte bs → eqb (get_or bs i 0) 13 ≡ false
not_return [] i plain = refl
not_return (b ∷ bs) zero plain = let low = plain.0.low in ne_eqb b 13 (λ same. absurd (omega arith))
not_return (b ∷ bs) (suc i) plain = not_return bs i plain.1

pub as_it_is : (bs : List ℕ) → AllByRecursion IsLineByte bs → without_return bs ≡ bs
as_it_is bs plain = rw (not_return bs (length bs - 1) plain) refl

-- and no bad byte
none_bad : (bs : List ℕ) → AllByRecursion IsLineByte bs → list_any is_bad_byte bs ≡ false
none_bad [] plain = refl
none_bad (b ∷ bs) plain =
    let low = plain.0.low in
    rw (and_not (not (eqb b 9)) (ltb b 32 || ltb 126 b) (rw (le-ltb b 32 plain.0.low, le-ltb 126 b plain.0.high) refl), none_bad bs plain.1) refl

-- its words are those that it is made of
abbrev is_gap : ℕ → Bool
is_gap b = not (is_word_byte b)

no_gap : (word : List ℕ) → list_all is_name_byte word ≡ true → AllByRecursion (λ b. is_gap b ≡ false) word
no_gap [] plain = tt
no_gap (b ∷ bs) plain =
    let parts = and_parts (is_name_byte b) (list_all is_name_byte bs) plain in
    (not_from_true (is_word_byte b) (word_byte b parts.0), no_gap bs parts.1)

split_again : (word : List ℕ) (words : List (List ℕ)) → AreNameWords (word ∷ words) → slice_split is_gap (bare_line word words) ≡ word ∷ words
split_again word [] plain =
    ap (slice_split is_gap) (append-nil word) ∙ slice_split_none is_gap word (All-from_recursion (λ b. is_gap b ≡ false) word (no_gap word (name_parts word plain.0).bytes))
split_again word (next ∷ words) plain =
    slice_split_at is_gap word 32 (bare_line next words) (All-from_recursion (λ b. is_gap b ≡ false) word (no_gap word (name_parts word plain.0).bytes)) refl
    ∙ ap (λ ws. word ∷ ws) (split_again next words plain.1)

has_some : (word : List ℕ) → 1 ≤ length word → has_bytes word ≡ true
has_some [] some = absurd (omega arith)
has_some (b ∷ bs) some = refl

all_kept : (words : List (List ℕ)) → AreNameWords words → filter has_bytes words ≡ words
all_kept [] plain = refl
all_kept (word ∷ words) plain = rw (has_some word (name_parts word plain.0).some) (ap (λ ws. word ∷ ws) (all_kept words plain.1))

-- its length
behind_few : (words : List (List ℕ)) → AreNameWords words → length (flat_map (λ word. 32 ∷ word) words) ≤ 33 * length words
behind_few [] plain = omega arith
behind_few (word ∷ words) plain =
    let few = (name_parts word plain.0).few in
    let rest = behind_few words plain.1 in
    let long : length (flat_map (λ (w : List ℕ). 32 ∷ w) (word ∷ words)) ≡ suc (length word + length (flat_map (λ (w : List ℕ). 32 ∷ w) words)) = ap suc (length-append word (flat_map (λ w. 32 ∷ w) words)) in
    omega arith

short_line : (keyword : List ℕ) (words : List (List ℕ)) → AreNameWords (keyword ∷ words) → length words ≤ 1100 → length (bare_line keyword words) ≤ 65536
short_line keyword words plain few =
    let first = (name_parts keyword plain.0).few in
    let rest = behind_few words plain.1 in
    let long = length-append keyword (flat_map (λ w. 32 ∷ w) words) in
    omega arith

by_parts : (state : State) (raw line keyword : List ℕ) (words : List (List ℕ)) → without_return raw ≡ line → is_too_long line ≡ false → has_bad_byte line ≡ false → words_of line ≡ keyword ∷ words → step state raw ≡ keyword_line state keyword words
by_parts state raw line keyword words same short good are = rw (same, short, good, are) refl

-- A line of names is read by its words.
pub step_worded : (state : State) (keyword : List ℕ) (words : List (List ℕ)) → AreNameWords (keyword ∷ words) → length words ≤ 1100 → step state (bare_line keyword words) ≡ keyword_line state keyword words
step_worded state keyword words plain few =
    let bytes = line_bytes keyword words plain in
    let own : text_behind false (bare_line keyword words) ≡ bare_line keyword words = no_comment false (bare_line keyword words) bytes in
    by_parts state (bare_line keyword words) (bare_line keyword words) keyword words
    (as_it_is (bare_line keyword words) bytes)
    (le-ltb 65536 (length (bare_line keyword words)) (short_line keyword words plain few))
    (ap (list_any is_bad_byte) own ∙ none_bad (bare_line keyword words) bytes)
    (ap (λ bs. filter has_bytes (slice_split is_gap bs)) own ∙ ap (filter has_bytes) (split_again keyword words plain) ∙ all_kept (keyword ∷ words) plain)

pub name_words : (words : List (List ℕ)) → list_all is_name words ≡ true → AreNameWords words
name_words [] all = tt
name_words (word ∷ words) all = let parts = and_parts (is_name word) (list_all is_name words) all in (parts.0, name_words words parts.1)

-- numbers
own_numerals : IsNumeralModel (λ ds. all_ascii_digits ds ≡ true) (digits_value 10)
own_numerals = numerals_by_value _ (search rules)

digit_bytes : (ds : List ℕ) → all_ascii_digits ds ≡ true → list_all is_name_byte ds ≡ true
digit_bytes [] all = refl
digit_bytes (d ∷ ds) all =
    let parts = and_parts (leb 48 d && leb d 57) (all_ascii_digits ds) all in
    let byte : is_name_byte d ≡ true = or_left (leb 97 d && leb d 122 || leb 48 d && leb d 57) (eqb d 95) (or_right (leb 97 d && leb d 122) (leb 48 d && leb d 57) parts.0) in
    and_from (is_name_byte d) (list_all is_name_byte ds) byte (digit_bytes ds parts.1)

number_length : (n : ℕ) → n ≤ 1000000 → length (decimal n) ≤ 9
number_length n small = length-decimal-le 9 n (omega arith) (omega arith) (omega arith)

pub number_named : (n : ℕ) → n ≤ 1000000 → is_name (decimal n) ≡ true
number_named n small =
    let few : n < 2 ^ 64 = omega arith in
    let short = number_length n small in
    name_from (decimal n) (decimal_nonempty n few) (omega arith) (digit_bytes (decimal n) (digits_decimal own_numerals n few))

pub number_is : (n : ℕ) → n ≤ 1000000 → is_number 9 (decimal n) ≡ true
number_is n small =
    let few : n < 2 ^ 64 = omega arith in
    and_from (leb 1 (length (decimal n)) && leb (length (decimal n)) 9) (all_ascii_digits (decimal n))
    (and_from (leb 1 (length (decimal n))) (leb (length (decimal n)) 9) (le-leb 1 (length (decimal n)) (decimal_nonempty n few)) (le-leb (length (decimal n)) 9 (number_length n small)))
    (digits_decimal own_numerals n few)

pub number_value : (n : ℕ) → n ≤ 1000000 → digits_value 10 (decimal n) ≡ n
number_value n small = digits_value-decimal own_numerals n (omega arith)
