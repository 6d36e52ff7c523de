-- The words of printed lines: their bytes, and lines made of them.
use Rattle.std.proofs.Common.{◌≡◌, ⊎_elim, ℕ, ◌^◌, ◌<◌, ◌≤◌, ◌&&◌, ◌||◌, leb, eqb, not, true, false, List, [], ◌∷◌, ◌++◌, length, get_or, refl, ap, ◌∙◌, arith}
use Rattle.std.specs.Fmt.{decimal}
use Rattle.std.specs.List.{list_any, list_all, AllByRecursion}
use Rattle.std.specs.Str.{all_ascii_digits}
use Rattle.std.specs.Str.Parse.{digits_value}
use Rattle.std.proofs.lemmas.Bool.{cases_lt, and_parts, and_from, or_cases, eqb-true, ne_eqb, leb-true, le-leb, le-ltb, not_from_false, or_left, or_right}
use Rattle.std.proofs.lemmas.List.{append-nil}
use Rattle.std.proofs.lemmas.List.Elements.{All-from_recursion}
use Rattle.std.proofs.lemmas.List.Splits.{slice_split_at, slice_split_none}
use Rattle.std.proofs.lemmas.Fmt.{decimal_nonempty, digits_decimal, digits_value-decimal, length-decimal-le, first_decimal, decimal_digit}
use Rattle.fleet_names.specs.Names.{is_name, is_name_byte}
use Rattle.fleet_texts.specs.Words.{spaced, behind}
use Rattle.site_lines.specs.Numbers.{is_number}
use Rattle.plan_journal.specs.Entries.{has_empty, is_plain_number}
use Rattle.plan_journal.specs.Reading.{is_odd, parts_of, ended_lines, onto_line}
use Rattle.plan_journal.proofs.Numbers.{own}

-- a byte of a line, and one of a word
abbrev pub IsPlainByte : ℕ → Type 0
IsPlainByte b = (32 ≤ b) × (b ≤ 126)

abbrev pub IsWordByte : ℕ → Type 0
IsWordByte b = (33 ≤ b) × (b ≤ 126)

-- bytes that may stand in a line, and a word
abbrev pub ArePlain : List ℕ → Type 0
ArePlain bs = AllByRecursion IsPlainByte bs

pub record IsWord (word : List ℕ) : Type 0 where
  pub some : 1 ≤ length word
  pub bytes : AllByRecursion IsWordByte word

abbrev pub AreWords : List (List ℕ) → Type 0
AreWords words = AllByRecursion IsWord words

both : {A : Type 0} (P : A → Type 0) (xs ys : List A) → AllByRecursion P xs → AllByRecursion P ys → AllByRecursion P (xs ++ ys)
both P [] ys left right = right
both P (x ∷ xs) ys left right = (left.0, both P xs ys left.1 right)

pub both_words : (xs ys : List (List ℕ)) → AreWords xs → AreWords ys → AreWords (xs ++ ys)
both_words xs ys left right = both IsWord xs ys left right

plain_word : (word : List ℕ) → AllByRecursion IsWordByte word → ArePlain word
plain_word [] bytes = tt
plain_word (b ∷ bs) bytes = let first = bytes.0 in ((omega arith, omega arith), plain_word bs bytes.1)

plain_behind : (words : List (List ℕ)) → AreWords words → ArePlain (behind words)
plain_behind [] are = tt
plain_behind (word ∷ words) are = ((omega arith, omega arith), both IsPlainByte word (behind words) (plain_word word are.0.bytes) (plain_behind words are.1))

pub plain_spaced : (words : List (List ℕ)) → AreWords words → ArePlain (spaced words)
plain_spaced [] are = tt
plain_spaced (word ∷ words) are = both IsPlainByte word (behind words) (plain_word word are.0.bytes) (plain_behind words are.1)

pub none_odd : (bs : List ℕ) → ArePlain bs → list_any is_odd bs ≡ false
none_odd [] are = refl
none_odd (b ∷ bs) are = rw (le-ltb b 32 are.0.0, le-ltb 126 b are.0.1, none_odd bs are.1) refl

-- a plain line ends at its line feed
pub plain_line : (line rest : List ℕ) → ArePlain line → ended_lines (line ++ 10 ∷ rest) ≡ line ∷ ended_lines rest
plain_line [] rest are = refl
plain_line (b ∷ bs) rest are =
    let low = are.0.0 in
    let other : eqb b 10 ≡ false = ne_eqb b 10 (λ same. absurd (omega arith)) in
    rw other (ap (onto_line b) (plain_line bs rest are.1))

-- words are the parts of their line
no_space : (word : List ℕ) → AllByRecursion IsWordByte word → AllByRecursion (λ b. eqb b 32 ≡ false) word
no_space [] bytes = tt
no_space (b ∷ bs) bytes = let low = bytes.0.0 in (ne_eqb b 32 (λ same. absurd (omega arith)), no_space bs bytes.1)

pub parts_again : (word : List ℕ) (words : List (List ℕ)) → AreWords (word ∷ words) → parts_of (spaced (word ∷ words)) ≡ word ∷ words
parts_again word [] are = ap parts_of (append-nil word) ∙ slice_split_none (λ b. eqb b 32) word (All-from_recursion (λ b. eqb b 32 ≡ false) word (no_space word are.0.bytes))
parts_again word (next ∷ words) are =
    slice_split_at (λ b. eqb b 32) word 32 (spaced (next ∷ words)) (All-from_recursion (λ b. eqb b 32 ≡ false) word (no_space word are.0.bytes)) refl
    ∙ ap (λ ws. word ∷ ws) (parts_again next words are.1)

pub none_empty : (words : List (List ℕ)) → AreWords words → has_empty words ≡ false
none_empty [] are = refl
none_empty (word ∷ words) are =
    let some = are.0.some in
    let other : eqb (length word) 0 ≡ false = ne_eqb (length word) 0 (λ same. absurd (omega arith)) in
    rw (other, none_empty words are.1) refl

-- numbers
digit_bytes : (ds : List ℕ) → all_ascii_digits ds ≡ true → AllByRecursion IsWordByte ds
digit_bytes [] all = tt
digit_bytes (d ∷ ds) all =
    let parts = and_parts (leb 48 d && leb d 57) (all_ascii_digits ds) all in
    let range = and_parts (leb 48 d) (leb d 57) parts.0 in
    let low = leb-true 48 d range.0 in
    let high = leb-true d 57 range.1 in
    ((omega arith, omega arith), digit_bytes ds parts.1)

pub number_word : (n : ℕ) → n ≤ 999999999999999 → IsWord (decimal n)
number_word n small = let few : n < 2 ^ 64 = omega arith in record { some = decimal_nonempty n few; bytes = digit_bytes (decimal n) (digits_decimal own n few) }

pub number_value : (n : ℕ) → n ≤ 999999999999999 → digits_value 10 (decimal n) ≡ n
number_value n small = digits_value-decimal own n (omega arith)

no_leading : (n : ℕ) → n ≤ 999999999999999 → eqb (length (decimal n)) 1 || not (eqb (get_or (decimal n) 0 0) 48) ≡ true
no_leading n small =
    ⊎_elim
    (λ some.
    let first = first_decimal n some (omega arith) in
    let other : not (eqb (get_or (decimal n) 0 0) 48) ≡ true = not_from_false (eqb (get_or (decimal n) 0 0) 48) (ne_eqb (get_or (decimal n) 0 0) 48 (λ same. absurd (omega arith))) in
    or_right (eqb (length (decimal n)) 1) (not (eqb (get_or (decimal n) 0 0) 48)) other)
    (λ none.
    let zero_is : n ≡ 0 = omega arith in
    or_left (eqb (length (decimal n)) 1) (not (eqb (get_or (decimal n) 0 0) 48)) (ap (λ k. eqb (length (decimal k)) 1) zero_is ∙ ap (λ ds. eqb (length ds) 1) (decimal_digit 0 (omega arith))))
    (cases_lt 0 n)

pub number_plain : (n : ℕ) → n ≤ 999999999999999 → is_plain_number (decimal n) ≡ true
number_plain n small =
    let few : n < 2 ^ 64 = omega arith in
    let some = decimal_nonempty n few in
    let short = length-decimal-le 15 n (omega arith) (omega arith) few in
    let count = and_from (leb 1 (length (decimal n))) (leb (length (decimal n)) 15) (le-leb 1 (length (decimal n)) some) (le-leb (length (decimal n)) 15 short) in
    and_from (is_number 15 (decimal n)) _ (and_from (leb 1 (length (decimal n)) && leb (length (decimal n)) 15) (all_ascii_digits (decimal n)) count (digits_decimal own n few)) (no_leading n small)

-- names
name_bytes : (name : List ℕ) → list_all is_name_byte name ≡ true → AllByRecursion IsWordByte name
name_bytes [] all = tt
name_bytes (b ∷ bs) all =
    let parts = and_parts (is_name_byte b) (list_all is_name_byte bs) all in
    let range : IsWordByte b =
    ⊎_elim
    (λ other.
    ⊎_elim (λ letter. let r = and_parts (leb 97 b) (leb b 122) letter in let low = leb-true 97 b r.0 in let high = leb-true b 122 r.1 in (omega arith, omega arith))
    (λ digit. let r = and_parts (leb 48 b) (leb b 57) digit in let low = leb-true 48 b r.0 in let high = leb-true b 57 r.1 in (omega arith, omega arith))
    (or_cases (leb 97 b && leb b 122) (leb 48 b && leb b 57) other))
    (λ underscore. let is = eqb-true b 95 underscore in (omega arith, omega arith))
    (or_cases (leb 97 b && leb b 122 || leb 48 b && leb b 57) (eqb b 95) parts.0)
    in
    (range, name_bytes bs parts.1)

pub name_word : (name : List ℕ) → is_name name ≡ true → IsWord name
name_word name is =
    let parts = and_parts (leb 1 (length name) && leb (length name) 32) (list_all is_name_byte name) is in
    record { some = leb-true 1 (length name) (and_parts (leb 1 (length name)) (leb (length name) 32) parts.0).0; bytes = name_bytes name parts.1 }
