-- The words of a line, one after the other.
use Rattle.std.proofs.Common.{◌≡◌, ⊎_elim, ℕ, ◌+◌, ◌-◌, ◌<◌, ◌≤◌, suc, Bool, true, false, not, filter, List, [], ◌∷◌, length, take, drop, get_or, refl, sym, ap, subst, ◌∙◌, arith}
use Rattle.std.specs.Prelude.{slice_range, ◌==◌}
use Rattle.std.specs.List.{prefix_len, position_or_len, take_while, slice_split}
use Rattle.std.proofs.lemmas.List.{length-drop, drop-drop, drop_all, drop_more, get_or-drop}
use Rattle.std.proofs.lemmas.List.Sums.{passes_at_first, prefix_len-drop_yes}
use Rattle.std.proofs.lemmas.Bool.{cases_Bool, eqb-true}
use Rattle.std.proofs.Math.Numerals.{one-add}
use Rattle.site_lines.specs.Words.{is_word_byte, has_bytes, text_behind, words_of}

-- the parts round the bytes that belong to no word
abbrev parts : Bool → List ℕ → List (List ℕ)
parts within bs = slice_split (λ b. not (is_word_byte b)) (text_behind within bs)

-- what belongs to no word is no `#`
not_hash : (b : ℕ) → is_word_byte b ≡ false → (b == 35) ≡ false
not_hash b e = ⊎_elim (λ h. let same : b ≡ 35 = eqb-true b 35 h in let no = subst (λ x. is_word_byte x ≡ false) same e in cc) (λ h. h) (cases_Bool (b == 35))

skips_one : (b : ℕ) (bs : List ℕ) → is_word_byte b ≡ false → words_of (b ∷ bs) ≡ words_of bs
skips_one b bs e = let h = not_hash b e in rw (h, e) refl

-- behind the first byte of a word: the rest of the word, and the words behind it
record Behind (bs : List ℕ) : Type 0 where
  others : List (List ℕ)
  split : parts true bs ≡ take_while is_word_byte bs ∷ others
  words : filter has_bytes others ≡ words_of (drop (prefix_len is_word_byte bs) bs)

behind_yes : (b : ℕ) (bs : List ℕ) → is_word_byte b ≡ true → Behind bs → Behind (b ∷ bs)
behind_yes b bs e rest = record {
  others = rest.others;
  split = rw (e, one-add, rest.split) refl;
  words = rw (e, one-add) rest.words;
}

behind_no : (b : ℕ) (bs : List ℕ) → is_word_byte b ≡ false → Behind (b ∷ bs)
behind_no b bs e = record {
  others = parts false bs;
  split = rw e refl;
  words = rw e (sym (skips_one b bs e));
}

behind : (bs : List ℕ) → Behind bs
behind [] = record { others = []; split = refl; words = refl }
behind (b ∷ bs) = ⊎_elim (λ e. behind_yes b bs e (behind bs)) (λ e. behind_no b bs e) (cases_Bool (is_word_byte b))

-- what belongs to no word is passed over
abbrev Skips : List ℕ → Type 0
Skips bs = words_of bs ≡ words_of (drop (position_or_len is_word_byte bs) bs)

skip_yes : (b : ℕ) (bs : List ℕ) → is_word_byte b ≡ true → Skips (b ∷ bs)
skip_yes b bs e = let none : 0 ≡ position_or_len is_word_byte (b ∷ bs) = rw e refl in ap (λ n. words_of (drop n (b ∷ bs))) none

skip_no : (b : ℕ) (bs : List ℕ) → is_word_byte b ≡ false → Skips bs → Skips (b ∷ bs)
skip_no b bs e rest =
    let one : suc (position_or_len is_word_byte bs) ≡ position_or_len is_word_byte (b ∷ bs) = rw (e, one-add) refl in
    skips_one b bs e ∙ rest ∙ ap (λ n. words_of (drop n (b ∷ bs))) one

pub words_skip : (bs : List ℕ) → Skips bs
words_skip [] = refl
words_skip (b ∷ bs) = ⊎_elim (λ e. skip_yes b bs e) (λ e. skip_no b bs e (words_skip bs)) (cases_Bool (is_word_byte b))

-- a comment goes to the end
pub words_comment : (b : ℕ) (bs : List ℕ) → (b == 35) ≡ true → words_of (b ∷ bs) ≡ []
words_comment b bs is = rw is refl

begins : (b : ℕ) (bs : List ℕ) → (b == 35) ≡ false → parts false (b ∷ bs) ≡ parts true (b ∷ bs)
begins b bs e = rw e refl

is_part : (b : ℕ) (bs : List ℕ) (others : List (List ℕ)) → is_word_byte b ≡ true → filter has_bytes (take_while is_word_byte (b ∷ bs) ∷ others) ≡ take_while is_word_byte (b ∷ bs) ∷ filter has_bytes others
is_part b bs others e = rw (e, one-add) refl

pub words_word : (b : ℕ) (bs : List ℕ) → is_word_byte b ≡ true → (b == 35) ≡ false
    → words_of (b ∷ bs) ≡ take_while is_word_byte (b ∷ bs) ∷ words_of (drop (prefix_len is_word_byte (b ∷ bs)) (b ∷ bs))
words_word b bs e no_hash =
    let rest = behind (b ∷ bs) in
    ap (filter has_bytes) (begins b bs no_hash ∙ rest.split)
    ∙ is_part b bs rest.others e
    ∙ ap (λ ws. take_while is_word_byte (b ∷ bs) ∷ ws) rest.words

-- the same from a place on, before which n bytes are passed over
pub skip_from : (line : List ℕ) (from n : ℕ) → n ≡ position_or_len is_word_byte (drop from line) → words_of (drop from line) ≡ words_of (drop (from + n) line)
skip_from line from n is = words_skip (drop from line) ∙ ap (λ m. words_of (drop m (drop from line))) (sym is) ∙ ap words_of (drop-drop n from line)

pub none_from : (line : List ℕ) (from n : ℕ) → n ≡ position_or_len is_word_byte (drop from line) → length line ≤ from + n → words_of (drop from line) ≡ []
none_from line from n is end = skip_from line from n is ∙ ap words_of (drop_all (from + n) line end)

pub begins_word : (line : List ℕ) (from n : ℕ) → n ≡ position_or_len is_word_byte (drop from line) → from + n < length line → is_word_byte (get_or line (from + n) 0) ≡ true
begins_word line from n is lt =
    let lt' : position_or_len is_word_byte (drop from line) < length (drop from line) = rw (← is, length-drop) (omega arith) in
    let at : is_word_byte (get_or (drop from line) n 0) ≡ true = rw is (passes_at_first is_word_byte (drop from line) 0 lt') in
    ap is_word_byte (sym (get_or-drop from line n 0)) ∙ at

pub comment_from : (line : List ℕ) (from n : ℕ) → n ≡ position_or_len is_word_byte (drop from line) → from + n < length line → (get_or line (from + n) 0 == 35) ≡ true → words_of (drop from line) ≡ []
comment_from line from n is lt hash =
    skip_from line from n is ∙ ap words_of (drop_more line (from + n) 0 lt) ∙ words_comment (get_or line (from + n) 0) (drop (from + n + 1) line) hash

pub word_from_place : (line : List ℕ) (from n m : ℕ) → n ≡ position_or_len is_word_byte (drop from line) → m ≡ prefix_len is_word_byte (drop (from + n) line) → from + n < length line
    → (get_or line (from + n) 0 == 35) ≡ false → words_of (drop from line) ≡ slice_range line (from + n) (from + n + m) ∷ words_of (drop (from + n + m) line)
word_from_place line from n m is len lt no_hash =
    let start = from + n in
    let at : drop start line ≡ get_or line start 0 ∷ drop (start + 1) line = drop_more line start 0 lt in
    let word : words_of (drop start line) ≡ take_while is_word_byte (drop start line) ∷ words_of (drop (prefix_len is_word_byte (drop start line)) (drop start line)) =
    rw at (words_word (get_or line start 0) (drop (start + 1) line) (begins_word line from n is lt) no_hash) in
    let k : start + m - start ≡ m = omega arith in
    skip_from line from n is ∙ word ∙ ap (λ j. take j (drop start line) ∷ words_of (drop j (drop start line))) (sym len ∙ sym k)
    ∙ ap (λ ws. slice_range line start (start + m) ∷ words_of ws) (ap (λ j. drop j (drop start line)) k ∙ drop-drop m start line)

pub word_some : (line : List ℕ) (from n m : ℕ) → n ≡ position_or_len is_word_byte (drop from line) → m ≡ prefix_len is_word_byte (drop (from + n) line) → from + n < length line → 0 < m
word_some line from n m is len lt =
    let one : prefix_len is_word_byte (drop (from + n) line) ≡ 1 + prefix_len is_word_byte (drop (from + n + 1) line) = prefix_len-drop_yes is_word_byte line (from + n) 0 lt (begins_word line from n is lt) in
    omega arith
