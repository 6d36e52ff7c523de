-- The lines of a text, one after the other.
use Rattle.std.proofs.Common.{◌≡◌, ⊎_elim, ℕ, ◌+◌, ◌-◌, ◌<◌, ◌≤◌, true, false, List, [], ◌∷◌, length, take, drop, refl, sym, ap, ◌∙◌, arith}
use Rattle.std.specs.Prelude.{slice_range}
use Rattle.std.proofs.lemmas.List.{length-drop, drop-drop, drop_all}
use Rattle.std.proofs.Math.Numerals.{one-add, add-one}
use Rattle.std.specs.List.{before_first, after_first, position_or_len, onto_first}
use Rattle.std.proofs.lemmas.Bool.{cases_Bool}
use Rattle.site_lines.specs.Lines.{is_feed, lines_of}

-- the first line, and the lines behind it
abbrev Steps : List ℕ → Type 0
Steps bs = lines_of bs ≡ before_first is_feed bs ∷ lines_of (after_first is_feed bs)

at_feed : (b : ℕ) (bs : List ℕ) → is_feed b ≡ true → Steps (b ∷ bs)
at_feed b bs e = rw e refl

alone : (b : ℕ) → is_feed b ≡ false → Steps (b ∷ [])
alone b e = rw e refl

further : (b c : ℕ) (bs : List ℕ) → is_feed b ≡ false → Steps (c ∷ bs) → Steps (b ∷ c ∷ bs)
further b c bs e steps = rw (e, one-add, add-one) (ap (onto_first b) steps ∙ ap (λ n. (b ∷ before_first is_feed (c ∷ bs)) ∷ lines_of (drop n (c ∷ bs))) (add-one (position_or_len is_feed (c ∷ bs))))

pub lines_next : (bs : List ℕ) → 0 < length bs → Steps bs
lines_next [] some = absurd (omega arith)
lines_next (b ∷ []) some = ⊎_elim (λ e. at_feed b [] e) (λ e. alone b e) (cases_Bool (is_feed b))
lines_next (b ∷ c ∷ bs) some = ⊎_elim (λ e. at_feed b (c ∷ bs) e) (λ e. further b c bs e (lines_next (c ∷ bs) (omega arith))) (cases_Bool (is_feed b))

-- the same from a place on, where n bytes stand before the line feed, or to the end
pub ended_from : (bytes : List ℕ) (from n : ℕ) → n ≡ position_or_len is_feed (drop from bytes) → from < length bytes
    → lines_of (drop from bytes) ≡ slice_range bytes from (from + n) ∷ lines_of (drop (from + n + 1) bytes)
ended_from bytes from n is lt =
    let k : from + n - from ≡ n = omega arith in
    let some : 0 < length (drop from bytes) = rw length-drop (omega arith) in
    let steps : lines_of (drop from bytes) ≡ take n (drop from bytes) ∷ lines_of (drop (n + 1) (drop from bytes)) = rw is (lines_next (drop from bytes) some) in
    let place : from + (n + 1) ≡ from + n + 1 = omega arith in
    rw k (steps ∙ ap (λ ls. take n (drop from bytes) ∷ lines_of ls) (drop-drop (n + 1) from bytes ∙ ap (λ m. drop m bytes) place))

pub open_from : (bytes : List ℕ) (from n : ℕ) → n ≡ position_or_len is_feed (drop from bytes) → from < length bytes → length bytes ≤ from + n
    → lines_of (drop from bytes) ≡ slice_range bytes from (from + n) ∷ lines_of (drop (from + n) bytes)
open_from bytes from n is lt end =
    let a : drop (from + n) bytes ≡ [] = drop_all (from + n) bytes end in
    let b : drop (from + n + 1) bytes ≡ [] = drop_all (from + n + 1) bytes (omega arith) in
    ended_from bytes from n is lt ∙ ap (λ ls. slice_range bytes from (from + n) ∷ lines_of ls) (b ∙ sym a)
