-- The lines that a line feed ends, one after the other.
use Rattle.std.proofs.Common.{◌≡◌, ⊎_elim, ℕ, ◌+◌, ◌-◌, ◌<◌, ◌≤◌, Bool, true, false, cond, ltb, Some, None, List, [], ◌∷◌, length, take, drop, refl, sym, ap, ◌∙◌, arith}
use Rattle.std.specs.Prelude.{slice_range}
use Rattle.std.specs.List.{before_first, after_first, position_or_len}
use Rattle.std.proofs.Math.Numerals.{one-add, add-one}
use Rattle.std.proofs.lemmas.Bool.{cases_Bool, ltb-true, ltb-false}
use Rattle.std.proofs.lemmas.List.{length-drop, drop-drop}
use Rattle.site_lines.specs.Lines.{is_feed, stop_of, line_from}
use Rattle.site_lines.specs.declared.line.Line.{Line}
use Rattle.plan_journal.specs.Reading.{ended_lines, onto_line}

-- the first line, and the lines behind it
abbrev Steps : List ℕ → Type 0
Steps bs = ended_lines bs ≡ before_first is_feed bs ∷ ended_lines (after_first is_feed bs)

at_feed : (b : ℕ) (bs : List ℕ) → is_feed b ≡ true → Steps (b ∷ bs)
at_feed b bs e = rw e refl

past_feed : (b : ℕ) (bs : List ℕ) → is_feed b ≡ false → Steps bs → Steps (b ∷ bs)
past_feed b bs e steps = rw (e, one-add, add-one) (ap (onto_line b) steps ∙ ap (λ n. (b ∷ before_first is_feed bs) ∷ ended_lines (drop n bs)) (add-one (position_or_len is_feed bs)))

next_line : (bs : List ℕ) → position_or_len is_feed bs < length bs → Steps bs
next_line [] some = absurd (omega arith)
next_line (b ∷ bs) some = ⊎_elim (λ e. at_feed b bs e) (λ e. past_feed b bs e (next_line bs (let h = rw e at some in omega arith))) (cases_Bool (is_feed b))

no_line : (bs : List ℕ) → length bs ≤ position_or_len is_feed bs → ended_lines bs ≡ []
no_line [] none = refl
no_line (b ∷ bs) none = ⊎_elim (λ e. absurd (let h = rw e at none in omega arith)) (λ e. rw e (ap (onto_line b) (no_line bs (let h = rw e at none in omega arith)))) (cases_Bool (is_feed b))

-- the same from a place on, where n bytes stand before the line feed
pub line_from_place : (bytes : List ℕ) (from n : ℕ) → n ≡ position_or_len is_feed (drop from bytes) → from + n < length bytes
    → ended_lines (drop from bytes) ≡ slice_range bytes from (from + n) ∷ ended_lines (drop (from + n + 1) bytes)
line_from_place bytes from n is lt =
    let k : from + n - from ≡ n = omega arith in
    let some : position_or_len is_feed (drop from bytes) < length (drop from bytes) = rw length-drop (omega arith) in
    let steps : ended_lines (drop from bytes) ≡ take n (drop from bytes) ∷ ended_lines (drop (n + 1) (drop from bytes)) = rw is (next_line (drop from bytes) some) in
    let place : from + (n + 1) ≡ from + n + 1 = omega arith in
    rw k (steps ∙ ap (λ ls. take n (drop from bytes) ∷ ended_lines ls) (drop-drop (n + 1) from bytes ∙ ap (λ m. drop m bytes) place))

pub no_line_from : (bytes : List ℕ) (from n : ℕ) → n ≡ position_or_len is_feed (drop from bytes) → length bytes ≤ from + n → ended_lines (drop from bytes) ≡ []
no_line_from bytes from n is past = no_line (drop from bytes) (rw length-drop (omega arith))

-- what the line at a place tells
abbrev line_by : List ℕ → ℕ → Line
line_by bytes from = record { start = from; stop = stop_of bytes from; next = cond (ltb (stop_of bytes from) (length bytes)) (stop_of bytes from + 1) (stop_of bytes from); ended = ltb (stop_of bytes from) (length bytes) }

is_line : (bytes : List ℕ) (from : ℕ) (line : Line) (b : Bool) → Some line ≡ cond b (Some (line_by bytes from)) None → line ≡ line_by bytes from
is_line bytes from line true is = cc
is_line bytes from line false is = absurd (cc)

pub line_told : (bytes : List ℕ) (from : ℕ) (line : Line) → Some line ≡ line_from bytes from → line.ended ≡ true → ended_lines (drop from bytes) ≡ slice_range bytes from line.stop ∷ ended_lines (drop (line.stop + 1) bytes)
line_told bytes from line is ended =
    let same = is_line bytes from line (ltb from (length bytes)) is in
    let stop : line.stop ≡ stop_of bytes from = ap (λ (l : Line). l.stop) same in
    let before : ltb (stop_of bytes from) (length bytes) ≡ true = sym (ap (λ (l : Line). l.ended) same) ∙ ended in
    rw stop (line_from_place bytes from (position_or_len is_feed (drop from bytes)) refl (ltb-true (stop_of bytes from) (length bytes) before))

pub no_line_told : (bytes : List ℕ) (from : ℕ) (line : Line) → Some line ≡ line_from bytes from → line.ended ≡ false → ended_lines (drop from bytes) ≡ []
no_line_told bytes from line is open_line =
    let same = is_line bytes from line (ltb from (length bytes)) is in
    let past : ltb (stop_of bytes from) (length bytes) ≡ false = sym (ap (λ (l : Line). l.ended) same) ∙ open_line in
    no_line_from bytes from (position_or_len is_feed (drop from bytes)) refl (ltb-false (stop_of bytes from) (length bytes) past)
