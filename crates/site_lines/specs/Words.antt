-- The words of an input line. A line is handed in without its line feed and its dropped carriage return.
use Rattle.std.specs.Prelude.{ℕ, ◌+◌, ◌==◌, nat_lt, nat_le, ◌&&◌, ◌||◌, not, if◌then◌else◌, Bool, true, false, List, [], ◌∷◌, length, drop, filter, slice_index, Some, None}
use Rattle.std.specs.declared.option.Option.{Option}
use Rattle.std.specs.List.{position_or_len, prefix_len, slice_split, list_any}

-- a byte that may stand in a word
abbrev pub is_word_byte : ℕ → Bool
is_word_byte b = nat_le 33 b && nat_le b 126

-- a byte that may not stand outside a comment: all but the tab and 32 to 126
abbrev pub is_bad_byte : ℕ → Bool
is_bad_byte b = not (b == 9) && (nat_lt b 32 || nat_lt 126 b)

-- What stands before the comment, where `within` says whether a byte of a word stands directly before these bytes.
-- A comment begins with a `#` where a word would begin, and goes to the end of the line.
abbrev pub text_behind : Bool → List ℕ → List ℕ
text_behind within [] = []
text_behind within (b ∷ bs) = if not within && b == 35 then [] else b ∷ text_behind (is_word_byte b) bs

-- what stands in a line before its comment
abbrev pub before_comment : List ℕ → List ℕ
before_comment line = text_behind false line

-- whether a part is more than nothing
abbrev pub has_bytes : List ℕ → Bool
has_bytes [] = false
has_bytes (b ∷ bs) = true

-- The words of a line: the longest runs of bytes of words before its comment.
abbrev pub words_of : List ℕ → List (List ℕ)
words_of line = filter has_bytes (slice_split (λ b. not (is_word_byte b)) (before_comment line))

-- a line without a word
abbrev pub is_blank : List ℕ → Bool
is_blank line = length (words_of line) == 0

-- a line with a bad byte outside its comment
abbrev pub has_bad_byte : List ℕ → Bool
has_bad_byte line = list_any is_bad_byte (before_comment line)

-- where the next word would begin from a place on, and where the word ends that begins at a place
abbrev pub start_of : List ℕ → ℕ → ℕ
start_of line from = from + position_or_len is_word_byte (drop from line)

abbrev pub end_of : List ℕ → ℕ → ℕ
end_of line start = start + prefix_len is_word_byte (drop start line)

-- The next word from a place on where a word may begin: where it begins and ends. A comment is none.
abbrev pub word_from : List ℕ → ℕ → Option (ℕ × ℕ)
word_from line from =
    let start = start_of line from in
    if nat_lt start (length line) && not (slice_index line start == 35) then Some (start, end_of line start) else None
