-- The lines of a text.
use Rattle.std.specs.Prelude.{ℕ, ◌+◌, ◌-◌, ◌==◌, nat_lt, if◌then◌else◌, Bool, List, [], ◌∷◌, length, take, drop, map, slice_index, Some, None}
use Rattle.std.specs.declared.option.Option.{Option}
use Rattle.std.specs.List.{position_or_len, onto_first}
use Rattle.site_lines.specs.declared.line.Line.{Line}

-- a line feed
abbrev pub is_feed : ℕ → Bool
is_feed b = b == 10

-- The lines of a text, without their line feeds. Each ends with a line feed, which the last may lack; an empty text has none.
abbrev pub lines_of : List ℕ → List (List ℕ)
lines_of [] = []
lines_of (b ∷ bs) = if is_feed b then [] ∷ lines_of bs else onto_first b (lines_of bs)

-- a line without the one carriage return at its end, if it has one there
abbrev pub without_return : List ℕ → List ℕ
without_return line = if slice_index line (length line - 1) == 13 then take (length line - 1) line else line

-- The lines of an input: a carriage return directly before a line feed or at the end of the input is dropped.
abbrev pub input_lines : List ℕ → List (List ℕ)
input_lines bytes = map without_return (lines_of bytes)

-- whether these bytes of a line are too many
abbrev pub is_too_long : List ℕ → Bool
is_too_long line = nat_lt 65536 (length line)

-- where the line ends that begins at a place: before its line feed, or at the end of the text
abbrev pub stop_of : List ℕ → ℕ → ℕ
stop_of bytes from = from + position_or_len is_feed (drop from bytes)

-- the line that begins at a place, if that isn't the end
abbrev pub line_from : List ℕ → ℕ → Option Line
line_from bytes from =
    let stop = stop_of bytes from in
    let ended = nat_lt stop (length bytes) in
    if nat_lt from (length bytes) then Some (record { start = from; stop = stop; next = (if ended then stop + 1 else stop); ended = ended }) else None
