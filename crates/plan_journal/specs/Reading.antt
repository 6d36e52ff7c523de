-- What a journal's text says, and the first of its lines that is bad.
use Rattle.std.specs.Prelude.{ℕ, ◌+◌, ◌==◌, nat_lt, nat_le, ◌||◌, if◌then◌else◌, Bool, List, [], ◌∷◌, ◌++◌, length, codes, Option, Some, None, Result, Ok, Err}
use Rattle.std.specs.List.{list_any, slice_split}
use Rattle.std.specs.Str.{bytes_eq}
use Rattle.fleet_base.specs.declared.entries.Entry.{Entry}
use Rattle.fleet_names.specs.Names.{Named}
use Rattle.site_lines.specs.Lines.{is_feed, is_too_long}
use Rattle.site_lines.specs.Readings.{read_from}
use Rattle.site_lines.specs.declared.fault.At.{At}
use Rattle.site_lines.specs.declared.fault.Code.{Code}
use Rattle.site_lines.specs.declared.fault.Code.TheVariants.{J1, J2, J3, J9}
use Rattle.plan_journal.specs.Entries.{line_of}

-- the lines with one more byte in front of the first; none where no line feed comes
abbrev pub onto_line : ℕ → List (List ℕ) → List (List ℕ)
onto_line b [] = []
onto_line b (line ∷ lines) = (b ∷ line) ∷ lines

-- The lines that a line feed ends, without it. Bytes behind the last line feed are in none of them.
abbrev pub ended_lines : List ℕ → List (List ℕ)
ended_lines [] = []
ended_lines (b ∷ bs) = if is_feed b then [] ∷ ended_lines bs else onto_line b (ended_lines bs)

-- The words of a line: what stands between its spaces. Where two spaces stand together, or one stands at an end, there is an empty word.
abbrev pub parts_of : List ℕ → List (List ℕ)
parts_of line = slice_split (λ b. b == 32) line

-- a byte outside 0x20 to 0x7E
abbrev pub is_odd : ℕ → Bool
is_odd b = nat_lt b 32 || nat_lt 126 b

-- what was read of a journal: its entries, and how many bytes and lines they take with the header
pub record Front : Type 0 where
  pub entries : List Entry
  pub used : ℕ
  pub lines : ℕ

-- before the header, among the entries, and behind the end
pub data Progress : Type 0 where
  Begun : Progress
  Among : Front → Progress
  Ended : Front → Progress

-- a line that is neither too long nor has an odd byte is judged further
abbrev pub checked : {A : Type 0} → List ℕ → Result A Code → Result A Code
checked line rest = if is_too_long line then Err J1 else (if list_any is_odd line then Err J2 else rest)

-- one more line, with its line feed
abbrev pub with_line : Front → List ℕ → List Entry → Front
with_line front line entries = record { entries = front.entries ++ entries; used = front.used + (length line + 1); lines = front.lines + 1 }

-- nothing was read
abbrev pub no_front : Front
no_front = record { entries = []; used = 0; lines = 0 }

-- what the first line makes
abbrev pub header_line : List ℕ → Result Progress Code
header_line line = if bytes_eq line (codes "journal 1") then Ok (Among (with_line no_front line [])) else Err J3

-- what a further line makes, by what it says
abbrev pub behind_line : Front → List ℕ → Result (Option Entry) Code → Result Progress Code
behind_line front line (Ok (Some entry)) = Ok (Among (with_line front line (entry ∷ [])))
behind_line front line (Ok None) = Ok (Ended (with_line front line []))
behind_line front line (Err code) = Err code

-- whether there are as many entries as a journal may have
abbrev pub is_full : List Entry → Bool
is_full entries = nat_le 1000000 (length entries)

-- what a line makes of what was read before it; what stands behind the end isn't looked at
abbrev pub read_line : Named → Progress → List ℕ → Result Progress Code
read_line names Begun line = checked line (header_line line)
read_line names (Among front) line = behind_line front line (checked line (line_of names (is_full front.entries) (parts_of line)))
read_line names (Ended front) line = Ok (Ended front)

-- the text must not end before the journal's end
abbrev pub read_all : Progress → Result Front Code
read_all Begun = Err J9
read_all (Among front) = Err J9
read_all (Ended front) = Ok front

-- the journal that a text begins with, or the first bad line of the text
unfoldable pub journal_of : Named → List ℕ → Result Front At
journal_of names bytes = read_from (read_line names) read_all 1 Begun (ended_lines bytes)
