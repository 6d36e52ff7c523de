-- What may stand behind a journal, and where it differs.
use Rattle.std.specs.Prelude.{ℕ, ◌+◌, ◌==◌, ◌||◌, if◌then◌else◌, Bool, List, [], ◌∷◌, length}
use Rattle.std.specs.List.{filter}
use Rattle.std.specs.Str.{bytes_eq}
use Rattle.site_lines.specs.Lines.{is_feed}

-- nothing, or the text of the state
abbrev pub is_tail : List ℕ → List ℕ → Bool
is_tail state tail = length tail == 0 || bytes_eq tail state

-- what two texts both begin with
abbrev pub common : List ℕ → List ℕ → List ℕ
common [] other = []
common (a ∷ rest) [] = []
common (a ∷ rest) (b ∷ others) = if a == b then a ∷ common rest others else []

-- the first line, from 1, in which two texts differ that aren't the same
abbrev pub differing_line : List ℕ → List ℕ → ℕ
differing_line text other = length (filter is_feed (common text other)) + 1
