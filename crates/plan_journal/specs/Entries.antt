-- The lines of entries: what their words say, and their codes.
use Rattle.std.specs.Prelude.{ℕ, ◌==◌, nat_le, not, ◌&&◌, ◌||◌, if◌then◌else◌, Bool, true, List, [], ◌∷◌, length, map, take, drop, codes, slice_index, Option, Some, None, Result, Ok, Err}
use Rattle.std.specs.List.{list_any, list_all}
use Rattle.std.specs.Option.{unwrap_or, is_some}
use Rattle.std.specs.Str.{bytes_eq}
use Rattle.std.specs.Str.Parse.{digits_value}
use Rattle.fleet_base.specs.declared.entries.Act.TheVariants.{Merged, Deferred, Retried, Canceled, Withdrawn, Replanned, Reported}
use Rattle.fleet_base.specs.declared.entries.Entry.{Entry}
use Rattle.fleet_base.specs.declared.numbers.CellNo.{CellNo}
use Rattle.fleet_base.specs.declared.numbers.EventNo.{EventNo}
use Rattle.fleet_base.specs.declared.numbers.RobotNo.{RobotNo}
use Rattle.fleet_names.specs.Names.{Named, thing_of}
use Rattle.fleet_names.specs.declared.thing.Thing.{Thing}
use Rattle.fleet_names.specs.declared.thing.Thing.TheVariants as thing
use Rattle.site_lines.specs.Numbers.{is_number}
use Rattle.site_lines.specs.Readings.{Row, least_code}
use Rattle.site_lines.specs.declared.fault.Code.{Code}
use Rattle.site_lines.specs.declared.fault.Code.TheVariants.{J4, J5, J6, J7, J8}
use Rattle.plan_journal.specs.declared.lines.EventLine.{EventLine}
use Rattle.plan_journal.specs.declared.lines.RouteLine.{RouteLine}
use Rattle.plan_journal.specs.declared.words.Keyword.{Keyword}
use Rattle.plan_journal.specs.declared.words.Keyword.TheVariants as keyword

-- Words.

-- 1 to 15 digits without a leading zero, or `0` itself
abbrev pub is_plain_number : List ℕ → Bool
is_plain_number word = is_number 15 word && (length word == 1 || not (slice_index word 0 == 48))

-- such a number of at most so much
unfoldable pub is_number_to : ℕ → List ℕ → Bool
is_number_to limit word = is_plain_number word && nat_le (digits_value 10 word) limit

-- the number of a robot, or of a cell, if that was found
abbrev pub robot_number : Option Thing → Option ℕ
robot_number (Some (thing.Robot n)) = Some n
robot_number (Some (thing.Cell n)) = None
robot_number (Some (thing.Crossing n)) = None
robot_number (Some (thing.Area n)) = None
robot_number None = None

abbrev pub cell_number : Option Thing → Option ℕ
cell_number (Some (thing.Cell n)) = Some n
cell_number (Some (thing.Robot n)) = None
cell_number (Some (thing.Crossing n)) = None
cell_number (Some (thing.Area n)) = None
cell_number None = None

-- the word is the name of a robot, or of a cell
abbrev pub is_robot : Named → List ℕ → Bool
is_robot names word = is_some (robot_number (thing_of names word))

abbrev pub is_cell : Named → List ℕ → Bool
is_cell names word = is_some (cell_number (thing_of names word))

-- the robot, or the cell, of that name
abbrev pub robot_in : Named → List ℕ → RobotNo
robot_in names word = record { 0 = unwrap_or (robot_number (thing_of names word)) 0 }

abbrev pub cell_in : Named → List ℕ → CellNo
cell_in names word = record { 0 = unwrap_or (cell_number (thing_of names word)) 0 }

-- the cells, or the robots, of these names
abbrev pub cells_of : Named → List (List ℕ) → Result (List CellNo) Code
cells_of names words = if list_all (is_cell names) words then Ok (map (cell_in names) words) else Err J7

abbrev pub robots_of : Named → List (List ℕ) → Result (List RobotNo) Code
robots_of names words = if list_all (is_robot names) words then Ok (map (robot_in names) words) else Err J7

-- the event that a number names
abbrev pub event_in : List ℕ → EventNo
event_in word = record { 0 = digits_value 10 word }

-- a word without a byte
abbrev pub has_empty : List (List ℕ) → Bool
has_empty words = list_any (λ word. length word == 0) words

-- Codes.

-- the code, and without one the value
abbrev pub unless_code : {A : Type 0} → Option Code → A → Result A Code
unless_code None value = Ok value
unless_code (Some code) value = Err code

-- the value, or the code of the first row that fits
abbrev pub judged : {A : Type 0} → List Row → A → Result A Code
judged rows value = unless_code (least_code rows) value

-- a row of a table: whether the code fits
abbrev pub row : Bool → Code → Row
row fits code = record { fits = fits; code = code }

-- the rows of a line whose words are as many as they must be: an empty word, a bad number, a bad name, and a line too many
abbrev pub rows_of : Bool → Bool → Bool → Bool → List Row
rows_of empty numbers names full = row empty J5 ∷ row (not numbers) J6 ∷ row (not names) J7 ∷ row full J8 ∷ []

-- Lines, by the words behind the keyword. `full` says that a million entries stand above.

-- ROBOT FIRST CELL ..
abbrev pub route_line : Named → Bool → List (List ℕ) → Result RouteLine Code
route_line names full (robot ∷ first ∷ cell ∷ cells) =
    judged (rows_of (has_empty (robot ∷ first ∷ cell ∷ cells)) (is_plain_number first) (is_robot names robot && list_all (is_cell names) (cell ∷ cells)) full)
    (record { robot = robot_in names robot; first = event_in first; route = map (cell_in names) (cell ∷ cells) })
route_line names full (robot ∷ first ∷ []) = Err J5
route_line names full (robot ∷ []) = Err J5
route_line names full [] = Err J5

-- ROBOT, then K robots and at least one cell
abbrev pub deferred_by : Named → Bool → Bool → List ℕ → ℕ → List (List ℕ) → Result Entry Code
deferred_by names full empty robot k others =
    judged (rows_of (empty || nat_le (length others) k) true (is_robot names robot && list_all (is_robot names) (take k others) && list_all (is_cell names) (drop k others)) full)
    (record { robot = robot_in names robot; act = Deferred (map (cell_in names) (drop k others)) (map (robot_in names) (take k others)) })

-- ROBOT K, and behind them K robots and at least one cell. K is read first, so that it is judged before the words are counted.
abbrev pub deferred_line : Named → Bool → List (List ℕ) → Result Entry Code
deferred_line names full (robot ∷ count ∷ others) =
    if is_number_to 64 count then deferred_by names full (has_empty (robot ∷ count ∷ others)) robot (digits_value 10 count) others else Err J6
deferred_line names full (robot ∷ []) = Err J5
deferred_line names full [] = Err J5

-- ROBOT NUMBER
abbrev pub event_line : Named → Bool → List (List ℕ) → Result EventLine Code
event_line names full (robot ∷ event ∷ []) =
    judged (rows_of (has_empty (robot ∷ event ∷ [])) (is_plain_number event) (is_robot names robot) full) (record { robot = robot_in names robot; event = event_in event })
event_line names full (robot ∷ event ∷ word ∷ words) = Err J5
event_line names full (robot ∷ []) = Err J5
event_line names full [] = Err J5

-- ROBOT
abbrev pub canceled_line : Named → Bool → List (List ℕ) → Result Entry Code
canceled_line names full (robot ∷ []) = judged (rows_of (has_empty (robot ∷ [])) true (is_robot names robot) full) (record { robot = robot_in names robot; act = Canceled })
canceled_line names full (robot ∷ word ∷ words) = Err J5
canceled_line names full [] = Err J5

-- ROBOT REMOVED CELL
abbrev pub withdrawn_line : Named → Bool → List (List ℕ) → Result Entry Code
withdrawn_line names full (robot ∷ removed ∷ cell ∷ []) =
    judged (rows_of (has_empty (robot ∷ removed ∷ cell ∷ [])) (is_number_to 1000000 removed) (is_robot names robot && is_cell names cell) full)
    (record { robot = robot_in names robot; act = Withdrawn (digits_value 10 removed) (cell_in names cell) })
withdrawn_line names full (robot ∷ removed ∷ cell ∷ word ∷ words) = Err J5
withdrawn_line names full (robot ∷ removed ∷ []) = Err J5
withdrawn_line names full (robot ∷ []) = Err J5
withdrawn_line names full [] = Err J5

-- the last line has no word behind its keyword
abbrev pub end_line : List (List ℕ) → Result (Option Entry) Code
end_line [] = Ok None
end_line (word ∷ words) = Err J5

-- what is made of a line that isn't bad
abbrev pub on_ok : {A B : Type 0} → (A → B) → Result A Code → Result B Code
on_ok f (Ok a) = Ok (f a)
on_ok f (Err code) = Err code

-- the entries that lines with a route, or with a number, say
abbrev pub merged : RouteLine → Entry
merged line = record { robot = line.robot; act = Merged line.route line.first }

abbrev pub replanned : RouteLine → Entry
replanned line = record { robot = line.robot; act = Replanned line.route line.first }

abbrev pub retried : EventLine → Entry
retried line = record { robot = line.robot; act = Retried line.event }

abbrev pub reported : EventLine → Entry
reported line = record { robot = line.robot; act = Reported line.event }

-- the eight words that may begin a line behind the first
abbrev pub keyword_of : List ℕ → Option Keyword
keyword_of word =
    if bytes_eq word (codes "merged") then Some keyword.Merged
    else (if bytes_eq word (codes "deferred") then Some keyword.Deferred
    else (if bytes_eq word (codes "retried") then Some keyword.Retried
    else (if bytes_eq word (codes "canceled") then Some keyword.Canceled
    else (if bytes_eq word (codes "withdrawn") then Some keyword.Withdrawn
    else (if bytes_eq word (codes "replanned") then Some keyword.Replanned
    else (if bytes_eq word (codes "reported") then Some keyword.Reported
    else (if bytes_eq word (codes "end") then Some keyword.End
    else None)))))))

-- what a line says that begins with this word; None at the journal's end
abbrev pub behind_keyword : Named → Bool → Option Keyword → List (List ℕ) → Result (Option Entry) Code
behind_keyword names full (Some keyword.Merged) words = on_ok (λ line. Some (merged line)) (route_line names full words)
behind_keyword names full (Some keyword.Deferred) words = on_ok (λ entry. Some entry) (deferred_line names full words)
behind_keyword names full (Some keyword.Retried) words = on_ok (λ line. Some (retried line)) (event_line names full words)
behind_keyword names full (Some keyword.Canceled) words = on_ok (λ entry. Some entry) (canceled_line names full words)
behind_keyword names full (Some keyword.Withdrawn) words = on_ok (λ entry. Some entry) (withdrawn_line names full words)
behind_keyword names full (Some keyword.Replanned) words = on_ok (λ line. Some (replanned line)) (route_line names full words)
behind_keyword names full (Some keyword.Reported) words = on_ok (λ line. Some (reported line)) (event_line names full words)
behind_keyword names full (Some keyword.End) words = end_line words
behind_keyword names full None words = Err J4

-- what the words of a line behind the first say
abbrev pub line_of : Named → Bool → List (List ℕ) → Result (Option Entry) Code
line_of names full [] = Err J4
line_of names full (word ∷ words) = behind_keyword names full (keyword_of word) words
