-- A printed journal is read again.
use Rattle.std.proofs.Common.{◌≡◌, ℕ, ◌+◌, ◌<◌, ◌≤◌, ◌&&◌, ◌||◌, leb, Bool, true, false, List, [], ◌∷◌, ◌++◌, length, map, take, drop, Some, Result, Ok, refl, sym, ap, subst, ◌∙◌, append_assoc, arith}
use Rattle.std.specs.Prelude.{codes}
use Rattle.std.specs.Fmt.{decimal}
use Rattle.std.specs.List.{list_all, AllByRecursion}
use Rattle.std.specs.Str.Parse.{digits_value}
use Rattle.std.proofs.lemmas.Bool.{and_from, le-leb, le-ltb, lt-leb}
use Rattle.std.proofs.lemmas.List.{length-append, length-map, take_at, drop_at}
use Rattle.fleet_base.specs.declared.entries.Act.{Act}
use Rattle.fleet_base.specs.declared.entries.Act.TheVariants.{Merged, Deferred, Retried, Canceled, Withdrawn, Replanned, Reported}
use Rattle.fleet_base.specs.declared.entries.Entry.{Entry}
use Rattle.fleet_base.specs.declared.numbers.CellNo.{CellNo}
use Rattle.fleet_base.specs.declared.numbers.EventNo.{EventNo}
use Rattle.fleet_base.specs.declared.numbers.RobotNo.{RobotNo}
use Rattle.fleet_names.specs.declared.thing.Thing.{Thing}
use Rattle.fleet_names.specs.declared.thing.Thing.TheVariants as thing
use Rattle.fleet_names.specs.Things.{number_of, same_kind}
use Rattle.fleet_names.specs.Names.{Named, thing_of, count_of, AreDeclared}
use Rattle.fleet_names.proofs.Finding.{at_place, named_at}
use Rattle.fleet_texts.specs.Words.{spaced, lines_text, name_text, cell_text, robot_text}
use Rattle.fleet_texts.specs.Texts.{act_word, detail_words, entry_words, entry_text, journal_text}
use Rattle.site_lines.specs.Readings.{read_from}
use Rattle.site_lines.specs.declared.fault.At.{At}
use Rattle.plan_journal.specs.Entries.{is_robot, is_cell, robot_in, cell_in, event_in, has_empty, judged, rows_of, is_plain_number, is_number_to, route_line, event_line, deferred_by, deferred_line, canceled_line, withdrawn_line, line_of}
use Rattle.plan_journal.specs.Printable.{IsRobot, IsCell, IsShort, IsNamedRoute, IsPrintableAct, IsPrintable}
use Rattle.plan_journal.specs.Reading.{Front, Begun, Among, ended_lines, with_line, no_front, read_line, read_all, journal_of}
use Rattle.plan_journal.proofs.Lists.{length-line}
use Rattle.plan_journal.proofs.Naming.{text_is}
use Rattle.plan_journal.proofs.Spelling.{IsWord, AreWords, ArePlain, both_words, plain_spaced, none_odd, plain_line, parts_again, none_empty, number_word, number_value, number_plain, name_word}
use Rattle.plan_journal.proofs.Steps.{ended_stays, said}

-- a thing that has a name is found by its text
pub record IsTextOf (names : Named) (t : Thing) : Type 0 where
  pub word : IsWord (name_text names t)
  pub found : thing_of names (name_text names t) ≡ Some t

text_of : (names : Named) (t : Thing) → AreDeclared names → number_of t < count_of (same_kind t) names → IsTextOf names t
text_of names t declared known =
    let at = at_place names t 0 0 (declared.numbers t) (omega arith) (omega arith) in
    let named = named_at names at.at at.name t declared.differ at.entry in
    let text : at.name ≡ name_text names t = sym (text_is names t at.name at.named) in
    record { word = subst IsWord text (name_word at.name named.name_ok); found = subst (λ (name : List ℕ). thing_of names name ≡ Some t) text named.found }

-- what is read of the text of a known thing of one kind
pub record IsRead {A : Type 0} (text : A → List ℕ) (of : List ℕ → A) (is : List ℕ → Bool) (x : A) : Type 0 where
  pub word : IsWord (text x)
  pub test : is (text x) ≡ true
  pub back : of (text x) ≡ x

pub record AreRead {A : Type 0} (text : A → List ℕ) (of : List ℕ → A) (is : List ℕ → Bool) (xs : List A) : Type 0 where
  pub words : AreWords (map text xs)
  pub test : list_all is (map text xs) ≡ true
  pub back : map of (map text xs) ≡ xs

read_each : {A : Type 0} (text : A → List ℕ) (of : List ℕ → A) (is : List ℕ → Bool) (known : A → Type 0) → ((x : A) → known x → IsRead text of is x) → (xs : List A) → AllByRecursion known xs → AreRead text of is xs
read_each text of is known each [] all = record { words = tt; test = refl; back = refl }
read_each text of is known each (x ∷ xs) all =
    let first = each x all.0 in
    let rest = read_each text of is known each xs all.1 in
    record { words = (first.word, rest.words); test = rw (first.test, rest.test) refl; back = rw (first.back, rest.back) refl }

-- robots and cells
read_robot : (names : Named) (robot : RobotNo) → AreDeclared names → IsRobot names robot → IsRead (robot_text names) (robot_in names) (is_robot names) robot
read_robot names robot declared known = let text = text_of names (thing.Robot robot.0) declared known in record { word = text.word; test = rw text.found refl; back = rw text.found refl }

read_cell : (names : Named) (cell : CellNo) → AreDeclared names → IsCell names cell → IsRead (cell_text names) (cell_in names) (is_cell names) cell
read_cell names cell declared known = let text = text_of names (thing.Cell cell.0) declared known in record { word = text.word; test = rw text.found refl; back = rw text.found refl }

read_robots : (names : Named) (robots : List RobotNo) → AreDeclared names → AllByRecursion (IsRobot names) robots → AreRead (robot_text names) (robot_in names) (is_robot names) robots
read_robots names robots declared known = read_each (robot_text names) (robot_in names) (is_robot names) (IsRobot names) (λ robot h. read_robot names robot declared h) robots known

read_cells : (names : Named) (cells : List CellNo) → AreDeclared names → AllByRecursion (IsCell names) cells → AreRead (cell_text names) (cell_in names) (is_cell names) cells
read_cells names cells declared known = read_each (cell_text names) (cell_in names) (is_cell names) (IsCell names) (λ cell h. read_cell names cell declared h) cells known

-- a table that no row fits
passes : {A : Type 0} (empty numbers names : Bool) (value told : A) → empty ≡ false → numbers ≡ true → names ≡ true → value ≡ told → judged (rows_of empty numbers names false) value ≡ Ok told
passes empty numbers names value told a b c is = rw (a, b, c) (ap (λ v. Ok v) is)

-- what is read of an entry's words
pub record IsReadEntry (names : Named) (entry : Entry) : Type 0 where
  pub words : AreWords (entry_words names entry)
  pub says : line_of names false (entry_words names entry) ≡ Ok (Some entry)

route_again : (names : Named) (robot : RobotNo) (first : EventNo) (route : List CellNo) → AreDeclared names → IsRobot names robot → IsShort first → IsNamedRoute names route
    → AreWords (robot_text names robot ∷ decimal first.0 ∷ map (cell_text names) route) × (route_line names false (robot_text names robot ∷ decimal first.0 ∷ map (cell_text names) route) ≡ Ok (record { robot = robot; first = first; route = route }))
route_again names robot first [] declared known short named = let some = named.0 in absurd (omega arith)
route_again names robot first (cell ∷ cells) declared known short named =
    let by_robot = read_robot names robot declared known in
    let by_cells = read_cells names (cell ∷ cells) declared named.1 in
    let words : AreWords (robot_text names robot ∷ decimal first.0 ∷ map (cell_text names) (cell ∷ cells)) = (by_robot.word, (number_word first.0 short, by_cells.words)) in (
      words,
      passes (has_empty (robot_text names robot ∷ decimal first.0 ∷ map (cell_text names) (cell ∷ cells))) (is_plain_number (decimal first.0)) (is_robot names (robot_text names robot) && list_all (is_cell names) (map (cell_text names) (cell ∷ cells)))
          (record { robot = robot_in names (robot_text names robot); first = event_in (decimal first.0); route = map (cell_in names) (map (cell_text names) (cell ∷ cells)) })
          (record { robot = robot; first = first; route = cell ∷ cells })
          (none_empty (robot_text names robot ∷ decimal first.0 ∷ map (cell_text names) (cell ∷ cells)) words) (number_plain first.0 short) (and_from (is_robot names (robot_text names robot)) (list_all (is_cell names) (map (cell_text names) (cell ∷ cells))) by_robot.test by_cells.test)
          (rw (by_robot.back, number_value first.0 short, by_cells.back) refl),
    )

event_again : (names : Named) (robot : RobotNo) (event : EventNo) → AreDeclared names → IsRobot names robot → IsShort event
    → AreWords (robot_text names robot ∷ decimal event.0 ∷ []) × (event_line names false (robot_text names robot ∷ decimal event.0 ∷ []) ≡ Ok (record { robot = robot; event = event }))
event_again names robot event declared known short =
    let by_robot = read_robot names robot declared known in
    let words : AreWords (robot_text names robot ∷ decimal event.0 ∷ []) = (by_robot.word, (number_word event.0 short, tt)) in (
      words,
      passes (has_empty (robot_text names robot ∷ decimal event.0 ∷ [])) (is_plain_number (decimal event.0)) (is_robot names (robot_text names robot))
          (record { robot = robot_in names (robot_text names robot); event = event_in (decimal event.0) }) (record { robot = robot; event = event })
          (none_empty (robot_text names robot ∷ decimal event.0 ∷ []) words) (number_plain event.0 short) by_robot.test (rw (by_robot.back, number_value event.0 short) refl),
    )

number_to_plain : (limit n : ℕ) → n ≤ limit → n ≤ 999999999999999 → is_number_to limit (decimal n) ≡ true
unfolding is_number_to
number_to_plain limit n low small = and_from (is_plain_number (decimal n)) _ (number_plain n small) (rw (number_value n small) (le-leb n limit low))

withdrawn_again : (names : Named) (robot : RobotNo) (removed : ℕ) (end : CellNo) → AreDeclared names → IsRobot names robot → removed ≤ 1000000 → IsCell names end
    → AreWords (robot_text names robot ∷ decimal removed ∷ cell_text names end ∷ []) × (withdrawn_line names false (robot_text names robot ∷ decimal removed ∷ cell_text names end ∷ []) ≡ Ok (record { robot = robot; act = Withdrawn removed end }))
withdrawn_again names robot removed end declared known few at =
    let by_robot = read_robot names robot declared known in
    let by_cell = read_cell names end declared at in
    let small : removed ≤ 999999999999999 = omega arith in
    let words : AreWords (robot_text names robot ∷ decimal removed ∷ cell_text names end ∷ []) = (by_robot.word, (number_word removed small, (by_cell.word, tt))) in (
      words,
      passes (has_empty (robot_text names robot ∷ decimal removed ∷ cell_text names end ∷ [])) (is_number_to 1000000 (decimal removed)) (is_robot names (robot_text names robot) && is_cell names (cell_text names end))
          (record { robot = robot_in names (robot_text names robot); act = Withdrawn (digits_value 10 (decimal removed)) (cell_in names (cell_text names end)) }) (record { robot = robot; act = Withdrawn removed end })
          (none_empty (robot_text names robot ∷ decimal removed ∷ cell_text names end ∷ []) words) (number_to_plain 1000000 removed few small) (and_from (is_robot names (robot_text names robot)) (is_cell names (cell_text names end)) by_robot.test by_cell.test)
          (rw (by_robot.back, number_value removed small, by_cell.back) refl),
    )

canceled_again : (names : Named) (robot : RobotNo) → AreDeclared names → IsRobot names robot → AreWords (robot_text names robot ∷ []) × (canceled_line names false (robot_text names robot ∷ []) ≡ Ok (record { robot = robot; act = Canceled }))
canceled_again names robot declared known =
    let by_robot = read_robot names robot declared known in
    let words : AreWords (robot_text names robot ∷ []) = (by_robot.word, tt) in (
      words,
      passes (has_empty (robot_text names robot ∷ [])) true (is_robot names (robot_text names robot)) (record { robot = robot_in names (robot_text names robot); act = Canceled }) (record { robot = robot; act = Canceled })
          (none_empty (robot_text names robot ∷ []) words) refl by_robot.test (rw by_robot.back refl),
    )

-- the cycle and the cells of a deferral
deferred_by_again : (names : Named) (robot : RobotNo) (route : List CellNo) (cycle : List RobotNo) (others : List (List ℕ)) → AreDeclared names → IsRobot names robot → IsNamedRoute names route → AllByRecursion (IsRobot names) cycle
    → others ≡ map (robot_text names) cycle ++ map (cell_text names) route
    → deferred_by names false false (robot_text names robot) (length cycle) others ≡ Ok (record { robot = robot; act = Deferred route cycle })
deferred_by_again names robot route cycle others declared known named robots is =
    let by_robot = read_robot names robot declared known in
    let by_robots = read_robots names cycle declared robots in
    let by_cells = read_cells names route declared named.1 in
    let some = named.0 in
    let k : ℕ = length cycle in
    let count : length (map (robot_text names) cycle) ≡ k = length-map cycle (robot_text names) in
    let long : length others ≡ k + length route = ap length is ∙ length-append (map (robot_text names) cycle) (map (cell_text names) route) ∙ omega (arith, count, length-map route (cell_text names)) in
    let front : take k others ≡ map (robot_text names) cycle = ap (take k) is ∙ take_at (map (robot_text names) cycle) (map (cell_text names) route) k count in
    let back : drop k others ≡ map (cell_text names) route = ap (drop k) is ∙ drop_at (map (robot_text names) cycle) (map (cell_text names) route) k count in
    let more : leb (length others) k ≡ false = lt-leb (length others) k (omega arith) in
    rw (front, back)
    (passes (false || leb (length others) k) true (is_robot names (robot_text names robot) && list_all (is_robot names) (map (robot_text names) cycle) && list_all (is_cell names) (map (cell_text names) route))
    (record { robot = robot_in names (robot_text names robot); act = Deferred (map (cell_in names) (map (cell_text names) route)) (map (robot_in names) (map (robot_text names) cycle)) })
    (record { robot = robot; act = Deferred route cycle })
    more refl
    (and_from (is_robot names (robot_text names robot) && list_all (is_robot names) (map (robot_text names) cycle)) (list_all (is_cell names) (map (cell_text names) route)) (and_from (is_robot names (robot_text names robot)) (list_all (is_robot names) (map (robot_text names) cycle)) by_robot.test by_robots.test) by_cells.test)
    (rw (by_robot.back, by_cells.back, by_robots.back) refl))

deferred_again : (names : Named) (robot : RobotNo) (route : List CellNo) (cycle : List RobotNo) → AreDeclared names → IsRobot names robot → IsNamedRoute names route → length cycle ≤ 64 → AllByRecursion (IsRobot names) cycle
    → AreWords (robot_text names robot ∷ decimal (length cycle) ∷ map (robot_text names) cycle ++ map (cell_text names) route)
    × (deferred_line names false (robot_text names robot ∷ decimal (length cycle) ∷ map (robot_text names) cycle ++ map (cell_text names) route) ≡ Ok (record { robot = robot; act = Deferred route cycle }))
deferred_again names robot route cycle declared known named few robots =
    let by_robot = read_robot names robot declared known in
    let by_robots = read_robots names cycle declared robots in
    let by_cells = read_cells names route declared named.1 in
    let small : length cycle ≤ 999999999999999 = omega arith in
    let others : List (List ℕ) = map (robot_text names) cycle ++ map (cell_text names) route in
    let words : AreWords (robot_text names robot ∷ decimal (length cycle) ∷ others) = (by_robot.word, (number_word (length cycle) small, both_words (map (robot_text names) cycle) (map (cell_text names) route) by_robots.words by_cells.words)) in (
      words,
      rw (number_to_plain 64 (length cycle) few small, none_empty (robot_text names robot ∷ decimal (length cycle) ∷ others) words, number_value (length cycle) small)
          (deferred_by_again names robot route cycle others declared known named robots refl),
    )

-- a keyword
keyword_word : (act : Act) → IsWord (act_word act)
keyword_word (Merged route first) = name_word (codes "merged") refl
keyword_word (Deferred route cycle) = name_word (codes "deferred") refl
keyword_word (Retried first) = name_word (codes "retried") refl
keyword_word Canceled = name_word (codes "canceled") refl
keyword_word (Withdrawn removed end) = name_word (codes "withdrawn") refl
keyword_word (Replanned route first) = name_word (codes "replanned") refl
keyword_word (Reported event) = name_word (codes "reported") refl

-- entries
entry_again : (names : Named) (robot : RobotNo) (act : Act) → AreDeclared names → IsRobot names robot → IsPrintableAct names act → IsReadEntry names (record { robot = robot; act = act })
entry_again names robot (Merged route first) declared known is = let line = route_again names robot first route declared known is.1 is.0 in record { words = (keyword_word (Merged route first), line.0); says = rw line.1 refl }
entry_again names robot (Deferred route cycle) declared known is = let line = deferred_again names robot route cycle declared known is.0 is.1 is.2 in record { words = (keyword_word (Deferred route cycle), line.0); says = rw line.1 refl }
entry_again names robot (Retried first) declared known is = let line = event_again names robot first declared known is in record { words = (keyword_word (Retried first), line.0); says = rw line.1 refl }
entry_again names robot Canceled declared known is = let line = canceled_again names robot declared known in record { words = (keyword_word Canceled, line.0); says = rw line.1 refl }
entry_again names robot (Withdrawn removed end) declared known is = let line = withdrawn_again names robot removed end declared known is.0 is.1 in record { words = (keyword_word (Withdrawn removed end), line.0); says = rw line.1 refl }
entry_again names robot (Replanned route first) declared known is = let line = route_again names robot first route declared known is.1 is.0 in record { words = (keyword_word (Replanned route first), line.0); says = rw line.1 refl }
entry_again names robot (Reported event) declared known is = let line = event_again names robot event declared known is in record { words = (keyword_word (Reported event), line.0); says = rw line.1 refl }

-- lines
pub record IsReadLine (names : Named) (entries : List Entry) (entry : Entry) : Type 0 where
  pub plain : ArePlain (entry_text names entry)
  pub says : said names entries (entry_text names entry) ≡ Ok (Some entry)

line_again : (names : Named) (entries : List Entry) (entry : Entry) → AreDeclared names → length entries < 1000000 → IsPrintable names entry → IsReadLine names entries entry
unfolding entry_text
line_again names entries entry declared room is =
    let read = entry_again names entry.robot entry.act declared is.robot is.act in
    let plain = plain_spaced (entry_words names entry) read.words in
    let parts = parts_again (act_word entry.act) (robot_text names entry.robot ∷ detail_words names entry.act) read.words in
    record {
      plain = plain;
      says = rw (le-ltb 65536 (length (spaced (entry_words names entry))) is.short, none_odd (spaced (entry_words names entry)) plain, lt-leb 1000000 (length entries) room, parts) read.says;
    }

-- the lines of entries, and the end
abbrev front_with : Front → List Entry → List (List ℕ) → Front
front_with before es lines = record { entries = before.entries ++ es; used = before.used + length (lines_text lines); lines = before.lines + (length es + 1) }

one_line : (names : Named) (n : ℕ) (before front : Front) (entry : Entry) (lines : List (List ℕ)) → said names before.entries (entry_text names entry) ≡ Ok (Some entry) → read_from (read_line names) read_all (n + 1) (Among (with_line before (entry_text names entry) (entry ∷ []))) lines ≡ Ok front
    → read_from (read_line names) read_all n (Among before) (entry_text names entry ∷ lines) ≡ Ok front
one_line names n before front entry lines says later = rw says later

same_front : (entries told : List Entry) (used bytes lines count : ℕ) → entries ≡ told → used ≡ bytes → lines ≡ count
    → (let a : Result Front At = Ok (record { entries = entries; used = used; lines = lines }) in a ≡ Ok (record { entries = told; used = bytes; lines = count }))
same_front entries told used bytes lines count a b c = cc

lines_again : (names : Named) (n : ℕ) (before : Front) (es : List Entry) (more : List (List ℕ)) → AreDeclared names → length before.entries + length es ≤ 1000000 → AllByRecursion (IsPrintable names) es
    → read_from (read_line names) read_all n (Among before) (map (entry_text names) es ++ codes "end" ∷ more) ≡ Ok (front_with before es (map (entry_text names) es ++ codes "end" ∷ []))
lines_again names n before [] more declared room are = ended_stays names (n + 1) (with_line before (codes "end") []) more
lines_again names n before (e ∷ es) more declared room are =
    let line = line_again names before.entries e declared (omega arith) are.0 in
    let next : Front = with_line before (entry_text names e) (e ∷ []) in
    let fits : length next.entries + length es ≤ 1000000 = omega (arith, length-append before.entries (e ∷ [])) in
    let long = length-line (entry_text names e) (map (entry_text names) es ++ codes "end" ∷ []) in
    let end : List (List ℕ) = map (entry_text names) es ++ codes "end" ∷ [] in
    one_line names n before (front_with before (e ∷ es) (entry_text names e ∷ end)) e (map (entry_text names) es ++ codes "end" ∷ more) line.says
    (lines_again names (n + 1) next es more declared fits are.1
    ∙ same_front ((before.entries ++ e ∷ []) ++ es) (before.entries ++ e ∷ es) (before.used + (length (entry_text names e) + 1) + length (lines_text end)) (before.used + length (lines_text (entry_text names e ∷ end))) (before.lines + 1 + (length es + 1)) (before.lines + (length (e ∷ es) + 1))
    (append_assoc before.entries (e ∷ []) es) (omega arith) (omega arith))

-- plain lines are those that their line feeds end
ended_again : (lines : List (List ℕ)) (tail : List ℕ) → AllByRecursion ArePlain lines → ended_lines (lines_text lines ++ tail) ≡ lines ++ ended_lines tail
ended_again [] tail are = refl
ended_again (line ∷ lines) tail are =
    ap ended_lines (append_assoc (line ++ 10 ∷ []) (lines_text lines) tail ∙ append_assoc line (10 ∷ []) (lines_text lines ++ tail))
    ∙ plain_line line (lines_text lines ++ tail) are.0
    ∙ ap (λ ls. line ∷ ls) (ended_again lines tail are.1)

entries_plain : (names : Named) (es : List Entry) → AreDeclared names → AllByRecursion (IsPrintable names) es → AllByRecursion ArePlain (map (entry_text names) es ++ codes "end" ∷ [])
entries_plain names [] declared are = (plain_spaced (codes "end" ∷ []) (name_word (codes "end") refl, tt), tt)
entries_plain names (e ∷ es) declared are = ((line_again names [] e declared (omega arith) are.0).plain, entries_plain names es declared are.1)

pub journal_again : (names : Named) (es : List Entry) (tail : List ℕ) → AreDeclared names → length es ≤ 1000000 → AllByRecursion (IsPrintable names) es
    → journal_of names (journal_text names es ++ tail) ≡ Ok (record { entries = es; used = length (journal_text names es); lines = length es + 2 })
unfolding journal_of journal_text
journal_again names es tail declared room are =
    let end : List (List ℕ) = map (entry_text names) es ++ codes "end" ∷ [] in
    let header : ArePlain (codes "journal 1") = plain_spaced (codes "journal" ∷ codes "1" ∷ []) (name_word (codes "journal") refl, (name_word (codes "1") refl, tt)) in
    let lines : ended_lines (lines_text (codes "journal 1" ∷ end) ++ tail) ≡ codes "journal 1" ∷ (map (entry_text names) es ++ codes "end" ∷ ended_lines tail) =
    ended_again (codes "journal 1" ∷ end) tail (header, entries_plain names es declared are)
    ∙ ap (λ ls. codes "journal 1" ∷ ls) (append_assoc (map (entry_text names) es) (codes "end" ∷ []) (ended_lines tail))
    in
    let before : Front = with_line no_front (codes "journal 1") [] in
    let long = length-line (codes "journal 1") end in
    ap (read_from (read_line names) read_all 1 Begun) lines
    ∙ lines_again names 2 before es (ended_lines tail) declared (omega arith) are
    ∙ same_front es es (10 + length (lines_text end)) (length (lines_text (codes "journal 1" ∷ end))) (1 + (length es + 1)) (length es + 2) refl (omega arith) (omega arith)
