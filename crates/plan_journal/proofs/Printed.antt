-- An accepted line is the printed line of its entry.
use Rattle.std.proofs.Common.{◌≡◌, ℕ, ◌≤◌, ◌&&◌, ◌||◌, leb, Bool, true, false, cond, List, [], ◌∷◌, ◌++◌, length, map, take, drop, Option, Some, None, Result, Ok, Err, refl, sym, ap, subst, ◌∙◌, arith}
use Rattle.std.specs.Prelude.{codes}
use Rattle.std.specs.Fmt.{decimal}
use Rattle.std.specs.List.{list_all, join_with_byte}
use Rattle.std.specs.Str.{bytes_eq}
use Rattle.std.specs.Str.Parse.{digits_value}
use Rattle.std.proofs.lemmas.Bool.{and_parts, false≢true, leb-true, leb-false}
use Rattle.std.proofs.lemmas.List.{append-nil, length-map, length-take, length-drop, take-append-drop}
use Rattle.std.proofs.lemmas.List.Splits.{join_with_byte-slice_split}
use Rattle.std.proofs.lemmas.Slice.Eq.{bytes_eq-Decides}
use Rattle.fleet_base.specs.declared.entries.Act.TheVariants.{Deferred, Canceled, Withdrawn}
use Rattle.fleet_base.specs.declared.entries.Entry.{Entry}
use Rattle.fleet_names.specs.Names.{Named, AreDeclared}
use Rattle.fleet_texts.specs.Words.{spaced, cell_text, robot_text}
use Rattle.fleet_texts.specs.Texts.{entry_words}
use Rattle.site_lines.specs.Numbers.{is_number}
use Rattle.site_lines.specs.declared.fault.Code.{Code}
use Rattle.site_lines.specs.declared.fault.Code.TheVariants.{J6}
use Rattle.plan_journal.specs.declared.lines.EventLine.{EventLine}
use Rattle.plan_journal.specs.declared.lines.RouteLine.{RouteLine}
use Rattle.plan_journal.specs.declared.words.Keyword.{Keyword}
use Rattle.plan_journal.specs.declared.words.Keyword.TheVariants as keyword
use Rattle.plan_journal.specs.Entries.{judged, rows_of, has_empty, is_plain_number, is_number_to, is_robot, is_cell, robot_in, cell_in, event_in, route_line, event_line, deferred_by, deferred_line, canceled_line, withdrawn_line, end_line, keyword_of, behind_keyword, line_of, on_ok, merged, replanned, retried, reported}
use Rattle.plan_journal.specs.Printable.{IsShort, IsPrintableAct, IsNamedRoute, IsRobot}
use Rattle.plan_journal.specs.Reading.{parts_of}
use Rattle.plan_journal.proofs.Naming.{told_robot, told_cell, told_robots, told_cells}
use Rattle.plan_journal.proofs.Numbers.{plain_decimal, small_number}

-- the words of a line, with their spaces, are the line
spaced_joined : (words : List (List ℕ)) → spaced words ≡ join_with_byte 32 words
spaced_joined [] = refl
spaced_joined (a ∷ []) = append-nil a
spaced_joined (a ∷ b ∷ words) = ap (λ bytes. a ++ (32 ∷ bytes)) (spaced_joined (b ∷ words))

pub spaced_parts : (line : List ℕ) → spaced (parts_of line) ≡ line
spaced_parts line = spaced_joined (parts_of line) ∙ join_with_byte-slice_split 32 line

-- what a table that no row fits tells
pub record IsPassed {A : Type 0} (empty numbers names full : Bool) (value told : A) : Type 0 where
  pub not_empty : empty ≡ false
  pub good_numbers : numbers ≡ true
  pub good_names : names ≡ true
  pub has_room : full ≡ false
  pub gives : value ≡ told

passed : {A : Type 0} (empty numbers names full : Bool) (value told : A) → judged (rows_of empty numbers names full) value ≡ Ok told → IsPassed empty numbers names full value told
passed true numbers names full value told is = absurd (cc)
passed false false names full value told is = absurd (cc)
passed false true false full value told is = absurd (cc)
passed false true true true value told is = absurd (cc)
passed false true true false value told is = record { not_empty = refl; good_numbers = refl; good_names = refl; has_room = refl; gives = cc }

-- an entry whose words are these
pub record IsSpelled (names : Named) (entry : Entry) (words : List (List ℕ)) : Type 0 where
  pub spelled : entry_words names entry ≡ words
  pub robot : IsRobot names entry.robot
  pub act : IsPrintableAct names entry.act

-- a line with a route
pub record IsRouteLine (names : Named) (line : RouteLine) (words : List (List ℕ)) : Type 0 where
  pub spelled : robot_text names line.robot ∷ decimal line.first.0 ∷ map (cell_text names) line.route ≡ words
  pub robot : IsRobot names line.robot
  pub route : IsNamedRoute names line.route
  pub first : IsShort line.first

pub route_told : (names : Named) (full : Bool) (words : List (List ℕ)) (line : RouteLine) → AreDeclared names → route_line names full words ≡ Ok line → IsRouteLine names line words
route_told names full [] line declared is = absurd (cc)
route_told names full (robot ∷ []) line declared is = absurd (cc)
route_told names full (robot ∷ first ∷ []) line declared is = absurd (cc)
route_told names full (robot ∷ first ∷ cell ∷ cells) line declared is =
    let all = passed (has_empty (robot ∷ first ∷ cell ∷ cells)) (is_plain_number first) (is_robot names robot && list_all (is_cell names) (cell ∷ cells)) full
    (record { robot = robot_in names robot; first = event_in first; route = map (cell_in names) (cell ∷ cells) }) line is in
    let named = and_parts (is_robot names robot) (list_all (is_cell names) (cell ∷ cells)) all.good_names in
    let by_robot = told_robot names robot declared named.0 in
    let by_cells = told_cells names (cell ∷ cells) declared named.1 in
    let number = and_parts (is_number 15 first) _ all.good_numbers in
    subst (λ (l : RouteLine). IsRouteLine names l (robot ∷ first ∷ cell ∷ cells)) all.gives (record {
      spelled = rw (by_robot.same, plain_decimal first all.good_numbers, by_cells.same) refl;
      robot = by_robot.known_it;
      route = (omega arith, by_cells.known_all);
      first = small_number first number.0;
    })

-- a line with a number
pub record IsEventLine (names : Named) (line : EventLine) (words : List (List ℕ)) : Type 0 where
  pub spelled : robot_text names line.robot ∷ decimal line.event.0 ∷ [] ≡ words
  pub robot : IsRobot names line.robot
  pub event : IsShort line.event

pub event_told : (names : Named) (full : Bool) (words : List (List ℕ)) (line : EventLine) → AreDeclared names → event_line names full words ≡ Ok line → IsEventLine names line words
event_told names full [] line declared is = absurd (cc)
event_told names full (robot ∷ []) line declared is = absurd (cc)
event_told names full (robot ∷ event ∷ []) line declared is =
    let all = passed (has_empty (robot ∷ event ∷ [])) (is_plain_number event) (is_robot names robot) full (record { robot = robot_in names robot; event = event_in event }) line is in
    let by_robot = told_robot names robot declared all.good_names in
    let number = and_parts (is_number 15 event) _ all.good_numbers in
    subst (λ (l : EventLine). IsEventLine names l (robot ∷ event ∷ [])) all.gives (record {
      spelled = rw (by_robot.same, plain_decimal event all.good_numbers) refl;
      robot = by_robot.known_it;
      event = small_number event number.0;
    })
event_told names full (robot ∷ event ∷ word ∷ words) line declared is = absurd (cc)

canceled_told : (names : Named) (full : Bool) (words : List (List ℕ)) (entry : Entry) → AreDeclared names → canceled_line names full words ≡ Ok entry → IsSpelled names entry (codes "canceled" ∷ words)
canceled_told names full [] entry declared is = absurd (cc)
canceled_told names full (robot ∷ []) entry declared is =
    let all = passed (has_empty (robot ∷ [])) true (is_robot names robot) full (record { robot = robot_in names robot; act = Canceled }) entry is in
    let by_robot = told_robot names robot declared all.good_names in
    subst (λ (e : Entry). IsSpelled names e (codes "canceled" ∷ robot ∷ [])) all.gives (record { spelled = rw by_robot.same refl; robot = by_robot.known_it; act = tt })
canceled_told names full (robot ∷ word ∷ words) entry declared is = absurd (cc)

withdrawn_told : (names : Named) (full : Bool) (words : List (List ℕ)) (entry : Entry) → AreDeclared names → withdrawn_line names full words ≡ Ok entry → IsSpelled names entry (codes "withdrawn" ∷ words)
unfolding is_number_to
withdrawn_told names full [] entry declared is = absurd (cc)
withdrawn_told names full (robot ∷ []) entry declared is = absurd (cc)
withdrawn_told names full (robot ∷ removed ∷ []) entry declared is = absurd (cc)
withdrawn_told names full (robot ∷ removed ∷ cell ∷ []) entry declared is =
    let all = passed (has_empty (robot ∷ removed ∷ cell ∷ [])) (is_number_to 1000000 removed) (is_robot names robot && is_cell names cell) full
    (record { robot = robot_in names robot; act = Withdrawn (digits_value 10 removed) (cell_in names cell) }) entry is in
    let named = and_parts (is_robot names robot) (is_cell names cell) all.good_names in
    let by_robot = told_robot names robot declared named.0 in
    let by_cell = told_cell names cell declared named.1 in
    let number = and_parts (is_plain_number removed) (leb (digits_value 10 removed) 1000000) all.good_numbers in
    subst (λ (e : Entry). IsSpelled names e (codes "withdrawn" ∷ robot ∷ removed ∷ cell ∷ [])) all.gives (record {
      spelled = rw (by_robot.same, plain_decimal removed number.0, by_cell.same) refl;
      robot = by_robot.known_it;
      act = (leb-true (digits_value 10 removed) 1000000 number.1, by_cell.known_it);
    })
withdrawn_told names full (robot ∷ removed ∷ cell ∷ word ∷ words) entry declared is = absurd (cc)

no_or : (a b : Bool) → a || b ≡ false → b ≡ false
no_or true b is = absurd (false≢true (sym is))
no_or false b is = is

-- the cycle and the route of a deferral, where there are more than k words
deferred_by_told : (names : Named) (full empty : Bool) (robot count : List ℕ) (k : ℕ) (others : List (List ℕ)) (entry : Entry) → AreDeclared names → decimal k ≡ count → k ≤ 64 → deferred_by names full empty robot k others ≡ Ok entry
    → IsSpelled names entry (codes "deferred" ∷ robot ∷ count ∷ others)
deferred_by_told names full empty robot count k others entry declared spelled few is =
    let all = passed (empty || leb (length others) k) true (is_robot names robot && list_all (is_robot names) (take k others) && list_all (is_cell names) (drop k others)) full
    (record { robot = robot_in names robot; act = Deferred (map (cell_in names) (drop k others)) (map (robot_in names) (take k others)) }) entry is in
    let more = leb-false (length others) k (no_or empty (leb (length others) k) all.not_empty) in
    let named = and_parts (is_robot names robot && list_all (is_robot names) (take k others)) (list_all (is_cell names) (drop k others)) all.good_names in
    let robots = and_parts (is_robot names robot) (list_all (is_robot names) (take k others)) named.0 in
    let by_robot = told_robot names robot declared robots.0 in
    let by_robots = told_robots names (take k others) declared robots.1 in
    let by_cells = told_cells names (drop k others) declared named.1 in
    let long : length (map (robot_in names) (take k others)) ≡ k = length-map (take k others) (robot_in names) ∙ length-take k others ∙ omega arith in
    let some : 1 ≤ length (map (cell_in names) (drop k others)) = simp (length-map, length-drop) (omega arith) in
    subst (λ (e : Entry). IsSpelled names e (codes "deferred" ∷ robot ∷ count ∷ others)) all.gives (record {
      spelled = rw (by_robot.same, long, spelled, by_robots.same, by_cells.same) (ap (λ words. codes "deferred" ∷ robot ∷ count ∷ words) (take-append-drop k others));
      robot = by_robot.known_it;
      act = ((some, by_cells.known_all), omega arith, by_robots.known_all);
    })

deferred_if : (names : Named) (full empty b : Bool) (robot count : List ℕ) (others : List (List ℕ)) (entry : Entry) → AreDeclared names → is_number_to 64 count ≡ b → cond b (deferred_by names full empty robot (digits_value 10 count) others) (Err J6) ≡ Ok entry
    → IsSpelled names entry (codes "deferred" ∷ robot ∷ count ∷ others)
unfolding is_number_to
deferred_if names full empty true robot count others entry declared number is =
    let parts = and_parts (is_plain_number count) (leb (digits_value 10 count) 64) number in
    deferred_by_told names full empty robot count (digits_value 10 count) others entry declared (plain_decimal count parts.0) (leb-true (digits_value 10 count) 64 parts.1) is
deferred_if names full empty false robot count others entry declared number is = absurd (cc)

deferred_told : (names : Named) (full : Bool) (words : List (List ℕ)) (entry : Entry) → AreDeclared names → deferred_line names full words ≡ Ok entry → IsSpelled names entry (codes "deferred" ∷ words)
deferred_told names full [] entry declared is = absurd (cc)
deferred_told names full (robot ∷ []) entry declared is = absurd (cc)
deferred_told names full (robot ∷ count ∷ others) entry declared is = deferred_if names full (has_empty (robot ∷ count ∷ others)) (is_number_to 64 count) robot count others entry declared refl is

-- the word of a keyword
abbrev pub keyword_text : Keyword → List ℕ
keyword_text keyword.Merged = codes "merged"
keyword_text keyword.Deferred = codes "deferred"
keyword_text keyword.Retried = codes "retried"
keyword_text keyword.Canceled = codes "canceled"
keyword_text keyword.Withdrawn = codes "withdrawn"
keyword_text keyword.Replanned = codes "replanned"
keyword_text keyword.Reported = codes "reported"
keyword_text keyword.End = codes "end"

picked : (word text : List ℕ) (k told : Keyword) (rest : Option Keyword) (b : Bool) → bytes_eq word text ≡ b → text ≡ keyword_text k → (rest ≡ Some told → word ≡ keyword_text told) → cond b (Some k) rest ≡ Some told → word ≡ keyword_text told
picked word text k told rest true same spelled later is = let one : k ≡ told = cc in (bytes_eq-Decides word text).0 same ∙ spelled ∙ ap keyword_text one
picked word text k told rest false same spelled later is = later is

pick : (word text : List ℕ) (k told : Keyword) (rest : Option Keyword) → text ≡ keyword_text k → (rest ≡ Some told → word ≡ keyword_text told) → cond (bytes_eq word text) (Some k) rest ≡ Some told → word ≡ keyword_text told
pick word text k told rest spelled later is = picked word text k told rest (bytes_eq word text) refl spelled later is

pub keyword_told : (word : List ℕ) (told : Keyword) → keyword_of word ≡ Some told → word ≡ keyword_text told
keyword_told word told is =
    pick word (codes "merged") keyword.Merged told _ refl
    (pick word (codes "deferred") keyword.Deferred told _ refl
    (pick word (codes "retried") keyword.Retried told _ refl
    (pick word (codes "canceled") keyword.Canceled told _ refl
    (pick word (codes "withdrawn") keyword.Withdrawn told _ refl
    (pick word (codes "replanned") keyword.Replanned told _ refl
    (pick word (codes "reported") keyword.Reported told _ refl
    (pick word (codes "end") keyword.End told None refl (λ none. absurd (cc)))))))))
    is

on_ok_told : {A B : Type 0} (f : A → B) (r : Result A Code) (b : B) → on_ok f r ≡ Ok b → (a : A) × (r ≡ Ok a) × (f a ≡ b)
on_ok_told f (Ok a) b is = (a, refl, cc)
on_ok_told f (Err code) b is = absurd (cc)

-- what an accepted line tells: an entry that is spelled so, or the end
abbrev pub IsToldLine : Named → Option Entry → List (List ℕ) → Type 0
IsToldLine names (Some entry) words = IsSpelled names entry words
IsToldLine names None words = words ≡ codes "end" ∷ []

end_told : (names : Named) (words : List (List ℕ)) (told : Option Entry) → end_line words ≡ Ok told → IsToldLine names told (codes "end" ∷ words)
end_told names [] told is = subst (λ (o : Option Entry). IsToldLine names o (codes "end" ∷ [])) (let none : None ≡ told = cc in none) refl
end_told names (word ∷ words) told is = absurd (cc)

some_entry : (names : Named) (words : List (List ℕ)) (entry : Entry) (told : Option Entry) → Some entry ≡ told → IsSpelled names entry words → IsToldLine names told words
some_entry names words entry told is spelled = subst (λ (o : Option Entry). IsToldLine names o words) is spelled

behind_told : (names : Named) (full : Bool) (k : Option Keyword) (word : List ℕ) (words : List (List ℕ)) (told : Option Entry) → AreDeclared names → keyword_of word ≡ k → behind_keyword names full k words ≡ Ok told → IsToldLine names told (word ∷ words)
behind_told names full None word words told declared is says = absurd (cc)
behind_told names full (Some keyword.Merged) word words told declared is says =
    let line = on_ok_told (λ l. Some (merged l)) (route_line names full words) told says in
    let by = route_told names full words line.0 declared line.1 in
    rw (keyword_told word keyword.Merged is) (some_entry names (codes "merged" ∷ words) (merged line.0) told line.2 (record { spelled = ap (λ ws. codes "merged" ∷ ws) by.spelled; robot = by.robot; act = (by.route, by.first) }))
behind_told names full (Some keyword.Deferred) word words told declared is says =
    let line = on_ok_told (λ e. Some e) (deferred_line names full words) told says in
    rw (keyword_told word keyword.Deferred is) (some_entry names (codes "deferred" ∷ words) line.0 told line.2 (deferred_told names full words line.0 declared line.1))
behind_told names full (Some keyword.Retried) word words told declared is says =
    let line = on_ok_told (λ l. Some (retried l)) (event_line names full words) told says in
    let by = event_told names full words line.0 declared line.1 in
    rw (keyword_told word keyword.Retried is) (some_entry names (codes "retried" ∷ words) (retried line.0) told line.2 (record { spelled = ap (λ ws. codes "retried" ∷ ws) by.spelled; robot = by.robot; act = by.event }))
behind_told names full (Some keyword.Canceled) word words told declared is says =
    let line = on_ok_told (λ e. Some e) (canceled_line names full words) told says in
    rw (keyword_told word keyword.Canceled is) (some_entry names (codes "canceled" ∷ words) line.0 told line.2 (canceled_told names full words line.0 declared line.1))
behind_told names full (Some keyword.Withdrawn) word words told declared is says =
    let line = on_ok_told (λ e. Some e) (withdrawn_line names full words) told says in
    rw (keyword_told word keyword.Withdrawn is) (some_entry names (codes "withdrawn" ∷ words) line.0 told line.2 (withdrawn_told names full words line.0 declared line.1))
behind_told names full (Some keyword.Replanned) word words told declared is says =
    let line = on_ok_told (λ l. Some (replanned l)) (route_line names full words) told says in
    let by = route_told names full words line.0 declared line.1 in
    rw (keyword_told word keyword.Replanned is) (some_entry names (codes "replanned" ∷ words) (replanned line.0) told line.2 (record { spelled = ap (λ ws. codes "replanned" ∷ ws) by.spelled; robot = by.robot; act = (by.route, by.first) }))
behind_told names full (Some keyword.Reported) word words told declared is says =
    let line = on_ok_told (λ l. Some (reported l)) (event_line names full words) told says in
    let by = event_told names full words line.0 declared line.1 in
    rw (keyword_told word keyword.Reported is) (some_entry names (codes "reported" ∷ words) (reported line.0) told line.2 (record { spelled = ap (λ ws. codes "reported" ∷ ws) by.spelled; robot = by.robot; act = by.event }))
behind_told names full (Some keyword.End) word words told declared is says = rw (keyword_told word keyword.End is) (end_told names words told says)

pub line_told : (names : Named) (full : Bool) (words : List (List ℕ)) (told : Option Entry) → AreDeclared names → line_of names full words ≡ Ok told → IsToldLine names told words
line_told names full [] told declared says = absurd (cc)
line_told names full (word ∷ words) told declared says = behind_told names full (keyword_of word) word words told declared refl says
