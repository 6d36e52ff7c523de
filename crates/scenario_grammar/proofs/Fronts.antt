-- The scenarios that texts begin with are those of the grammar.
use Rattle.std.proofs.Common.{◌≡◌, ℕ, suc, ◌+◌, Bool, true, false, cond, List, [], ◌∷◌, ◌++◌, length, Ok, Err, Result, refl, sym, ap, subst, ◌∙◌, arith, append_assoc, length-append}
use Rattle.std.specs.Prelude.{map}
use Rattle.std.proofs.lemmas.Bool.{false≢true}
use Rattle.std.proofs.lemmas.List.{length-map, map-append}
use Rattle.site_lines.specs.declared.fault.At.{At}
use Rattle.site_lines.specs.declared.fault.Code.{Code}
use Rattle.site_lines.specs.Lines.{lines_of, without_return}
use Rattle.site_lines.specs.Words.{words_of}
use Rattle.site_lines.specs.Readings.{onward, read_from}
use Rattle.scenario.specs.Scenarios.{ScenarioValue}
use Rattle.scenario_reader.specs.Keywords.{keyword_of}
use Rattle.scenario_reader.specs.MissionLines.{again_line, done_line, repeat_line, visit_line}
use Rattle.scenario_reader.specs.Reading.{FrontValue, bytes_of_lines, closed, front_done, front_of, front_step, is_ended, leg_line, step, worded_line}
use Rattle.scenario_reader.specs.States.{Declared, Mission, State, AtHeader, AmongSite, AmongRobots, InMission, Ended, scenario_in}
use Rattle.scenario_reader.specs.Tables.{mapped}
use Rattle.scenario_reader.proofs.Fines.{mapped_ok}
use Rattle.scenario_grammar.specs.Grammar.{IsFront, Line, SaysScenario, Word}
use Rattle.scenario_grammar.proofs.Cuts.{cut_at, joined_bytes, joined_lines, same_head}
use Rattle.scenario_grammar.proofs.Keywords.{Kind, kind_of}
use Rattle.scenario_grammar.proofs.Parse.{end_line_words, parsed, run}
use Rattle.scenario_grammar.proofs.Steps.{FleetStep, HeaderStep, SiteStep, fleet_step, header_step, site_step}
use Rattle.scenario_grammar.proofs.Texts.{first_state, run_on, says_of, says_run, step_read, said_by, step_taken, unless_blank, words_in, worded_all, AreFine}

-- only `end` leads to the end
ends_header : (line : Line) (t : State) → HeaderStep line t → is_ended t ≡ true → line ≡ end_line_words
ends_header line t (HeaderStep.HeadedStep is) ended = absurd (false≢true ended)

ends_fleet : (d : Declared) (line : Line) (t : State) → FleetStep d line t → is_ended t ≡ true → line ≡ end_line_words
ends_fleet d line t (FleetStep.RobotStep is) ended = absurd (false≢true ended)
ends_fleet d line t (FleetStep.MissionStep denotes first) ended = absurd (false≢true ended)
ends_fleet d line t (FleetStep.EndStep some) ended = refl

ends_site : (flows : Bool) (d : Declared) (line : Line) (t : State) → SiteStep flows d line t → is_ended t ≡ true → line ≡ end_line_words
ends_site flows d line t (SiteStep.SiteLineStep is) ended = absurd (false≢true ended)
ends_site flows d line t (SiteStep.FleetLineStep is) ended = ends_fleet (closed d) line t is ended

goes_on : (d : Declared) (t : State) (r : Result Mission Code) → mapped (InMission d) r ≡ Ok t → is_ended t ≡ true → ⊥
goes_on d t r is ended = false≢true (ap is_ended (mapped_ok (InMission d) r t is).2 ∙ ended)

-- no line of a mission ends the scenario
ends_leg : (d : Declared) (m : Mission) (keyword : Word) (words : List Word) (t : State) → Kind keyword → leg_line d m (keyword_of keyword) words ≡ Ok t → is_ended t ≡ true → ⊥
ends_leg d m keyword words t Kind.CellWord is ended = absurd (cc)
ends_leg d m keyword words t Kind.CrossingWord is ended = absurd (cc)
ends_leg d m keyword words t Kind.AreaWord is ended = absurd (cc)
ends_leg d m keyword words t Kind.FlowWord is ended = absurd (cc)
ends_leg d m keyword words t Kind.LinkWord is ended = absurd (cc)
ends_leg d m keyword words t Kind.LaneWord is ended = absurd (cc)
ends_leg d m keyword words t Kind.RobotWord is ended = absurd (cc)
ends_leg d m keyword words t Kind.MissionWord is ended = absurd (cc)
ends_leg d m keyword words t Kind.VisitWord is ended = goes_on d t (visit_line d.names m words) is ended
ends_leg d m keyword words t Kind.RepeatWord is ended = goes_on d t (repeat_line m words) is ended
ends_leg d m keyword words t Kind.AgainWord is ended = goes_on d t (again_line m words) is ended
ends_leg d m keyword words t Kind.DoneWord is ended = false≢true (ap is_ended (mapped_ok AmongRobots (done_line d m words) t is).2 ∙ ended)
ends_leg d m keyword words t Kind.EndWord is ended = absurd (cc)
ends_leg d m keyword words t (Kind.OtherWord none) is ended = let none_given = rw none at is in absurd (cc)

ends_words : (s t : State) (line : Line) → is_ended s ≡ false → worded_line s line ≡ Ok t → is_ended t ≡ true → line ≡ end_line_words
ends_words s t [] going is ended = let same : s ≡ t = cc in absurd (false≢true (sym going ∙ ap is_ended same ∙ ended))
ends_words AtHeader t (keyword ∷ words) going is ended = ends_header (keyword ∷ words) t (header_step keyword words t is) ended
ends_words (AmongSite flows d) t (keyword ∷ words) going is ended = ends_site flows d (keyword ∷ words) t (site_step flows d keyword words t is) ended
ends_words (AmongRobots d) t (keyword ∷ words) going is ended = ends_fleet d (keyword ∷ words) t (fleet_step d keyword words t is) ended
ends_words (InMission d m) t (keyword ∷ words) going is ended = absurd (ends_leg d m keyword words t (kind_of keyword) is ended)
ends_words (Ended d) t (keyword ∷ words) going is ended = absurd (false≢true (sym going))

-- behind the end nothing is looked at
rest_unread : (d : Declared) (k n : ℕ) (raws : List (List ℕ)) → read_from front_step front_done n (Ended d, k) raws ≡ Ok (scenario_in d, k)
rest_unread d k n [] = refl
rest_unread d k n (raw ∷ raws) = rest_unread d k (n + 1) raws

-- lines that are read from a state up to the end
record ReadsFront (s : State) (raws : List (List ℕ)) (value : ScenarioValue) (k j : ℕ) : Type 0 where
  before : List (List ℕ)
  last : List ℕ
  behind : List (List ℕ)
  split : raws ≡ before ++ last ∷ behind
  fine : AreFine (before ++ last ∷ [])
  whole : Declared
  reaches : run s (said_by (before ++ last ∷ [])) ≡ Ok (Ended whole)
  closes : words_in last ≡ end_line_words
  says : scenario_in whole ≡ value
  count : j ≡ k + (length before + 1)

abbrev pub counted : ℕ → State → State × ℕ
counted k t = (t, k + 1)

-- a step before the end
step_going : (s : State) (k : ℕ) (raw : List ℕ) → is_ended s ≡ false → front_step (s, k) raw ≡ mapped (counted k) (step s raw)
step_going s k raw going = ap (λ (b : Bool). cond b (Ok (s, k)) (mapped (counted k) (step s raw))) going

unfinished : (s : State) (k n : ℕ) (value : ScenarioValue) (j : ℕ) → is_ended s ≡ false → read_from front_step front_done n (s, k) [] ≡ Ok (value, j) → ⊥
unfinished AtHeader k n value j going is = absurd (cc)
unfinished (AmongSite flows d) k n value j going is = absurd (cc)
unfinished (AmongRobots d) k n value j going is = absurd (cc)
unfinished (InMission d m) k n value j going is = absurd (cc)
unfinished (Ended d) k n value j going is = absurd (false≢true (sym going))

same_pair : (a b : ScenarioValue) (k j : ℕ) → (let r : Result (ScenarioValue × ℕ) At = Ok (a, k) in r ≡ Ok (b, j)) → (a ≡ b) × (k ≡ j)
same_pair a b k j is = let same : (a, k) ≡ (b, j) = cc in (ap (λ (p : ScenarioValue × ℕ). p.0) same, ap (λ (p : ScenarioValue × ℕ). p.1) same)

-- the line that ends the scenario
last_line : (s : State) (d : Declared) (raw : List ℕ) (raws : List (List ℕ)) (value : ScenarioValue) (k j n : ℕ) → is_ended s ≡ false → step s raw ≡ Ok (Ended d) → read_from front_step front_done n (Ended d, k + 1) raws ≡ Ok (value, j) → ReadsFront s (raw ∷ raws) value k j
last_line s d raw raws value k j n going is rest =
    let here = step_read s (Ended d) raw is in
    let found = same_pair (scenario_in d) value (k + 1) j (sym (rest_unread d (k + 1) n raws) ∙ rest) in
    record {
      before = [];
      last = raw;
      behind = raws;
      split = refl;
      fine = (here.0, tt);
      whole = d;
      reaches = run_on s (Ended d) (words_in raw) [] here.1;
      closes = ends_words s (Ended d) (words_in raw) going here.1 refl;
      says = found.0;
      count = sym found.1 ∙ omega arith;
    }

more_lines : (s t : State) (raw : List ℕ) (raws : List (List ℕ)) (value : ScenarioValue) (k j : ℕ) → step s raw ≡ Ok t → ReadsFront t raws value (k + 1) j → ReadsFront s (raw ∷ raws) value k j
more_lines s t raw raws value k j is later =
    let here = step_read s t raw is in
    record {
      before = raw ∷ later.before;
      last = later.last;
      behind = later.behind;
      split = ap (λ (ls : List (List ℕ)). raw ∷ ls) later.split;
      fine = (here.0, later.fine);
      whole = later.whole;
      reaches = run_on s t (words_in raw) (said_by (later.before ++ later.last ∷ [])) here.1 ∙ later.reaches;
      closes = later.closes;
      says = later.says;
      count = later.count ∙ omega arith;
    }

next_front : (s t : State) (raw : List ℕ) (raws : List (List ℕ)) (value : ScenarioValue) (k j n : ℕ) → is_ended s ≡ false → step s raw ≡ Ok t → (is_ended t ≡ false → ReadsFront t raws value (k + 1) j)
    → read_from front_step front_done n (t, k + 1) raws ≡ Ok (value, j) → ReadsFront s (raw ∷ raws) value k j
next_front s AtHeader raw raws value k j n going is next rest = more_lines s AtHeader raw raws value k j is (next refl)
next_front s (AmongSite flows d) raw raws value k j n going is next rest = more_lines s (AmongSite flows d) raw raws value k j is (next refl)
next_front s (AmongRobots d) raw raws value k j n going is next rest = more_lines s (AmongRobots d) raw raws value k j is (next refl)
next_front s (InMission d m) raw raws value k j n going is next rest = more_lines s (InMission d m) raw raws value k j is (next refl)
next_front s (Ended d) raw raws value k j n going is next rest = last_line s d raw raws value k j n going is rest

front_read : (raws : List (List ℕ)) (s : State) (k n : ℕ) (value : ScenarioValue) (j : ℕ) → is_ended s ≡ false → read_from front_step front_done n (s, k) raws ≡ Ok (value, j) → ReadsFront s raws value k j
front_read [] s k n value j going is = absurd (unfinished s k n value j going is)
front_read (raw ∷ raws) s k n value j going is = go (step s raw) refl (λ t still rest. front_read raws t (k + 1) (n + 1) value j still rest)
    (subst (λ (r : Result (State × ℕ) Code). onward {T = ScenarioValue × ℕ} r n (λ t. read_from front_step front_done (n + 1) t raws) ≡ Ok (value, j)) (step_going s k raw going) is)
  where
    go : (r : Result State Code) → step s raw ≡ r → ((t : State) → is_ended t ≡ false → read_from front_step front_done (n + 1) (t, k + 1) raws ≡ Ok (value, j) → ReadsFront t raws value (k + 1) j)
        → onward {T = ScenarioValue × ℕ} (mapped (counted k) r) n (λ t. read_from front_step front_done (n + 1) t raws) ≡ Ok (value, j) → ReadsFront s (raw ∷ raws) value k j
    go (Ok t) e next h = next_front s t raw raws value k j (n + 1) going e (λ still. next t still h) h
    go (Err code) e next h = absurd (cc)

-- behind the end stands no line with words
ended_stuck : (d e : Declared) (before : List (List ℕ)) (last : List ℕ) → words_in last ≡ end_line_words → run (Ended d) (said_by (before ++ last ∷ [])) ≡ Ok (Ended e) → ⊥
ended_stuck d e [] last closes is =
    let there : run (Ended d) (unless_blank end_line_words []) ≡ Ok (Ended e) = subst (λ (l : Line). run (Ended d) (unless_blank l []) ≡ Ok (Ended e)) closes is in
    absurd (cc)
ended_stuck d e (raw ∷ before) last closes is = go (words_in raw) (λ h. ended_stuck d e before last closes h) is
  where
    go : (line : Line) → (run (Ended d) (said_by (before ++ last ∷ [])) ≡ Ok (Ended e) → ⊥) → run (Ended d) (unless_blank line (said_by (before ++ last ∷ []))) ≡ Ok (Ended e) → ⊥
    go [] later h = later h
    go (word ∷ words) later h = absurd (cc)

still_going : (s : State) (e : Declared) (before : List (List ℕ)) (last : List ℕ) → words_in last ≡ end_line_words → run s (said_by (before ++ last ∷ [])) ≡ Ok (Ended e) → is_ended s ≡ false
still_going AtHeader e before last closes is = refl
still_going (AmongSite flows d) e before last closes is = refl
still_going (AmongRobots d) e before last closes is = refl
still_going (InMission d m) e before last closes is = refl
still_going (Ended d) e before last closes is = absurd (ended_stuck d e before last closes is)

one_step : (s t : State) (k n : ℕ) (raw : List ℕ) (raws : List (List ℕ)) → is_ended s ≡ false → step s raw ≡ Ok t → read_from front_step front_done n (s, k) (raw ∷ raws) ≡ read_from front_step front_done (n + 1) (t, k + 1) raws
one_step s t k n raw raws going is =
    ap (λ (r : Result (State × ℕ) Code). onward {T = ScenarioValue × ℕ} r n (λ u. read_from front_step front_done (n + 1) u raws)) (step_going s k raw going ∙ ap (mapped (counted k)) is)

read_front : (before : List (List ℕ)) (last : List ℕ) (behind : List (List ℕ)) (s : State) (e : Declared) (k n : ℕ) → AreFine (before ++ last ∷ []) → words_in last ≡ end_line_words → run s (said_by (before ++ last ∷ [])) ≡ Ok (Ended e)
    → read_from front_step front_done n (s, k) (before ++ last ∷ behind) ≡ Ok (scenario_in e, k + (length before + 1))
read_front [] last behind s e k n fine closes is =
    let first = first_state s (Ended e) (words_in last) [] is in
    let there : first.0 ≡ Ended e = cc in
    one_step s (Ended e) k n last behind (still_going s e [] last closes is) (step_taken s last fine.0 ∙ first.1 ∙ ap (λ (t : State). Ok t) there)
    ∙ rest_unread e (k + 1) (n + 1) behind
read_front (raw ∷ before) last behind s e k n fine closes is =
    let first = first_state s (Ended e) (words_in raw) (said_by (before ++ last ∷ [])) is in
    let more : (k + 1) + (length before + 1) ≡ k + (length (raw ∷ before) + 1) = omega arith in
    one_step s first.0 k n raw (before ++ last ∷ behind) (still_going s e (raw ∷ before) last closes is) (step_taken s raw fine.0 ∙ first.1)
    ∙ read_front before last behind first.0 e (k + 1) (n + 1) fine.1 closes first.2
    ∙ ap (λ (j : ℕ). Ok (scenario_in e, j)) more

abbrev pub found_front : List ℕ → ScenarioValue × ℕ → FrontValue
found_front text found = record { scenario = found.0; used = bytes_of_lines found.1 text; lines = found.1 }

-- the lines that a text begins with up to `end`, and how many bytes they take
record OnLines (text : List ℕ) (f : FrontValue) : Type 0 where
  before : List (List ℕ)
  last : List ℕ
  behind : List (List ℕ)
  split : lines_of text ≡ before ++ last ∷ behind
  fine : AreFine (before ++ last ∷ [])
  says : SaysScenario (said_by (before ++ last ∷ [])) f.scenario
  closes : words_in last ≡ end_line_words
  count : f.lines ≡ suc (length before)
  used : f.used ≡ bytes_of_lines f.lines text

lines_are : (text : List ℕ) (value : ScenarioValue) (j : ℕ) → ReadsFront AtHeader (lines_of text) value 0 j → OnLines text (found_front text (value, j))
lines_are text value j read =
    let said : List Line = said_by (read.before ++ read.last ∷ []) in
    record {
      before = read.before;
      last = read.last;
      behind = read.behind;
      split = read.split;
      fine = read.fine;
      says = says_of said read.whole value (parsed said AtHeader read.whole (worded_all (read.before ++ read.last ∷ [])) read.reaches) read.says;
      closes = read.closes;
      count = read.count ∙ omega arith;
      used = refl;
    }

read_lines_of : (text : List ℕ) (f : FrontValue) → front_of text ≡ Ok f → OnLines text f
unfolding front_of
read_lines_of text f is = go (read_from front_step front_done 1 (AtHeader, 0) (lines_of text)) refl is
  where
    go : (r : Result (ScenarioValue × ℕ) At) → read_from front_step front_done 1 (AtHeader, 0) (lines_of text) ≡ r → mapped (found_front text) r ≡ Ok f → OnLines text f
    go (Ok found) e h =
        let same : found_front text found ≡ f = cc in
        subst (OnLines text) same (lines_are text found.0 found.1 (front_read (lines_of text) AtHeader 0 1 found.0 found.1 refl e))
    go (Err at) e h = absurd (cc)

lines_of_read : (text : List ℕ) (f : FrontValue) → OnLines text f → front_of text ≡ Ok f
unfolding front_of
lines_of_read text f is =
    let whole : Declared = is.says.whole in
    let read = read_front is.before is.last is.behind AtHeader whole 0 1 is.fine is.closes (says_run (said_by (is.before ++ is.last ∷ [])) f.scenario is.says) in
    let count : 0 + (length is.before + 1) ≡ f.lines = omega (arith, is.count) in
    ap (λ ls. mapped (found_front text) (read_from front_step front_done 1 (AtHeader, 0) ls)) is.split
    ∙ ap (mapped (found_front text)) read
    ∙ ap (λ (n : ℕ). Ok (found_front text (scenario_in whole, n))) count
    ∙ ap (λ (v : ScenarioValue). Ok (found_front text (v, f.lines))) is.says.scenario
    ∙ ap (λ (n : ℕ). Ok (record { scenario = f.scenario; used = n; lines = f.lines })) (sym is.used)

pub sound : (text : List ℕ) (f : FrontValue) → front_of text ≡ Ok f → IsFront text f
sound text f is =
    let on = read_lines_of text f is in
    let cut = cut_at text on.before on.last on.behind on.split in
    record {
      front = cut.front;
      behind = cut.rest;
      split = cut.split;
      whole = cut.whole;
      says = record { lines = subst AreFine (sym cut.lines) on.fine; says = subst (λ (ls : List (List ℕ)). SaysScenario (said_by ls) f.scenario) (sym cut.lines) on.says };
      closes = record { before = map without_return on.before; last = without_return on.last; lines = ap (map without_return) cut.lines ∙ map-append without_return on.before (on.last ∷ []); words = on.closes };
      used = on.used ∙ ap (λ (n : ℕ). bytes_of_lines n text) on.count ∙ cut.used;
      lines = on.count ∙ sym (length-map (lines_of cut.front) without_return ∙ ap length cut.lines ∙ length-append on.before (on.last ∷ []) ∙ omega arith);
    }

-- the last of lines, of which the last is known without its carriage return
record LastOf (raws : List (List ℕ)) (last : List ℕ) : Type 0 where
  before : List (List ℕ)
  raw : List ℕ
  split : raws ≡ before ++ raw ∷ []
  same : without_return raw ≡ last

none_left : (raws : List (List ℕ)) → map without_return raws ≡ [] → raws ≡ []
none_left [] is = refl
none_left (raw ∷ raws) is = absurd (cc)

last_of : (raws before : List (List ℕ)) (last : List ℕ) → map without_return raws ≡ before ++ last ∷ [] → LastOf raws last
last_of [] [] last is = absurd (cc)
last_of [] (first ∷ before) last is = absurd (cc)
last_of (raw ∷ raws) [] last is =
    let same = same_head (without_return raw) last (map without_return raws) [] is in
    record { before = []; raw = raw; split = ap (λ (ls : List (List ℕ)). raw ∷ ls) (none_left raws same.1); same = same.0 }
last_of (raw ∷ raws) (first ∷ before) last is =
    let later = last_of raws before last (same_head (without_return raw) first (map without_return raws) (before ++ last ∷ []) is).1 in
    record { before = raw ∷ later.before; raw = later.raw; split = ap (λ (ls : List (List ℕ)). raw ∷ ls) later.split; same = later.same }

pub complete : (text : List ℕ) (f : FrontValue) → IsFront text f → front_of text ≡ Ok f
complete text f is =
    let ends = last_of (lines_of is.front) is.closes.before is.closes.last is.closes.lines in
    let joined = joined_lines is.front is.behind is.whole in
    let count : f.lines ≡ length (lines_of is.front) = is.lines ∙ length-map (lines_of is.front) without_return in
    let many : length (lines_of is.front) ≡ suc (length ends.before) = ap length ends.split ∙ length-append ends.before (ends.raw ∷ []) ∙ omega arith in
    lines_of_read text f (record {
      before = ends.before;
      last = ends.raw;
      behind = lines_of is.behind;
      split = ap lines_of is.split ∙ joined ∙ ap (λ (ls : List (List ℕ)). ls ++ lines_of is.behind) ends.split ∙ append_assoc ends.before (ends.raw ∷ []) (lines_of is.behind);
      fine = subst AreFine ends.split is.says.lines;
      says = subst (λ (ls : List (List ℕ)). SaysScenario (said_by ls) f.scenario) ends.split is.says.says;
      closes = ap words_of ends.same ∙ is.closes.words;
      count = count ∙ many;
      used = is.used ∙ sym (ap (λ (xs : List ℕ). bytes_of_lines f.lines xs) is.split ∙ ap (λ (n : ℕ). bytes_of_lines n (is.front ++ is.behind)) count ∙ joined_bytes is.front is.behind is.whole);
    })

-- a text begins with one scenario at most
pub only : (text : List ℕ) (f g : FrontValue) → IsFront text f → IsFront text g → f ≡ g
only text f g first second = same f g (sym (complete text f first) ∙ complete text g second)
  where
    same : (a b : FrontValue) → (let r : Result FrontValue At = Ok a in r ≡ Ok b) → a ≡ b
    same a b is = cc
