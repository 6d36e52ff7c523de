-- The texts that are read are those of the grammar.
use Rattle.std.proofs.Common.{◌≡◌, ⊎_elim, inl, inr, ℕ, ◌+◌, ◌≤◌, Bool, true, false, cond, not, ◌||◌, eqb, ltb, List, [], ◌∷◌, ◌++◌, length, Ok, Err, Result, refl, sym, ap, ◌∙◌}
use Rattle.std.specs.Prelude.{map}
use Rattle.std.specs.List.{AllByRecursion}
use Rattle.std.proofs.lemmas.Bool.{and_cases, and_left, and_right, eqb-true, eq-eqb, le-ltb, ltb-false, not-false, not_from_true, or_from, or_parts}
use Rattle.site_lines.specs.declared.fault.At.{At}
use Rattle.site_lines.specs.declared.fault.Code.{Code}
use Rattle.site_lines.specs.declared.fault.Code.TheVariants.{S1, S2}
use Rattle.site_lines.specs.Lines.{is_too_long, lines_of, without_return}
use Rattle.site_lines.specs.Readings.{Row, next_state, onward, read_from}
use Rattle.site_lines.specs.Words.{before_comment, has_bad_byte, is_bad_byte, words_of}
use Rattle.scenario.specs.Scenarios.{IsScenario, ScenarioValue}
use Rattle.scenario_reader.specs.Reading.{done, keyword_line, scenario_of, step, when_fine, worded_line}
use Rattle.scenario_reader.specs.States.{Declared, State, AtHeader, AmongSite, AmongRobots, InMission, Ended, scenario_in}
use Rattle.scenario_reader.specs.Tables.{judged, row}
use Rattle.scenario_reader.proofs.Accepted.{accepted}
use Rattle.scenario_reader.proofs.Fines.{fines, judged_fine}
use Rattle.scenario_grammar.specs.Grammar.{IsInputLine, IsPlain, IsText, Line, SaysScenario, has_words, worded}
use Rattle.scenario_grammar.proofs.Parse.{AreWorded, OnText, parsed, run}
use Rattle.scenario_grammar.proofs.Rows.{each_fails, fails_each, judged_ok}
use Rattle.scenario_grammar.proofs.Runs.{whole_run}

-- a byte that may stand outside a comment
plain_is : (b : ℕ) → is_bad_byte b ≡ false → IsPlain b
plain_is b failing = ⊎_elim
    (λ (tab : not (eqb b 9) ≡ false). inl (eqb-true b 9 (not-false (eqb b 9) tab)))
    (λ (seen : (ltb b 32 || ltb 126 b) ≡ false). let parts = or_parts (ltb b 32) (ltb 126 b) seen in inr (ltb-false b 32 parts.0, ltb-false 126 b parts.1))
    (and_cases (not (eqb b 9)) (ltb b 32 || ltb 126 b) failing)

is_plain : (b : ℕ) → IsPlain b → is_bad_byte b ≡ false
is_plain b plain = ⊎_elim
    (λ (tab : b ≡ 9). and_left (not (eqb b 9)) (ltb b 32 || ltb 126 b) (not_from_true (eqb b 9) (eq-eqb b 9 tab)))
    (λ (seen : (32 ≤ b) × (b ≤ 126)). and_right (not (eqb b 9)) (ltb b 32 || ltb 126 b) (or_from (ltb b 32) (ltb 126 b) (le-ltb b 32 seen.0) (le-ltb 126 b seen.1)))
    plain

-- the codes of any line
abbrev pub input_rows : List ℕ → List Row
input_rows raw = row (is_too_long (without_return raw)) S1 ∷ row (has_bad_byte (without_return raw)) S2 ∷ []

input_line_is : (raw : List ℕ) (b : Bool) → judged (input_rows raw) true ≡ Ok b → IsInputLine (without_return raw)
input_line_is raw b is =
    let f = fines (input_rows raw) (judged_fine (input_rows raw) true b is).0 in
    record { short = ltb-false 65536 (length (without_return raw)) f.0; plain = each_fails is_bad_byte IsPlain plain_is (before_comment (without_return raw)) f.1.0 }

is_input_line : (raw : List ℕ) → IsInputLine (without_return raw) → judged (input_rows raw) true ≡ Ok true
is_input_line raw is =
    judged_ok (input_rows raw) true (le-ltb 65536 (length (without_return raw)) is.short, (fails_each is_bad_byte IsPlain is_plain (before_comment (without_return raw)) is.plain, tt))

-- a line in front of others, unless it is blank
abbrev pub unless_blank : Line → List Line → List Line
unless_blank line lines = cond (has_words line) (line ∷ lines) lines

-- the lines that have words, and that all are input lines
abbrev pub said_by : List (List ℕ) → List Line
said_by raws = worded (map without_return raws)

abbrev pub AreFine : List (List ℕ) → Type 0
AreFine raws = AllByRecursion IsInputLine (map without_return raws)

abbrev pub words_in : List ℕ → Line
words_in raw = words_of (without_return raw)

-- a line is read by its words, where it is one of an input
pub step_read : (s t : State) (raw : List ℕ) → step s raw ≡ Ok t → IsInputLine (without_return raw) × (worded_line s (words_in raw) ≡ Ok t)
step_read s t raw is = go (judged (input_rows raw) true) refl is
  where
    go : (r : Result Bool Code) → judged (input_rows raw) true ≡ r → when_fine r (worded_line s (words_in raw)) ≡ Ok t → IsInputLine (without_return raw) × (worded_line s (words_in raw) ≡ Ok t)
    go (Ok b) e h = (input_line_is raw b e, h)
    go (Err code) e h = absurd (cc)

pub step_taken : (s : State) (raw : List ℕ) → IsInputLine (without_return raw) → step s raw ≡ worded_line s (words_in raw)
step_taken s raw is = ap (λ (r : Result Bool Code). when_fine r (worded_line s (words_in raw))) (is_input_line raw is)

-- a line in front of others, blank or not
pub run_on : (s t : State) (line : Line) (lines : List Line) → worded_line s line ≡ Ok t → run s (unless_blank line lines) ≡ run t lines
run_on s t [] lines is = let same : s ≡ t = cc in ap (λ (x : State). run x lines) same
run_on s t (word ∷ words) lines is = ap (λ r. next_state r (λ u. run u lines)) is

-- the state behind the first of lines that lead to one
pub first_state : (s t : State) (line : Line) (lines : List Line) → run s (unless_blank line lines) ≡ Ok t → (u : State) × (worded_line s line ≡ Ok u) × (run u lines ≡ Ok t)
first_state s t [] lines is = (s, refl, is)
first_state s t (word ∷ words) lines is = go (keyword_line s word words) refl is
  where
    go : (r : Result State Code) → keyword_line s word words ≡ r → next_state r (λ u. run u lines) ≡ Ok t → (u : State) × (keyword_line s word words ≡ Ok u) × (run u lines ≡ Ok t)
    go (Ok u) e h = (u, e, h)
    go (Err code) e h = absurd (cc)

unless_worded : (line : Line) (lines : List Line) → AreWorded lines → AreWorded (unless_blank line lines)
unless_worded [] lines all = all
unless_worded (word ∷ words) lines all = all

pub worded_all : (raws : List (List ℕ)) → AreWorded (said_by raws)
worded_all [] = tt
worded_all (raw ∷ raws) = unless_worded (words_in raw) (said_by raws) (worded_all raws)

-- lines that are read from a state to the end
record ReadsLines (s : State) (raws : List (List ℕ)) (value : ScenarioValue) : Type 0 where
  fine : AreFine raws
  whole : Declared
  reaches : run s (said_by raws) ≡ Ok (Ended whole)
  says : scenario_in whole ≡ value

at_end : (s : State) (n : ℕ) (value : ScenarioValue) → onward {T = ScenarioValue} (done s) n (λ t. Ok t) ≡ Ok value → ReadsLines s [] value
at_end AtHeader n value is = absurd (cc)
at_end (AmongSite flows d) n value is = absurd (cc)
at_end (AmongRobots d) n value is = absurd (cc)
at_end (InMission d m) n value is = absurd (cc)
at_end (Ended d) n value is = record { fine = tt; whole = d; reaches = refl; says = cc }

lines_read : (s : State) (n : ℕ) (raws : List (List ℕ)) (value : ScenarioValue) → read_from step done n s raws ≡ Ok value → ReadsLines s raws value
lines_read s n [] value is = at_end s n value is
lines_read s n (raw ∷ raws) value is = go (step s raw) refl (λ t rest. lines_read t (n + 1) raws value rest) is
  where
    go : (r : Result State Code) → step s raw ≡ r → ((t : State) → read_from step done (n + 1) t raws ≡ Ok value → ReadsLines t raws value)
        → onward {T = ScenarioValue} r n (λ t. read_from step done (n + 1) t raws) ≡ Ok value → ReadsLines s (raw ∷ raws) value
    go (Ok t) e next h =
        let later = next t h in
        let here = step_read s t raw e in
        record { fine = (here.0, later.fine); whole = later.whole; reaches = run_on s t (words_in raw) (said_by raws) here.1 ∙ later.reaches; says = later.says }
    go (Err code) e next h = absurd (cc)

same_end : (s : State) (e : Declared) → run s [] ≡ Ok (Ended e) → s ≡ Ended e
same_end s e is = cc

read_lines : (s : State) (n : ℕ) (raws : List (List ℕ)) (e : Declared) → AreFine raws → run s (said_by raws) ≡ Ok (Ended e) → read_from step done n s raws ≡ Ok (scenario_in e)
read_lines s n [] e fine is = ap (λ (x : State). read_from step done n x []) (same_end s e is)
read_lines s n (raw ∷ raws) e fine is =
    let first = first_state s (Ended e) (words_in raw) (said_by raws) is in
    ap (λ (r : Result State Code). onward {T = ScenarioValue} r n (λ t. read_from step done (n + 1) t raws)) (step_taken s raw fine.0 ∙ first.1)
    ∙ read_lines first.0 (n + 1) raws e fine.1 first.2

-- what lines say that are read from the first to the end
pub says_of : (lines : List Line) (e : Declared) (s : ScenarioValue) → OnText lines e → scenario_in e ≡ s → SaysScenario lines s
says_of lines e s on same = record {
  flows = on.flows;
  header = on.header;
  site = on.later.site;
  fleet = on.later.later.fleet;
  built = on.later.built;
  whole = e;
  split = on.split ∙ ap (λ (ls : List Line). on.header ∷ ls) (on.later.split ∙ ap (λ (ls : List Line). on.later.site ++ ls) on.later.later.split);
  headed = on.headed;
  built_by = on.later.made;
  whole_by = on.later.later.made;
  some = on.later.later.some;
  scenario = same;
}

pub says_run : (lines : List Line) (s : ScenarioValue) (says : SaysScenario lines s) → run AtHeader lines ≡ Ok (Ended says.whole)
says_run lines s says = ap (run AtHeader) says.split ∙ whole_run says.flows says.built says.whole says.header says.site says.fleet says.headed says.built_by says.whole_by says.some

pub sound : (text : List ℕ) (s : ScenarioValue) → scenario_of text ≡ Ok s → IsText text s
unfolding scenario_of
sound text s is =
    let read = lines_read AtHeader 1 (lines_of text) s is in
    record { lines = read.fine; says = says_of (said_by (lines_of text)) read.whole s (parsed (said_by (lines_of text)) AtHeader read.whole (worded_all (lines_of text)) read.reaches) read.says }

pub complete : (text : List ℕ) (s : ScenarioValue) → IsText text s → scenario_of text ≡ Ok s
unfolding scenario_of
complete text s is =
    read_lines AtHeader 1 (lines_of text) is.says.whole is.lines (says_run (said_by (lines_of text)) s is.says) ∙ ap (λ (x : ScenarioValue). Ok x) is.says.scenario

-- what a text says is a scenario
pub valid : (text : List ℕ) (s : ScenarioValue) → IsText text s → IsScenario s
valid text s is = accepted text s (complete text s is)

-- a text says one scenario at most
pub only : (text : List ℕ) (s t : ScenarioValue) → IsText text s → IsText text t → s ≡ t
only text s t first second = same s t (sym (complete text s first) ∙ complete text t second)
  where
    same : (a b : ScenarioValue) → (let r : Result ScenarioValue At = Ok a in r ≡ Ok b) → a ≡ b
    same a b is = cc

-- a text that says none is refused
pub refused : (text : List ℕ) → ((s : ScenarioValue) → IsText text s → ⊥) → (at : At) × (scenario_of text ≡ Err at)
refused text none = go (scenario_of text) refl
  where
    go : (r : Result ScenarioValue At) → scenario_of text ≡ r → (at : At) × (scenario_of text ≡ Err at)
    go (Ok s) e = absurd (none s (sound text s e))
    go (Err at) e = (at, e)
