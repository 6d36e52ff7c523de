-- The lines of the scenario that a text begins with are within the text.
use Rattle.std.proofs.Common.{◌≡◌, ℕ, zero, suc, ◌+◌, ◌≤◌, Bool, true, false, if◌then◌else◌, List, [], ◌∷◌, length, Ok, Err, Result, refl, ap, subst, arith}
use Rattle.std.specs.List.{onto_first}
use Rattle.site_lines.specs.declared.fault.Code.{Code}
use Rattle.site_lines.specs.Lines.{is_feed, lines_of}
use Rattle.site_lines.specs.Readings.{onward, read_from}
use Rattle.scenario.specs.Scenarios.{ScenarioValue}
use Rattle.scenario_reader.specs.Reading.{FrontValue, bytes_of_lines, front_done, front_of, front_step, is_ended, step}
use Rattle.scenario_reader.specs.States.{State, AtHeader, AmongSite, AmongRobots, InMission, Ended, scenario_in}
use Rattle.scenario_reader.specs.Tables.{mapped}
use Rattle.scenario_reader.proofs.Fines.{mapped_ok}

at_end : (n : ℕ) (s : State) (k : ℕ) (found : ScenarioValue × ℕ) → onward (front_done (s, k)) n (λ t. Ok t) ≡ Ok found → found.1 ≤ k + 0
at_end n AtHeader k found is = absurd (cc)
at_end n (AmongSite flows d) k found is = absurd (cc)
at_end n (AmongRobots d) k found is = absurd (cc)
at_end n (InMission d m) k found is = absurd (cc)
at_end n (Ended d) k found is =
    let same : (scenario_in d, k) ≡ found = cc in
    let count = ap (λ (f : ScenarioValue × ℕ). f.1) same in
    omega (arith, count)

-- no more lines are counted than there are
count_lines : (n : ℕ) (s : State) (k : ℕ) (lines : List (List ℕ)) (found : ScenarioValue × ℕ) → read_from front_step front_done n (s, k) lines ≡ Ok found → found.1 ≤ k + length lines
count_lines n s k [] found is = at_end n s k found is
count_lines n s k (line ∷ lines) found is = at_line (is_ended s) refl is (λ t j e. count_lines (n + 1) t j lines found e)
  where
    Later : Type 0
    Later = (t : State) (j : ℕ) → read_from front_step front_done (n + 1) (t, j) lines ≡ Ok found → found.1 ≤ j + length lines

    on_line : (r : Result State Code) → onward (mapped (λ (state : State). (state, k + 1)) r) n (λ t. read_from front_step front_done (n + 1) t lines) ≡ Ok found → Later → found.1 ≤ k + suc (length lines)
    on_line (Ok t) e later = let rest = later t (k + 1) e in omega (arith, rest)
    on_line (Err code) e later = absurd (cc)

    at_line : (ended : Bool) → is_ended s ≡ ended → onward (front_step (s, k) line) n (λ t. read_from front_step front_done (n + 1) t lines) ≡ Ok found → Later → found.1 ≤ k + suc (length lines)
    at_line true ended e later = let rest = later s k (rw ended at e) in omega (arith, rest)
    at_line false ended e later = on_line (step s line) (rw ended at e) later

-- the lines of a text have no more bytes than it
bytes_within : (n : ℕ) (text : List ℕ) → bytes_of_lines n text ≤ length text
bytes_within zero text = omega arith
bytes_within (suc n) [] = omega arith
bytes_within (suc n) (b ∷ bs) = by_feed (is_feed b) (bytes_within n bs) (bytes_within (suc n) bs)
  where
    by_feed : (feed : Bool) → bytes_of_lines n bs ≤ length bs → bytes_of_lines (suc n) bs ≤ length bs → (if feed then bytes_of_lines n bs else bytes_of_lines (suc n) bs) + 1 ≤ suc (length bs)
    by_feed true next same = omega (arith, next)
    by_feed false next same = omega (arith, same)

-- each line of a text has a byte at least
lines_within : (n : ℕ) (text : List ℕ) → n ≤ length (lines_of text) → n ≤ bytes_of_lines n text
lines_within zero text few = omega arith
lines_within (suc n) [] few = absurd (omega (arith, few))
lines_within (suc n) (b ∷ bs) few = by_feed (is_feed b) few (λ e. lines_within n bs e) (λ e. lines_within (suc n) bs e)
  where
    onto : (ls : List (List ℕ)) → suc n ≤ length (onto_first b ls) → (suc n ≤ length ls → suc n ≤ bytes_of_lines (suc n) bs) → suc n ≤ bytes_of_lines (suc n) bs + 1
    onto [] few rest = omega (arith, few)
    onto (l ∷ ls) few rest = let is = rest few in omega (arith, is)

    by_feed : (feed : Bool) → suc n ≤ length (if feed then [] ∷ lines_of bs else onto_first b (lines_of bs)) → (n ≤ length (lines_of bs) → n ≤ bytes_of_lines n bs) → (suc n ≤ length (lines_of bs) → suc n ≤ bytes_of_lines (suc n) bs)
        → suc n ≤ (if feed then bytes_of_lines n bs else bytes_of_lines (suc n) bs) + 1
    by_feed true few next same = let rest = next (omega (arith, few)) in omega (arith, rest)
    by_feed false few next same = onto (lines_of bs) few same

-- the lines of the scenario that a text begins with are within the text, and each has a byte at least
pub front_within : (text : List ℕ) (front : FrontValue) → front_of text ≡ Ok front → (front.used ≤ length text) × (front.lines ≤ front.used)
unfolding front_of
front_within text front is =
    let from = mapped_ok (λ (found : ScenarioValue × ℕ). let f : FrontValue = record { scenario = found.0; used = bytes_of_lines found.1 text; lines = found.1 } in f) (read_from front_step front_done 1 (AtHeader, 0) (lines_of text)) front is in
    let found = from.0 in
    let few = count_lines 1 AtHeader 0 (lines_of text) found from.1 in
    subst (λ (f : FrontValue). (f.used ≤ length text) × (f.lines ≤ f.used)) from.2 (bytes_within found.1 text, lines_within found.1 text (omega (arith, few)))
