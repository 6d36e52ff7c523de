-- What `assign` answers comes of its input.
use Rattle.std.proofs.Common.{◌≡◌, ℕ, ◌≤◌, List, length, Ok, Err, refl, sym, ap, subst, ◌∙◌, arith}
use Rattle.site_lines.specs.declared.fault.At.{At}
use Rattle.site_lines.specs.Lines.{lines_of}
use Rattle.site_lines.proofs.Readings.{first_fault}
use Rattle.scenario.specs.Scenarios.{ScenarioValue}
use Rattle.scenario_reader.specs.Reading.{scenario_of, step, done as scenario_done}
use Rattle.scenario_reader.specs.States.{AtHeader}
use Rattle.scenario_reader.specs.Tables.{FailsAt}
use Rattle.scenario_reader.specs.declared.stop.ReadRefused.{ReadRefused}
use Rattle.scenario_reader.specs.declared.stop.ReadRefused.TheVariants.{Bad, NoMemory}
use Rattle.form_base.specs.declared.fault.Fault.TheVariants.{Line}
use Rattle.form_base.specs.declared.fault.Stop.{Stop}
use Rattle.form_base.specs.Forms.{done}
use Rattle.form_base.specs.Stops.{Answers, IsAnswer}
use Rattle.task_assign.specs.Squares.{Square, cost_at}
use Rattle.task_assign.specs.Pairings.{IsPairing, IsLeastTotal, total_of}
use Rattle.task_assign.specs.Assignments.{column_at}
use Rattle.task_assign.proofs.SumLemmas.{sum_same}
use Rattle.fleet_assign.specs.Form.{IsBadScenario, IsLeastText, MayAnswer, assign_form, stop_of}
use Rattle.fleet_assign.specs.Tasks.{IsSquareOf, cost_of}
use Rattle.fleet_assign.specs.Texts.{IsAssigned}

-- the totals by a square are those of the scenario's costs
module _ (s : ScenarioValue) (square : Square) (is : IsSquareOf s square) where
  sized : (f : ℕ → ℕ) → IsPairing square.size f → IsPairing (length s.starts) f
  sized f p = subst (λ n. IsPairing n f) is.size p

  total_same : (f : ℕ → ℕ) → IsPairing (length s.starts) f → total_of square.size (cost_at square) f ≡ total_of (length s.starts) (cost_of s) f
  total_same f p =
      ap (λ n. total_of n (cost_at square) f) is.size
      ∙ sum_same (length s.starts) (λ i. cost_at square i (f i)) (λ i. cost_of s i (f i)) (λ i within. is.costs i (f i) within (p.below i within))

  least_same : (f : ℕ → ℕ) → IsPairing (length s.starts) f → IsLeastTotal square.size (cost_at square) f → IsLeastTotal (length s.starts) (cost_of s) f
  least_same f p least = λ other q.
      let upto = least other (subst (λ n. IsPairing n other) (sym is.size) q) in
      subst (λ n. n ≤ total_of (length s.starts) (cost_of s) other) (total_same f p)
      (subst (λ n. total_of square.size (cost_at square) f ≤ n) (total_same other q) upto)

-- the text of an assignment has the least total
least_text : {input text : List ℕ} {s : ScenarioValue} → scenario_of input ≡ Ok s → IsAssigned s text → IsLeastText input text
least_text {input} {text} {s} is told =
    let shown = told.assigned.shown in
    let column = column_at told.pairs in
    let pairing = sized s told.square told.costs column shown.pairing in
    record {
      scenario = s;
      is = is;
      pairs = told.pairs;
      told = told.told;
      pairing = pairing;
      total = shown.summed ∙ total_same s told.square told.costs column pairing;
      least = least_same s told.square told.costs column pairing told.assigned.least;
    }

-- such a text is the answer
pub text_answer : {input text : List ℕ} {s : ScenarioValue} → scenario_of input ≡ Ok s → IsAssigned s text → IsAnswer assign_form input (Ok (done text))
text_answer {input} {text} {s} is told = record {
  may = subst (λ r. MayAnswer r (Ok (done text))) (sym is) (text, told, refl);
  cause = least_text is told;
}

-- the place of a scenario's fault is its first bad line, with its least code
bad_scenario : (input : List ℕ) (at : At) → scenario_of input ≡ Err at → IsBadScenario input at
unfolding scenario_of
bad_scenario input at is = first_fault step scenario_done 1 AtHeader (lines_of input) at is

by_cause : (input : List ℕ) (refused : ReadRefused) → FailsAt refused (scenario_of input) → Answers assign_form input (Err (stop_of refused))
by_cause input (Bad at) is = record {
  may = subst (λ r. MayAnswer r (Err (Line at))) (sym is) refl;
  cause = bad_scenario input at is;
}
by_cause input NoMemory is = tt

-- and so is a refusal
pub refused_answer : (input : List ℕ) (refused : ReadRefused) {stop : Stop} → stop ≡ stop_of refused → FailsAt refused (scenario_of input) → Answers assign_form input (Err stop)
refused_answer input refused same is = subst (λ (s : Stop). Answers assign_form input (Err s)) (sym same) (by_cause input refused is)
