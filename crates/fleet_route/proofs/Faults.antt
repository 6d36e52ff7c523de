-- What `route` answers comes of its input.
use Rattle.std.proofs.Common.{◌≡◌, ℕ, List, Option, Some, None, Ok, Err, Result, refl, sym, ap, ◌∙◌, subst}
use Rattle.fleet_base.specs.declared.numbers.CellNo.{CellNo}
use Rattle.scenario.specs.Scenarios.{ScenarioValue}
use Rattle.scenario_reader.specs.MissionLines.{goal_named}
use Rattle.scenario_reader.specs.Reading.{scenario_of, step, done as scenario_done}
use Rattle.scenario_reader.specs.SiteLines.{cell_named}
use Rattle.scenario_reader.specs.States.{AtHeader}
use Rattle.site_lines.specs.declared.fault.At.{At}
use Rattle.site_lines.specs.Lines.{lines_of}
use Rattle.site_lines.proofs.Readings.{first_fault}
use Rattle.site_map.specs.declared.goal.Goal.{Goal}
use Rattle.form_base.specs.Forms.{done}
use Rattle.form_base.specs.Stops.{Answers, IsAnswer}
use Rattle.form_base.specs.declared.fault.Stop.{Stop}
use Rattle.fleet_route.specs.Answers.{route_answer, told, told_in}
use Rattle.fleet_route.specs.Form.{IsRouteFault, fault_of, reported, route_form, stop_of}
use Rattle.fleet_route.specs.Stops.{Fails}
use Rattle.fleet_route.specs.declared.refused.Refusal.{Refusal}
use Rattle.fleet_route.specs.declared.refused.Refusal.TheVariants.{Line, UnknownFrom, UnknownTo}
use Rattle.fleet_route.specs.declared.refused.Untold.{Untold}
use Rattle.fleet_route.specs.declared.refused.Untold.TheVariants.{NoMemory, Refused}

module _ (from to input : List ℕ) where
  -- the place of a scenario's fault is its first bad line, with its least code
  bad_line : (at : At) → scenario_of input ≡ Err at → IsRouteFault from to input (fault_of (Line at))
  unfolding scenario_of
  bad_line at is = first_fault step scenario_done 1 AtHeader (lines_of input) at is

  -- a word names nothing fitting in the scenario
  in_words : (s : ScenarioValue) → scenario_of input ≡ Ok s → (cell : Option CellNo) → cell_named s.names from ≡ cell → (goal : Option Goal) → goal_named s.names to ≡ goal → (refusal : Refusal) → told s cell goal ≡ Err refusal
      → IsRouteFault from to input (fault_of refusal)
  in_words s is None lacks goal named refusal e =
      let same : UnknownFrom ≡ refusal = cc in
      subst (λ r. IsRouteFault from to input (fault_of r)) same (record { scenario = s; is = is; none = lacks })
  in_words s is (Some cell) found None lacks refusal e =
      let same : UnknownTo ≡ refusal = cc in
      subst (λ r. IsRouteFault from to input (fault_of r)) same (record { scenario = s; is = is; cell = cell; begins = found; none = lacks })
  in_words s is (Some cell) found (Some goal) named refusal e = absurd (cc)

  in_scenario : (r : Result ScenarioValue At) → scenario_of input ≡ r → (refusal : Refusal) → told_in r from to ≡ Err refusal → IsRouteFault from to input (fault_of refusal)
  in_scenario (Ok s) is refusal e = in_words s is (cell_named s.names from) refl (goal_named s.names to) refl refusal e
  in_scenario (Err at) is refusal e =
      let same : Line at ≡ refusal = cc in
      subst (λ r. IsRouteFault from to input (fault_of r)) same (bad_line at is)

-- a refusal is the answer, and has its cause in the input
by_cause : (from to input : List ℕ) (untold : Untold) → Fails untold (route_answer input from to) → Answers (route_form from to) input (Err (stop_of untold))
by_cause from to input (Refused refusal) is = record { may = sym (ap reported is); cause = in_scenario from to input (scenario_of input) refl refusal is }
by_cause from to input NoMemory is = tt

pub refused_answer : (from to input : List ℕ) (untold : Untold) {stop : Stop} → stop ≡ stop_of untold → Fails untold (route_answer input from to) → Answers (route_form from to) input (Err stop)
refused_answer from to input untold same is = subst (λ (s : Stop). Answers (route_form from to) input (Err s)) (sym same) (by_cause from to input untold is)

pub text_answer : {from to input text : List ℕ} → route_answer input from to ≡ Ok text → IsAnswer (route_form from to) input (Ok (done text))
text_answer {from} {to} {input} {text} is = record { may = sym (ap reported is); cause = tt }
