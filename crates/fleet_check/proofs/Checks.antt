-- What `check` answers comes of its input.
use Rattle.std.proofs.Common.{◌≡◌, ℕ, List, Ok, Err, sym, ap, subst, ◌∙◌}
use Rattle.site_lines.specs.declared.fault.At.{At}
use Rattle.site_lines.specs.Lines.{lines_of}
use Rattle.site_lines.proofs.Readings.{first_fault}
use Rattle.scenario.specs.Scenarios.{ScenarioValue}
use Rattle.scenario.specs.Canonical.{canonical_text}
use Rattle.scenario_reader.specs.Reading.{scenario_of, step, done as scenario_done}
use Rattle.scenario_reader.specs.States.{AtHeader}
use Rattle.scenario_reader.specs.Tables.{FailsAt}
use Rattle.scenario_reader.specs.declared.stop.ReadRefused.{ReadRefused}
use Rattle.scenario_reader.specs.declared.stop.ReadRefused.TheVariants.{Bad, NoMemory}
use Rattle.form_base.specs.declared.fault.Stop.{Stop}
use Rattle.form_base.specs.Forms.{done}
use Rattle.form_base.specs.Stops.{Answers, IsAnswer}
use Rattle.fleet_check.specs.Check.{IsBadScenario, canonical_or, check_form, stop_of}

-- the place of a scenario's fault is its first bad line, with its least code
bad_scenario : (input : List ℕ) (at : At) → scenario_of input ≡ Err at → IsBadScenario input at
unfolding scenario_of
bad_scenario input at is = first_fault step scenario_done 1 AtHeader (lines_of input) at is

by_cause : (input : List ℕ) (refused : ReadRefused) → FailsAt refused (scenario_of input) → Answers check_form input (Err (stop_of refused))
by_cause input (Bad at) is = record { may = sym (ap canonical_or is); cause = bad_scenario input at is }
by_cause input NoMemory is = tt

-- a refusal is the answer, and has its cause in the input
pub refused_answer : (input : List ℕ) (refused : ReadRefused) {stop : Stop} → stop ≡ stop_of refused → FailsAt refused (scenario_of input) → Answers check_form input (Err stop)
refused_answer input refused same is = subst (λ (s : Stop). Answers check_form input (Err s)) (sym same) (by_cause input refused is)

-- and so is a text
pub text_answer : {input : List ℕ} {scenario : ScenarioValue} {text : List ℕ} → scenario_of input ≡ Ok scenario → text ≡ canonical_text scenario → IsAnswer check_form input (Ok (done text))
text_answer {input} {scenario} {text} is told = record { may = ap (λ t. Ok (done t)) told ∙ sym (ap canonical_or is); cause = tt }
