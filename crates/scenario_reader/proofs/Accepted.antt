-- What a text that is accepted declares.
use Rattle.std.proofs.Common.{◌≡◌, ℕ, ◌+◌, List, [], ◌∷◌, Ok, Err, Result, refl, subst}
use Rattle.site_lines.specs.declared.fault.At.{At}
use Rattle.site_lines.specs.declared.fault.Code.{Code}
use Rattle.site_lines.specs.Lines.{lines_of}
use Rattle.site_lines.specs.Readings.{onward, read_from, IsFirstFault}
use Rattle.site_lines.proofs.Readings.{first_fault}
use Rattle.scenario.specs.Scenarios.{ScenarioValue, IsScenario}
use Rattle.scenario_reader.specs.Kept.{IsReached}
use Rattle.scenario_reader.specs.Reading.{done, scenario_of, step}
use Rattle.scenario_reader.specs.States.{State, AtHeader, AmongSite, AmongRobots, InMission, Ended, scenario_in}
use Rattle.scenario_reader.proofs.Sound.{sound_scenario}
use Rattle.scenario_reader.proofs.Steps.{step_reached}

at_end : (s : State) (n : ℕ) (value : ScenarioValue) → IsReached s → onward {T = ScenarioValue} (done s) n (λ t. Ok t) ≡ Ok value → IsScenario value
at_end AtHeader n value reached is = absurd (cc)
at_end (AmongSite flows d) n value reached is = absurd (cc)
at_end (AmongRobots d) n value reached is = absurd (cc)
at_end (InMission d m) n value reached is = absurd (cc)
at_end (Ended d) n value reached is = let same : scenario_in d ≡ value = cc in subst IsScenario same (sound_scenario d reached.0 reached.1)

one_line : (r : Result State Code) (n : ℕ) (lines : List (List ℕ)) (value : ScenarioValue) → ((t : State) → r ≡ Ok t → read_from step done (n + 1) t lines ≡ Ok value → IsScenario value)
    → onward {T = ScenarioValue} r n (λ t. read_from step done (n + 1) t lines) ≡ Ok value → IsScenario value
one_line (Ok t) n lines value next is = next t refl is
one_line (Err code) n lines value next is = absurd (cc)

read_scenarios : (s : State) (n : ℕ) (lines : List (List ℕ)) (value : ScenarioValue) → IsReached s → read_from step done n s lines ≡ Ok value → IsScenario value
read_scenarios s n [] value reached is = at_end s n value reached is
read_scenarios s n (line ∷ lines) value reached is = one_line (step s line) n lines value (λ t taken rest. read_scenarios t (n + 1) lines value (step_reached s t line reached taken) rest) is

pub accepted : (text : List ℕ) (value : ScenarioValue) → scenario_of text ≡ Ok value → IsScenario value
unfolding scenario_of
accepted text value is = read_scenarios AtHeader 1 (lines_of text) value tt is

pub refused : (text : List ℕ) (at : At) → scenario_of text ≡ Err at → IsFirstFault step done 1 AtHeader (lines_of text) at
unfolding scenario_of
refused text at is = first_fault step done 1 AtHeader (lines_of text) at is
