-- What each accepted line keeps holds at the end of an accepted text.
use Rattle.std.proofs.Common.{◌≡◌, ℕ, ◌+◌, List, [], ◌∷◌, Ok, Err, Result, refl, subst}
use Rattle.fleet_names.specs.Names.{AreDeclared}
use Rattle.site_lines.specs.Lines.{lines_of}
use Rattle.site_lines.specs.Readings.{onward, read_from}
use Rattle.site_lines.specs.declared.fault.Code.{Code}
use Rattle.scenario.specs.Scenarios.{ScenarioValue}
use Rattle.scenario_reader.specs.Kept.{IsReached}
use Rattle.scenario_reader.specs.Reading.{done, scenario_of, step}
use Rattle.scenario_reader.specs.States.{Declared, State, AtHeader, AmongSite, AmongRobots, InMission, Ended, scenario_in}
use Rattle.scenario_reader.proofs.Steps.{step_reached}

-- a text whose end keeps it, and declares the scenario
pub record IsEnd (P : State → Type 0) (value : ScenarioValue) : Type 0 where
  pub declared : Declared
  pub kept : P (Ended declared)
  pub scenario : scenario_in declared ≡ value

module _ (P : State → Type 0) (each : (s t : State) (raw : List ℕ) → P s → step s raw ≡ Ok t → P t) where
  at_end : (s : State) (n : ℕ) (value : ScenarioValue) → P s → onward {T = ScenarioValue} (done s) n (λ t. Ok t) ≡ Ok value → IsEnd P value
  at_end AtHeader n value kept is = absurd (cc)
  at_end (AmongSite flows d) n value kept is = absurd (cc)
  at_end (AmongRobots d) n value kept is = absurd (cc)
  at_end (InMission d m) n value kept is = absurd (cc)
  at_end (Ended d) n value kept is = record { declared = d; kept = kept; scenario = cc }

  one_line : (r : Result State Code) (n : ℕ) (lines : List (List ℕ)) (value : ScenarioValue) → ((t : State) → r ≡ Ok t → read_from step done (n + 1) t lines ≡ Ok value → IsEnd P value)
      → onward {T = ScenarioValue} r n (λ t. read_from step done (n + 1) t lines) ≡ Ok value → IsEnd P value
  one_line (Ok t) n lines value next is = next t refl is
  one_line (Err code) n lines value next is = absurd (cc)

  to_end : (s : State) (n : ℕ) (lines : List (List ℕ)) (value : ScenarioValue) → P s → read_from step done n s lines ≡ Ok value → IsEnd P value
  to_end s n [] value kept is = at_end s n value kept is
  to_end s n (line ∷ lines) value kept is = one_line (step s line) n lines value (λ t taken rest. to_end t (n + 1) lines value (each s t line kept taken) rest) is

  pub kept_to_end : (text : List ℕ) (value : ScenarioValue) → P AtHeader → scenario_of text ≡ Ok value → IsEnd P value
  unfolding scenario_of
  kept_to_end text value kept is = to_end AtHeader 1 (lines_of text) value kept is

-- the names of an accepted text
pub accepted_declared : (text : List ℕ) (value : ScenarioValue) → scenario_of text ≡ Ok value → AreDeclared value.names
accepted_declared text value is =
    let end = kept_to_end IsReached (λ s t raw kept taken. step_reached s t raw kept taken) text value tt is in
    subst (λ (s : ScenarioValue). AreDeclared s.names) end.scenario end.kept.0.declared
