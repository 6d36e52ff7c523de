-- What was read is a scenario.
use Rattle.std.proofs.Common.{◌≤◌, [], length, ◌∙◌}
use Rattle.std.specs.Option.{unwrap_or}
use Rattle.std.proofs.lemmas.List.{length-map}
use Rattle.std.proofs.lemmas.List.Elements.{All-map}
use Rattle.scenario.specs.Scenarios.{IsMission, IsScenario}
use Rattle.scenario_reader.specs.Kept.{IsSound}
use Rattle.scenario_reader.specs.States.{Declared, scenario_in}

pub sound_scenario : (d : Declared) → IsSound d → 1 ≤ length d.starts → IsScenario (scenario_in d)
sound_scenario d sound some = record {
  some = some;
  few = sound.few;
  starts = sound.starts;
  apart = sound.apart;
  named = sound.named;
  missions = length-map d.missions (λ m. unwrap_or m []) ∙ sound.missions;
  legs = All-map (IsMission d.site) (λ m. unwrap_or m []) d.missions sound.legs;
}
