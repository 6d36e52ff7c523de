use Rattle.std.proofs.Common.{◌≤◌, List, length, sym, subst}
use Rattle.fleet_base.specs.declared.numbers.CellNo.{CellNo}
use Rattle.site_map.specs.declared.goal.Goal.{Goal}
use Rattle.scenario.specs.Scenarios.{IsScenario}
use Rattle.scenario_reader.specs.Kept.{IsSound}
use Rattle.scenario_reader.specs.States.{Declared, scenario_in}
use Rattle.scenario_reader.proofs.Sound.{sound_scenario}
use Rattle.scenario_reader.proofs.fleet.Fleet.scenario.Goals as goal

pub of_parts-requires : goal.of_parts-requires
of_parts-requires c =
    let d : Declared = record { site = c.self.inside.site; names = c.self.inside.names; starts = c.self.inside.starts.items; missions = c.self.inside.missions.items } in
    let is : IsScenario (scenario_in d) = sound_scenario d (subst IsSound (sym c.self.view_is) c.requires.sound) (subst (λ (e : Declared). 1 ≤ length e.starts) (sym c.self.view_is) c.requires.some) in
    subst (λ (ms : List (List Goal)). IsScenario (record { site = c.self.inside.site; names = c.self.inside.names; starts = c.from_vec.result; missions = ms })) (sym c.in_ok-missions.ensures)
    (subst (λ (ss : List CellNo). IsScenario (record { site = c.self.inside.site; names = c.self.inside.names; starts = ss; missions = (scenario_in d).missions })) (sym c.from_vec.ensures) is)
