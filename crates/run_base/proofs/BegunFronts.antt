-- What a scenario is that a text begins with.
use Rattle.std.proofs.Common.{◌≡◌, ℕ, ◌+◌, Bool, true, false, List, [], ◌∷◌, Ok, Err, Result, refl, subst}
use Rattle.fleet_model.specs.Sites.{IsSite}
use Rattle.fleet_names.specs.Names.{AreDeclared}
use Rattle.scenario.specs.Scenarios.{IsScenario, ScenarioValue}
use Rattle.scenario_laws.proofs.AcceptedSites.{IsFit, step_fit}
use Rattle.scenario_laws.proofs.Ends.{IsEnd}
use Rattle.scenario_reader.specs.Kept.{IsReached}
use Rattle.scenario_reader.specs.Reading.{FrontValue, bytes_of_lines, front_done, front_of, front_step, is_ended, step}
use Rattle.scenario_reader.specs.States.{State, AtHeader, AmongSite, AmongRobots, InMission, Ended}
use Rattle.scenario_reader.specs.Tables.{mapped}
use Rattle.scenario_reader.proofs.Fines.{mapped_ok}
use Rattle.scenario_reader.proofs.Sound.{sound_scenario}
use Rattle.site_lines.specs.declared.fault.Code.{Code}
use Rattle.site_lines.specs.Lines.{lines_of}
use Rattle.site_lines.specs.Readings.{onward, read_from}
use Rattle.site_map.specs.Claims.{site_of}
use Rattle.run_base.proofs.Sites.{valid_site}

-- what each line keeps holds where the scenario ends
module _ (P : State → Type 0) (each : (s t : State) (raw : List ℕ) → P s → step s raw ≡ Ok t → P t) where
  at_end : (n : ℕ) (s : State) (k : ℕ) (found : ScenarioValue × ℕ) → P s → onward (front_done (s, k)) n (λ t. Ok t) ≡ Ok found → IsEnd P found.0
  at_end n AtHeader k found kept is = absurd (cc)
  at_end n (AmongSite flows d) k found kept is = absurd (cc)
  at_end n (AmongRobots d) k found kept is = absurd (cc)
  at_end n (InMission d m) k found kept is = absurd (cc)
  at_end n (Ended d) k found kept is = record { declared = d; kept = kept; scenario = cc }

  at_lines : (n : ℕ) (s : State) (k : ℕ) (lines : List (List ℕ)) (found : ScenarioValue × ℕ) → P s → read_from front_step front_done n (s, k) lines ≡ Ok found → IsEnd P found.0
  at_lines n s k [] found kept is = at_end n s k found kept is
  at_lines n s k (line ∷ lines) found kept is = at_line (is_ended s) refl is (λ t j holds e. at_lines (n + 1) t j lines found holds e)
    where
      Later : Type 0
      Later = (t : State) (j : ℕ) → P t → read_from front_step front_done (n + 1) (t, j) lines ≡ Ok found → IsEnd P found.0

      on_line : (r : Result State Code) → step s line ≡ r → onward (mapped (λ (state : State). (state, k + 1)) r) n (λ t. read_from front_step front_done (n + 1) t lines) ≡ Ok found → Later → IsEnd P found.0
      on_line (Ok t) stepped e later = later t (k + 1) (each s t line kept stepped) e
      on_line (Err code) stepped e later = absurd (cc)

      at_line : (ended : Bool) → is_ended s ≡ ended → onward (front_step (s, k) line) n (λ t. read_from front_step front_done (n + 1) t lines) ≡ Ok found → Later → IsEnd P found.0
      at_line true ended e later = later s k kept (rw ended at e)
      at_line false ended e later = on_line (step s line) refl (rw ended at e) later

  front_end : (text : List ℕ) (front : FrontValue) → P AtHeader → front_of text ≡ Ok front → IsEnd P front.scenario
  unfolding front_of
  front_end text front kept is =
      let from = mapped_ok (λ (found : ScenarioValue × ℕ). let f : FrontValue = record { scenario = found.0; used = bytes_of_lines found.1 text; lines = found.1 } in f) (read_from front_step front_done 1 (AtHeader, 0) (lines_of text)) front is in
      subst (λ (f : FrontValue). IsEnd P f.scenario) from.2 (at_lines 1 AtHeader 0 (lines_of text) from.0 kept from.1)

-- its names are declared, it is a scenario, and its site is one that the rules speak of
pub record IsBegun (scenario : ScenarioValue) : Type 0 where
  pub declared : AreDeclared scenario.names
  pub fits : IsScenario scenario
  pub site : IsSite (site_of scenario.site)

pub front_begun : (text : List ℕ) (front : FrontValue) → front_of text ≡ Ok front → IsBegun front.scenario
front_begun text front is =
    let end = front_end (λ t. IsReached t × IsFit t) step_fit text front (tt, tt) is in
    subst IsBegun end.scenario (record {
      declared = end.kept.0.0.declared;
      fits = sound_scenario end.declared end.kept.0.0 end.kept.0.1;
      site = valid_site end.declared.site end.kept.1;
    })
