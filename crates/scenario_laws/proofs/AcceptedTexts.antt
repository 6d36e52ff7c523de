-- What any accepted text declares is declared again by its printed text.
use Rattle.std.proofs.Common.{◌≡◌, ℕ, List, Ok, subst}
use Rattle.site_map.specs.Valid.{IsValidSite}
use Rattle.scenario.specs.Scenarios.{ScenarioValue}
use Rattle.scenario_reader.specs.Kept.{IsReached}
use Rattle.scenario_reader.specs.Reading.{scenario_of}
use Rattle.scenario_laws.proofs.AcceptedSites.{IsFit, step_fit}
use Rattle.scenario_laws.proofs.Ends.{kept_to_end}

-- the site of an accepted text
pub accepted_valid : (text : List ℕ) (s : ScenarioValue) → scenario_of text ≡ Ok s → IsValidSite s.site
accepted_valid text s is =
    let end = kept_to_end (λ t. IsReached t × IsFit t) step_fit text s (tt, tt) is in
    subst (λ (x : ScenarioValue). IsValidSite x.site) end.scenario end.kept.1
