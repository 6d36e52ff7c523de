-- The site lines of a canonical text are read again.
use Rattle.std.proofs.Common.{◌≡◌, ℕ, ◌<◌, Bool, true, eqb, List, [], ◌++◌, length, map, get_or, Ok, ap, ◌∙◌, arith}
use Rattle.std.specs.Prelude.{flat_map}
use Rattle.std.specs.List.{list_all}
use Rattle.std.proofs.lemmas.Bool.{ne_eqb, not_from_false}
use Rattle.std.proofs.lemmas.List.Folds.{list_all_at}
use Rattle.fleet_model.specs.Lists.{numbers_below}
use Rattle.fleet_names.specs.Names.{AreDeclared}
use Rattle.site_map.specs.Built.{BuiltSite, no_crossing}
use Rattle.site_map.specs.Crossings.{BuiltCrossing}
use Rattle.site_map.specs.Valid.{IsValidSite}
use Rattle.scenario.specs.Scenarios.{IsScenario, ScenarioValue}
use Rattle.scenario_reader.specs.Reading.{closed}
use Rattle.scenario_reader.specs.States.{Declared, AmongSite, AtHeader, nothing_declared}
use Rattle.scenario_laws.proofs.RoundTrip.{area_line_of, canonical_names_of, cell_line_of, crossing_lines_of, header_line_of, link_lines_of, site_lines_of, steps}
use Rattle.scenario_laws.proofs.AreaSteps.{areas_read}
use Rattle.scenario_laws.proofs.CellSteps.{IsNamedSite, cells_read, has_flows, header_read}
use Rattle.scenario_laws.proofs.CrossingFacts.{whole_all}
use Rattle.scenario_laws.proofs.CrossingSteps.{crossings_read}
use Rattle.scenario_laws.proofs.LinkSteps.{links_read}
use Rattle.scenario_laws.proofs.SiteSteps.{ground}
use Rattle.scenario_laws.proofs.StepLists.{step_first, steps_both}

-- where a crossing has flows, the header says so
flows_told : (site : BuiltSite) (k : ℕ) → k < length site.crossings → 0 < length (get_or site.crossings k no_crossing).flows → has_flows site ≡ true
flows_told site k within some =
    not_from_false (list_all (λ x. eqb (length x.flows) 0) site.crossings)
    (list_all_at (λ (x : BuiltCrossing). eqb (length x.flows) 0) site.crossings k no_crossing within (ne_eqb (length (get_or site.crossings k no_crossing).flows) 0 (λ none. absurd (omega arith))))

-- what the site lines declare
abbrev pub site_declared : ScenarioValue → Declared
site_declared s = ground s.names s.site s.site.cells (length s.site.crossings) (length s.site.areas)

pub site_lines_read : (s : ScenarioValue) → IsScenario s → AreDeclared s.names → IsValidSite s.site → steps AtHeader (site_lines_of s) ≡ Ok (AmongSite (has_flows s.site) (site_declared s))
site_lines_read s is declared valid =
    let given : IsNamedSite s.names s.site (length s.starts) = record { declared = declared; all = is.named; valid = valid } in
    let flows : Bool = has_flows s.site in
    let cells : List (List ℕ) = map (cell_line_of s.names) (numbers_below s.site.cells) in
    let crossings : List (List ℕ) = flat_map (crossing_lines_of s.names s.site) (numbers_below (length s.site.crossings)) in
    let areas : List (List ℕ) = map (area_line_of s.names s.site) (numbers_below (length s.site.areas)) in
    let links : List (List ℕ) = flat_map (link_lines_of s.names s.site) (numbers_below s.site.cells) in
    step_first AtHeader (AmongSite flows nothing_declared) (header_line_of s.site) (cells ++ (crossings ++ (areas ++ links))) (header_read s.site)
    ∙ steps_both (AmongSite flows nothing_declared) _ cells (crossings ++ (areas ++ links)) (cells_read s.names s.site (length s.starts) given flows)
    ∙ steps_both _ _ crossings (areas ++ links) (crossings_read s.names s.site (length s.starts) given flows (flows_told s.site))
    ∙ steps_both _ _ areas links (areas_read s.names s.site (length s.starts) given flows)
    ∙ links_read s.names s.site (length s.starts) given flows

-- closed, they declare the scenario's site, and no robot yet
pub site_lines_closed : (s : ScenarioValue) → IsValidSite s.site → closed (site_declared s) ≡ record { site = s.site; names = canonical_names_of s; starts = []; missions = [] }
site_lines_closed s valid =
    ap (λ (xs : List BuiltCrossing). let d : Declared = record { site = record { cells = s.site.cells; crossings = xs; areas = s.site.areas; links = s.site.links }; names = canonical_names_of s; starts = []; missions = [] } in d)
    (whole_all s.site.cells s.site.crossings valid.crossed)
