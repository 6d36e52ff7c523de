-- A canonical text is read again, and declares the same scenario.
use Rattle.std.proofs.Common.{◌≡◌, ⊎_elim, ◌≤◌, List, [], ◌∷◌, ◌++◌, length, get_or, Ok, refl, sym, ap, subst, ◌∙◌, arith}
use Rattle.std.specs.List.{AllByRecursion}
use Rattle.std.proofs.lemmas.Bool.{cases_lt}
use Rattle.std.proofs.lemmas.List.{get_or_past}
use Rattle.std.proofs.lemmas.List.Elements.{All-get_or, recursion_from_All}
use Rattle.fleet_base.specs.declared.limits.TheConstants.{MAX_COST}
use Rattle.fleet_base.specs.declared.numbers.Link.{Link}
use Rattle.fleet_names.specs.declared.thing.Thing.{Thing}
use Rattle.fleet_names.specs.declared.thing.Thing.TheVariants as things
use Rattle.fleet_names.specs.Names.{AreDeclared, count_of}
use Rattle.fleet_names.specs.Things.{same_kind}
use Rattle.site_map.specs.Built.{BuiltSite}
use Rattle.site_map.specs.Inside.{AreLinks}
use Rattle.site_map.specs.Valid.{IsValidSite}
use Rattle.site_map.proofs.SiteLemmas.{links_at_cell}
use Rattle.scenario.specs.Canonical.{canonical_text}
use Rattle.scenario.specs.Scenarios.{IsScenario, ScenarioValue}
use Rattle.scenario_reader.specs.Reading.{done, scenario_of, step}
use Rattle.scenario_reader.specs.States.{AmongSite, AtHeader, Ended, scenario_in}
use Rattle.site_lines.specs.Readings.{read_from}
use Rattle.scenario_laws.proofs.RoundTrip.{fleet_lines_of, site_lines_of}
use Rattle.scenario_laws.specs.Same.{IsSame}
use Rattle.scenario_laws.proofs.CanonicalLines.{step_worded}
use Rattle.scenario_laws.proofs.CanonicalNames.{limit_of, upto_same}
use Rattle.scenario_laws.proofs.CellSteps.{has_flows}
use Rattle.scenario_laws.proofs.Fleet.{fleet_stepped}
use Rattle.scenario_laws.proofs.Missions.{all_told, missions_at}
use Rattle.scenario_laws.proofs.SiteRead.{site_declared, site_lines_closed, site_lines_read}
use Rattle.scenario_laws.proofs.StepLists.{steps_both, steps_read}
use Rattle.scenario_laws.proofs.Texts.{AreCheap, IsCheap, canonical_lines}

-- the costs of a valid site are short
cheap_links : (links : List Link) → AllByRecursion (λ l. (1 ≤ l.cost) × (l.cost ≤ MAX_COST)) links → AllByRecursion IsCheap links
cheap_links [] costs = tt
cheap_links (l ∷ ls) costs = let cost = costs.0.1 in (omega arith, cheap_links ls costs.1)

pub cheap_site : (site : BuiltSite) → IsValidSite site → AreCheap site
cheap_site site valid k =
    let row : List Link = get_or site.links k [] in
    let cheap : AllByRecursion IsCheap row =
    ⊎_elim
    (λ within. cheap_links row (recursion_from_All (λ l. (1 ≤ l.cost) × (l.cost ≤ MAX_COST)) row (All-get_or (AreLinks site.cells) site.links k [] within valid.linked).costs))
    (λ past. subst (AllByRecursion IsCheap) (sym (get_or_past site.links k [] past)) tt)
    (cases_lt k (length site.links))
    in
    subst (AllByRecursion IsCheap) (sym (links_at_cell site (record { 0 = k }))) cheap

-- what a canonical text declares
abbrev pub read_again : ScenarioValue → ScenarioValue
read_again s = scenario_in (missions_at s (length s.missions))

pub reads_back : (s : ScenarioValue) → IsScenario s → AreDeclared s.names → IsValidSite s.site → scenario_of (canonical_text s) ≡ Ok (read_again s)
unfolding scenario_of
reads_back s is declared valid =
    let flows = has_flows s.site in
    ap (λ lines. read_from step done 1 AtHeader lines) (canonical_lines s declared.differ (cheap_site s.site valid))
    ∙ steps_read AtHeader (Ended (missions_at s (length s.missions))) 1 (site_lines_of s ++ fleet_lines_of s) (read_again s)
    (steps_both AtHeader (AmongSite flows (site_declared s)) (site_lines_of s) (fleet_lines_of s) (site_lines_read s is declared valid)
    ∙ fleet_stepped step_worded s is declared flows (site_declared s) (site_lines_closed s valid))
    refl

-- as many things have names as there are
all_named : (s : ScenarioValue) (t : Thing) → IsScenario s → limit_of s.site.cells (length s.site.crossings) (length s.site.areas) (length s.starts) t ≡ count_of (same_kind t) s.names
all_named s (things.Cell k) is = sym is.named.cells
all_named s (things.Crossing k) is = sym is.named.crossings
all_named s (things.Area k) is = sym is.named.areas
all_named s (things.Robot k) is = sym is.named.robots

pub same_again : (s : ScenarioValue) → IsScenario s → AreDeclared s.names → IsSame s (read_again s)
same_again s is declared = record {
  site = refl;
  names = λ t. upto_same s.names s.site.cells (length s.site.crossings) (length s.site.areas) (length s.starts) t declared (all_named s t is);
  starts = refl;
  missions = all_told s.missions;
}
