-- The header and the lines of cells are read again.
use Rattle.std.proofs.Common.{◌≡◌, ℕ, ◌+◌, ◌<◌, ◌≤◌, Bool, true, false, not, cond, eqb, List, [], ◌∷◌, ◌++◌, length, map, replicate, Option, Some, Ok, refl, sym, ap, ◌∙◌, arith}
use Rattle.std.specs.Prelude.{All, codes}
use Rattle.std.specs.List.{list_all}
use Rattle.std.specs.Option.{is_some}
use Rattle.std.proofs.lemmas.Bool.{and_from, le-ltb, not_from_true, or_from}
use Rattle.std.proofs.lemmas.List.{replicate_more}
use Rattle.fleet_base.specs.declared.numbers.CellNo.{CellNo}
use Rattle.fleet_model.specs.Lists.{numbers_below}
use Rattle.fleet_names.specs.declared.thing.Thing.{Thing}
use Rattle.fleet_names.specs.declared.thing.Thing.TheVariants as things
use Rattle.fleet_names.specs.Names.{AreDeclared, Named, is_name, thing_of}
use Rattle.site_map.specs.Built.{BuiltSite}
use Rattle.site_map.specs.Valid.{IsValidSite}
use Rattle.scenario.specs.Canonical.{cell_names, name}
use Rattle.scenario.specs.Scenarios.{NamesAll}
use Rattle.scenario_reader.specs.Reading.{step}
use Rattle.scenario_reader.specs.SiteLines.{are_cells, cell_line, cell_rows, cells_named}
use Rattle.scenario_reader.specs.States.{AtHeader, AmongSite, nothing_declared}
use Rattle.scenario_laws.proofs.RoundTrip.{bare_line, cell_line_of, header_line_of, names_upto, steps}
use Rattle.scenario_laws.proofs.CanonicalLines.{step_worded}
use Rattle.scenario_laws.proofs.CanonicalNames.{IsKnown, known_named, upto_found, upto_free}
use Rattle.scenario_laws.proofs.SiteNames.{cells_counted, cells_found, cells_good, cells_more, cells_same, covers_first}
use Rattle.scenario_laws.proofs.SiteSteps.{each_step, ground, same_ground, site_step, stands}
use Rattle.scenario_laws.proofs.StepLists.{fine}

-- whether the text has flows
abbrev pub has_flows : BuiltSite → Bool
has_flows site = not (list_all (λ x. eqb (length x.flows) 0) site.crossings)

pub header_read : (site : BuiltSite) → step AtHeader (header_line_of site) ≡ Ok (AmongSite (has_flows site) nothing_declared)
header_read site = go (list_all (λ x. eqb (length x.flows) 0) site.crossings)
  where
    go : (b : Bool) → step AtHeader (bare_line (codes "fleet") (cond b (codes "1") (codes "2") ∷ [])) ≡ Ok (AmongSite (not b) nothing_declared)
    go true = step_worded AtHeader (codes "fleet") (codes "1" ∷ []) (refl, (refl, tt)) (omega arith)
    go false = step_worded AtHeader (codes "fleet") (codes "2" ∷ []) (refl, (refl, tt)) (omega arith)

-- a site of cells alone
abbrev pub bare_site : ℕ → BuiltSite
bare_site n = record { cells = n; crossings = []; areas = []; links = replicate n [] }

-- names that name just the things of a valid site, and so many robots
pub record IsNamedSite (names : Named) (site : BuiltSite) (count : ℕ) : Type 0 where
  pub declared : AreDeclared names
  pub all : NamesAll names site count
  pub valid : IsValidSite site

module _ (names : Named) (site : BuiltSite) (count : ℕ) (given : IsNamedSite names site count) where
  pub cell_known : (k : ℕ) → k < site.cells → IsKnown names (things.Cell k)
  cell_known k within = let is = given.all.cells in omega arith

  pub crossing_known : (k : ℕ) → k < length site.crossings → IsKnown names (things.Crossing k)
  crossing_known k within = let is = given.all.crossings in omega arith

  pub area_known : (k : ℕ) → k < length site.areas → IsKnown names (things.Area k)
  area_known k within = let is = given.all.areas in omega arith

  pub cell_good : (k : ℕ) → k < site.cells → is_name (name names (things.Cell k)) ≡ true
  cell_good k within = (known_named names (things.Cell k) given.declared (cell_known k within)).good

  -- each cell is found by its name behind the lines of cells
  pub cell_found : (crossings areas : ℕ) → crossings ≤ length site.crossings → areas ≤ length site.areas → (k : ℕ) → k < site.cells → thing_of (names_upto names site.cells crossings areas 0) (name names (things.Cell k)) ≡ Some (things.Cell k)
  cell_found crossings areas few_crossings few_areas k within =
      upto_found names site.cells crossings areas 0 given.declared (covers_first names site count site.cells crossings areas given.all (omega arith) few_crossings few_areas) (things.Cell k) within

  -- the names of cells are names, and name these cells
  pub words_good : (cells : List CellNo) → All (λ c. c.0 < site.cells) cells → list_all is_name (cell_names names cells) ≡ true
  words_good cells known = cells_good names (names_upto names site.cells 0 0 0) site.cells cell_good (cell_found 0 0 (omega arith) (omega arith)) cells known

  pub words_found : (crossings areas : ℕ) (cells : List CellNo) → crossings ≤ length site.crossings → areas ≤ length site.areas → All (λ c. c.0 < site.cells) cells → are_cells (names_upto names site.cells crossings areas 0) (cell_names names cells) ≡ true
  words_found crossings areas cells few_crossings few_areas known = cells_found names (names_upto names site.cells crossings areas 0) site.cells cell_good (cell_found crossings areas few_crossings few_areas) cells known

  pub words_same : (crossings areas : ℕ) (cells : List CellNo) → crossings ≤ length site.crossings → areas ≤ length site.areas → All (λ c. c.0 < site.cells) cells → cells_named (names_upto names site.cells crossings areas 0) (cell_names names cells) ≡ cells
  words_same crossings areas cells few_crossings few_areas known = cells_same names (names_upto names site.cells crossings areas 0) site.cells cell_good (cell_found crossings areas few_crossings few_areas) cells known

  cell_step : (flows : Bool) (k : ℕ) → k < site.cells → step (AmongSite flows (ground names (bare_site k) k 0 0)) (cell_line_of names k) ≡ Ok (AmongSite flows (ground names (bare_site (k + 1)) (k + 1) 0 0))
  cell_step flows k within =
      let word : List ℕ = name names (things.Cell k) in
      let good = cell_good k within in
      let free = upto_free names k 0 0 0 given.declared (covers_first names site count k 0 0 given.all (omega arith) (omega arith) (omega arith)) (things.Cell k) (cell_known k within) (omega arith) in
      let few = given.valid.few_cells in
      let d = ground names (bare_site k) k 0 0 in
      let rest : List (List ℕ) = word ∷ [] in
      site_step flows d (ground names (bare_site (k + 1)) (k + 1) 0 0) (codes "cell") rest (cell_line d rest) (stands flows _ _) (refl, (good, tt)) (omega arith)
      (fine (cell_rows d rest) _ (
        refl,
        (
          not_from_true (list_all is_name rest) (and_from (is_name word) true good refl),
          (
            or_from (is_some (thing_of d.names word)) false (ap (λ (o : Option Thing). is_some o) free) refl,
            (le-ltb 1024 (k + 1) (omega arith), tt),
          ),
        ),
      )
      ∙ same_ground _ (bare_site (k + 1)) _ (names_upto names (k + 1) 0 0 0)
      (ap (λ links. let s : BuiltSite = record { cells = k + 1; crossings = []; areas = []; links = links } in s) (replicate_more k []))
      (ap (λ n. names_upto names k 0 0 0 ++ (word, things.Cell n) ∷ []) (cells_counted names k) ∙ sym (cells_more names k)))

  pub cells_read : (flows : Bool) → steps (AmongSite flows nothing_declared) (map (cell_line_of names) (numbers_below site.cells)) ≡ Ok (AmongSite flows (ground names (bare_site site.cells) site.cells 0 0))
  cells_read flows = each_step (λ k. AmongSite flows (ground names (bare_site k) k 0 0)) (cell_line_of names) site.cells (λ k within. cell_step flows k within)
