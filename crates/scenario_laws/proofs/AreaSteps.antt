-- The lines of areas are read again.
use Rattle.std.proofs.Common.{◌≡◌, ℕ, suc, ◌+◌, ◌<◌, Bool, true, List, [], ◌∷◌, ◌++◌, length, map, take, get_or, replicate, Option, Ok, Result, refl, sym, ap, ◌∙◌, arith}
use Rattle.std.specs.Prelude.{codes}
use Rattle.std.specs.List.{list_all}
use Rattle.std.specs.Option.{is_some}
use Rattle.std.proofs.lemmas.Bool.{and_from, le-ltb, lt-leb, not_from_true}
use Rattle.std.proofs.lemmas.List.{length-map, length-take-le, take_all, take_more}
use Rattle.std.proofs.lemmas.List.Elements.{All-get_or}
use Rattle.fleet_base.specs.declared.numbers.CellNo.{CellNo}
use Rattle.fleet_model.specs.Lists.{numbers_below}
use Rattle.fleet_names.specs.declared.thing.Thing.{Thing}
use Rattle.fleet_names.specs.declared.thing.Thing.TheVariants as things
use Rattle.fleet_names.specs.Things.{is_area}
use Rattle.fleet_names.specs.Names.{Named, count_of, is_name}
use Rattle.site_lines.specs.declared.fault.Code.{Code}
use Rattle.site_map.specs.Built.{BuiltSite, with_area}
use Rattle.site_map.specs.Cells.{in_order}
use Rattle.site_map.specs.Crossings.{BuiltCrossing}
use Rattle.site_map.specs.Inside.{AreCells}
use Rattle.scenario.specs.Canonical.{cell_names, name}
use Rattle.scenario_reader.specs.Reading.{step}
use Rattle.scenario_reader.specs.SiteLines.{are_cells, area_line, area_rows, new_set_rows, with_name}
use Rattle.scenario_reader.specs.States.{Declared, State, AmongSite}
use Rattle.scenario_reader.specs.Tables.{judged}
use Rattle.scenario_laws.proofs.RoundTrip.{area_line_of, names_upto, steps}
use Rattle.scenario_laws.proofs.CanonicalLines.{name_words}
use Rattle.scenario_laws.proofs.CanonicalNames.{known_named, upto_free}
use Rattle.scenario_laws.proofs.CellSteps.{IsNamedSite, area_known, words_found, words_good, words_same}
use Rattle.scenario_laws.proofs.RisingCells.{rising_few, rising_in_order, rising_no_repeat}
use Rattle.scenario_laws.proofs.SiteNames.{areas_counted, areas_more, covers_first}
use Rattle.scenario_laws.proofs.SiteSteps.{each_step, ground, same_ground, site_step, stands}
use Rattle.scenario_laws.proofs.StepLists.{fine}

-- a site without links
abbrev pub site_of_areas : ℕ → List BuiltCrossing → List (List CellNo) → BuiltSite
site_of_areas n crossings areas = record { cells = n; crossings = crossings; areas = areas; links = replicate n [] }

module _ (names : Named) (site : BuiltSite) (count : ℕ) (given : IsNamedSite names site count) where
  abbrev site_before : ℕ → BuiltSite
  site_before k = site_of_areas site.cells site.crossings (take k site.areas)

  abbrev area : ℕ → List CellNo
  area k = get_or site.areas k []

  -- one area more
  more_area : (k : ℕ) → k < length site.areas → in_order site.cells (area k) ≡ area k → with_area (site_before k) (area k) ≡ site_before (k + 1)
  more_area k within same =
      ap (λ (cells : List CellNo). site_of_areas site.cells site.crossings (take k site.areas ++ cells ∷ [])) same
      ∙ ap (site_of_areas site.cells site.crossings) (sym (take_more site.areas k [] within))

  area_step : (flows : Bool) (k : ℕ) → k < length site.areas
      → step (AmongSite flows (ground names (site_before k) site.cells (length site.crossings) k)) (area_line_of names site k) ≡ Ok (AmongSite flows (ground names (site_before (k + 1)) site.cells (length site.crossings) (k + 1)))
  area_step flows k within =
      let m : ℕ = length site.crossings in
      let cells : List CellNo = area k in
      let own : AreCells site.cells cells = All-get_or (AreCells site.cells) site.areas k [] within given.valid.gathered in
      let known = own.known in
      let w : List ℕ = name names (things.Area k) in
      let words : List (List ℕ) = w ∷ cell_names names cells in
      let d : Declared = ground names (site_before k) site.cells m k in
      let named : is_name w ≡ true = (known_named names (things.Area k) given.declared (area_known names site count given k within)).good in
      let good : list_all is_name words ≡ true = and_from (is_name w) (list_all is_name (cell_names names cells)) named (words_good names site count given cells known) in
      let long : length words ≡ suc (length cells) = ap suc (length-map cells (λ c. name names (things.Cell c.0))) in
      let most = rising_few site.cells 0 cells own.rise known in
      let some = own.some in
      let cells_few = given.valid.few_cells in
      let areas_few = given.valid.few_areas in
      let free = upto_free names site.cells m k 0 given.declared (covers_first names site count site.cells m k given.all (omega arith) (omega arith) (omega arith)) (things.Area k) (area_known names site count given k within) (omega arith) in
      let site' = more_area k within (rising_in_order site.cells cells own.rise known) in
      let front_long : length (take k site.areas) ≡ k = length-take-le k site.areas (omega arith) in
      let out : List CellNo → Declared = λ cs. record d { site = with_area d.site cs; names = with_name d.names w (things.Area (count_of is_area d.names)) } in
      site_step flows d (ground names (site_before (k + 1)) site.cells m (k + 1)) (codes "area") words (area_line d words) (stands flows _ _) (refl, name_words words good) (omega arith)
      (ap (λ (cs : List CellNo). judged (new_set_rows d.names words ++ area_rows d.site cs) (out cs)) (words_same names site count given m k cells (omega arith) (omega arith) known)
      ∙ fine (new_set_rows d.names words ++ area_rows d.site cells) (out cells) (
        le-ltb (length words) 2 (omega arith),
        (
          not_from_true (list_all is_name words) good,
          (
            ap (λ (o : Option Thing). is_some o) free,
            (
              not_from_true (are_cells d.names (cell_names names cells)) (words_found names site count given m k cells (omega arith) (omega arith) known),
              (rising_no_repeat 0 cells own.rise, (lt-leb 256 (length (take k site.areas)) (omega arith), tt)),
            ),
          ),
        ),
      )
      ∙ same_ground _ (site_before (k + 1)) _ (names_upto names site.cells m (k + 1) 0) site'
      (ap (λ n. names_upto names site.cells m k 0 ++ (w, things.Area n) ∷ []) (areas_counted names site.cells m k) ∙ sym (areas_more names site.cells m k)))

  pub areas_read : (flows : Bool) → steps (AmongSite flows (ground names (site_of_areas site.cells site.crossings []) site.cells (length site.crossings) 0)) (map (area_line_of names site) (numbers_below (length site.areas)))
      ≡ Ok (AmongSite flows (ground names (site_of_areas site.cells site.crossings site.areas) site.cells (length site.crossings) (length site.areas)))
  areas_read flows =
      each_step (λ k. AmongSite flows (ground names (site_before k) site.cells (length site.crossings) k)) (area_line_of names site) (length site.areas) (λ k within. area_step flows k within)
      ∙ ap (λ (areas : List (List CellNo)). let r : Result State Code = Ok (AmongSite flows (ground names (site_of_areas site.cells site.crossings areas) site.cells (length site.crossings) (length site.areas))) in r) (take_all (length site.areas) site.areas (omega arith))
