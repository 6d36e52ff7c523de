-- The lines of crossings and of their flows are read again.
use Rattle.std.proofs.Common.{◌≡◌, ℕ, suc, ◌+◌, ◌-◌, ◌<◌, Bool, true, false, not, ◌||◌, ◌&&◌, leb, List, [], ◌∷◌, ◌++◌, length, map, take, get_or, set, replicate, Option, Some, Ok, Result, refl, sym, ap, subst, ◌∙◌, arith}
use Rattle.std.specs.Prelude.{All, codes, flat_map}
use Rattle.std.specs.List.{list_all, list_any}
use Rattle.std.specs.Option.{is_some, unwrap_or}
use Rattle.std.proofs.lemmas.Bool.{and_from, le-ltb, lt-leb, not_from_true, or_from}
use Rattle.std.proofs.lemmas.List.{get_or_at, get_or-take, length-map, length-take-le, set_at, take_all, take_more}
use Rattle.std.proofs.lemmas.List.Elements.{All-from_get_or, All-get_or, All-weaker}
use Rattle.std.proofs.lemmas.List.Folds.{list_any_none}
use Rattle.fleet_base.specs.declared.numbers.CellNo.{CellNo}
use Rattle.fleet_model.specs.Lists.{numbers_below, has_cell}
use Rattle.fleet_names.specs.declared.thing.Thing.{Thing}
use Rattle.fleet_names.specs.declared.thing.Thing.TheVariants as things
use Rattle.fleet_names.specs.Things.{is_crossing}
use Rattle.fleet_names.specs.Names.{Named, count_of, is_name, thing_of}
use Rattle.site_lines.specs.declared.fault.Code.{Code}
use Rattle.site_map.specs.Built.{BuiltSite, crossing_at, no_crossing, with_crossing, with_flow}
use Rattle.site_map.specs.Cells.{in_order}
use Rattle.site_map.specs.Crossings.{BuiltCrossing, completed, crossing_claims, in_flow, with_line}
use Rattle.site_map.specs.Refusals.{has_too_many_claims}
use Rattle.site_map.specs.Valid.{IsCrossingIn}
use Rattle.site_map.proofs.CellLemmas.{has_each}
use Rattle.scenario.specs.Canonical.{cell_names, name}
use Rattle.scenario_reader.specs.Reading.{step}
use Rattle.scenario_reader.specs.SiteLines.{are_cells, as_crossing, crossing_line, crossing_named, crossing_rows, flow_line, flow_rows, new_set_rows, old_set_rows, with_name}
use Rattle.scenario_reader.specs.States.{Declared, State, AmongSite}
use Rattle.scenario_reader.specs.Tables.{judged}
use Rattle.scenario_laws.proofs.RoundTrip.{bare_line, crossing_lines_of, flow_line_of, names_upto, steps}
use Rattle.scenario_laws.proofs.CanonicalLines.{name_words}
use Rattle.scenario_laws.proofs.CanonicalNames.{known_named, upto_found, upto_free}
use Rattle.scenario_laws.proofs.CellSteps.{IsNamedSite, bare_site, crossing_known, words_found, words_good, words_same}
use Rattle.scenario_laws.proofs.CrossingFacts.{claims_upto, few_crossings_with, with_first}
use Rattle.scenario_laws.proofs.RisingCells.{flow_apart, flow_cells, flow_in_order, flow_known, flow_no_repeat, flow_rise, flow_some, flow_within, rising_few, rising_in_order, rising_no_repeat}
use Rattle.scenario_laws.proofs.SiteNames.{covers_first, crossings_counted, crossings_more}
use Rattle.scenario_laws.proofs.SiteSteps.{each_step, each_steps, ground, same_ground, site_step, stands}
use Rattle.scenario_laws.proofs.StepLists.{fine, step_first}

-- a site of so many cells and these crossings
abbrev pub site_with : ℕ → List BuiltCrossing → BuiltSite
site_with n crossings = record { cells = n; crossings = crossings; areas = []; links = replicate n [] }

-- one crossing more, of rising cells
more_crossing : (n : ℕ) (front : List BuiltCrossing) (cells : List CellNo) → in_order n cells ≡ cells → with_crossing (site_with n front) cells ≡ site_with n (front ++ record { cells = cells; flows = [] } ∷ [])
more_crossing n front cells same = ap (λ cs. site_with n (front ++ record { cells = cs; flows = [] } ∷ [])) same

-- one flow more of the last crossing
last_crossing : (n : ℕ) (front : List BuiltCrossing) (y : BuiltCrossing) (k : ℕ) → length front ≡ k → crossing_at (site_with n (front ++ y ∷ [])) k ≡ y
last_crossing n front y k long = get_or_at front y [] no_crossing k long

more_flow : (n : ℕ) (front : List BuiltCrossing) (y z : BuiltCrossing) (k : ℕ) (flow : List CellNo) → length front ≡ k → in_order n flow ≡ flow → with_line y flow ≡ z → with_flow (site_with n (front ++ y ∷ [])) k flow ≡ site_with n (front ++ z ∷ [])
more_flow n front y z k flow long same more =
    ap (site_with n)
    (ap (λ x. set (front ++ y ∷ []) k (with_line x (in_order n flow))) (last_crossing n front y k long)
    ∙ ap (λ cs. set (front ++ y ∷ []) k (with_line y cs)) same
    ∙ set_at front y [] (with_line y flow) k long
    ∙ ap (λ x. front ++ x ∷ []) more)

module _ (names : Named) (site : BuiltSite) (count : ℕ) (given : IsNamedSite names site count) where
  -- crossing k, the crossings before it, and the site with crossing k as far as j of its flows
  abbrev x_at : ℕ → BuiltCrossing
  x_at k = get_or site.crossings k no_crossing

  abbrev site_before : ℕ → BuiltSite
  site_before k = site_with site.cells (take k site.crossings)

  abbrev site_within : ℕ → ℕ → BuiltSite
  site_within k j = site_with site.cells (take k site.crossings ++ with_first (x_at k) j ∷ [])

  valid_at : (k : ℕ) → k < length site.crossings → IsCrossingIn site.cells (x_at k)
  valid_at k within = All-get_or (IsCrossingIn site.cells) site.crossings k no_crossing within given.valid.crossed

  name_found : (k : ℕ) → k < length site.crossings → thing_of (names_upto names site.cells (k + 1) 0 0) (name names (things.Crossing k)) ≡ Some (things.Crossing k)
  name_found k within =
      upto_found names site.cells (k + 1) 0 0 given.declared (covers_first names site count site.cells (k + 1) 0 given.all (omega arith) (omega arith) (omega arith)) (things.Crossing k) (omega arith)

  name_good : (k : ℕ) → k < length site.crossings → is_name (name names (things.Crossing k)) ≡ true
  name_good k within = (known_named names (things.Crossing k) given.declared (crossing_known names site count given k within)).good

  good_words : (cells : List CellNo) → All (λ c. c.0 < site.cells) cells → list_all is_name (cell_names names cells) ≡ true
  good_words cells known = words_good names site count given cells known

  first_step : (flows : Bool) (k : ℕ) → k < length site.crossings
      → step (AmongSite flows (ground names (site_before k) site.cells k 0)) (bare_line (codes "crossing") (name names (things.Crossing k) ∷ cell_names names (x_at k).cells)) ≡ Ok (AmongSite flows (ground names (site_within k 0) site.cells (k + 1) 0))
  first_step flows k within =
      let x : BuiltCrossing = x_at k in
      let own = valid_at k within in
      let known = own.cells.known in
      let w : List ℕ = name names (things.Crossing k) in
      let words : List (List ℕ) = w ∷ cell_names names x.cells in
      let d : Declared = ground names (site_before k) site.cells k 0 in
      let good : list_all is_name words ≡ true = and_from (is_name w) (list_all is_name (cell_names names x.cells)) (name_good k within) (good_words x.cells known) in
      let long : length words ≡ suc (length x.cells) = ap suc (length-map x.cells (λ c. name names (things.Cell c.0))) in
      let most = rising_few site.cells 0 x.cells own.cells.rise known in
      let some = own.cells.some in
      let cells_few = given.valid.few_cells in
      let crossings_few = given.valid.few_crossings in
      let free = upto_free names site.cells k 0 0 given.declared (covers_first names site count site.cells k 0 given.all (omega arith) (omega arith) (omega arith)) (things.Crossing k) (crossing_known names site count given k within) (omega arith) in
      let site' = more_crossing site.cells (take k site.crossings) x.cells (rising_in_order site.cells x.cells own.cells.rise known) in
      let front_long : length (take k site.crossings) ≡ k = length-take-le k site.crossings (omega arith) in
      let claims : has_too_many_claims (with_crossing d.site x.cells) ≡ false =
      ap (λ (s : BuiltSite). has_too_many_claims s) site'
      ∙ le-ltb 256 (crossing_claims (map completed (take k site.crossings ++ with_first x 0 ∷ []))) (claims_upto site k 0 (length x.flows) given.valid within (omega arith)) in
      let out : List CellNo → Declared = λ cells. record d { site = with_crossing d.site cells; names = with_name d.names w (things.Crossing (count_of is_crossing d.names)) } in
      site_step flows d (ground names (site_within k 0) site.cells (k + 1) 0) (codes "crossing") words (crossing_line d words) (stands flows _ _) (refl, name_words words good) (omega arith)
      (ap (λ (cells : List CellNo). judged (new_set_rows d.names words ++ crossing_rows d.site cells) (out cells)) (words_same names site count given k 0 x.cells (omega arith) (omega arith) known)
      ∙ fine (new_set_rows d.names words ++ crossing_rows d.site x.cells) (out x.cells) (
        le-ltb (length words) 2 (omega arith),
        (
          not_from_true (list_all is_name words) good,
          (
            ap (λ (o : Option Thing). is_some o) free,
            (
              not_from_true (are_cells d.names (cell_names names x.cells)) (words_found names site count given k 0 x.cells (omega arith) (omega arith) known),
              (
                rising_no_repeat 0 x.cells own.cells.rise,
                (
                  or_from (leb 256 (length (take k site.crossings))) (has_too_many_claims (with_crossing d.site x.cells)) (lt-leb 256 (length (take k site.crossings)) (omega arith)) claims,
                  (few_crossings_with site k given.valid within, tt),
                ),
              ),
            ),
          ),
        ),
      )
      ∙ same_ground _ (site_within k 0) _ (names_upto names site.cells (k + 1) 0 0) site'
      (ap (λ n. names_upto names site.cells k 0 0 ++ (w, things.Crossing n) ∷ []) (crossings_counted names site.cells k) ∙ sym (crossings_more names site.cells k)))

  -- one flow more
  flow_site : (k j : ℕ) → k < length site.crossings → j < length (x_at k).flows → with_flow (site_within k j) k (get_or (x_at k).flows j []) ≡ site_within k (j + 1)
  flow_site k j within flow_in =
      more_flow site.cells (take k site.crossings) (with_first (x_at k) j) (with_first (x_at k) (j + 1)) k (get_or (x_at k).flows j [])
      (length-take-le k site.crossings (omega arith))
      (flow_in_order site.cells (x_at k) (valid_at k within) j flow_in)
      (ap (λ (flows : List (List CellNo)). let x : BuiltCrossing = record { cells = (x_at k).cells; flows = flows } in x) (sym (take_more (x_at k).flows j [] flow_in)))

  -- its cells are in the crossing and in no flow before it
  flow_own : (k j : ℕ) → k < length site.crossings → j < length (x_at k).flows
      → list_any (λ c. not (has_cell (crossing_at (site_within k j) k).cells c) || in_flow (crossing_at (site_within k j) k).flows c) (get_or (x_at k).flows j []) ≡ false
  flow_own k j within flow_in =
      let x : BuiltCrossing = x_at k in
      let own = valid_at k within in
      let flow : List CellNo = get_or x.flows j [] in
      let long : length (take j x.flows) ≡ j = length-take-le j x.flows (omega arith) in
      ap (λ (y : BuiltCrossing). list_any (λ c. not (has_cell y.cells c) || in_flow y.flows c) flow) (last_crossing site.cells (take k site.crossings) (with_first x j) k (length-take-le k site.crossings (omega arith)))
      ∙ list_any_none (λ c. not (has_cell x.cells c) || in_flow (take j x.flows) c) flow
      (All-weaker (λ c. has_cell flow c ≡ true) (λ c. (not (has_cell x.cells c) || in_flow (take j x.flows) c) ≡ false)
      (λ c has.
      or_from (not (has_cell x.cells c)) (in_flow (take j x.flows) c)
      (not_from_true (has_cell x.cells c) (flow_within site.cells x own j c flow_in has))
      (list_any_none (λ f. has_cell f c) (take j x.flows)
      (All-from_get_or (λ f. has_cell f c ≡ false) (take j x.flows) []
      (λ i below. ap (λ f. has_cell f c) (get_or-take j x.flows i [] (omega arith)) ∙ flow_apart site.cells x own i j c (omega arith) flow_in has))))
      flow (has_each flow))

  -- the line of a flow, by its cells
  flow_words_step : (k j : ℕ) → k < length site.crossings → j < length (x_at k).flows
      → step (AmongSite true (ground names (site_within k j) site.cells (k + 1) 0)) (bare_line (codes "flow") (name names (things.Crossing k) ∷ cell_names names (get_or (x_at k).flows j []))) ≡ Ok (AmongSite true (ground names (site_within k (j + 1)) site.cells (k + 1) 0))
  flow_words_step k j within flow_in =
      let x : BuiltCrossing = x_at k in
      let own = valid_at k within in
      let flow : List CellNo = get_or x.flows j [] in
      let known = flow_known site.cells x own j flow_in in
      let rise = flow_rise site.cells x own j flow_in in
      let w : List ℕ = name names (things.Crossing k) in
      let words : List (List ℕ) = w ∷ cell_names names flow in
      let d : Declared = ground names (site_within k j) site.cells (k + 1) 0 in
      let good : list_all is_name words ≡ true = and_from (is_name w) (list_all is_name (cell_names names flow)) (name_good k within) (good_words flow known) in
      let long : length words ≡ suc (length flow) = ap suc (length-map flow (λ c. name names (things.Cell c.0))) in
      let most = rising_few site.cells 0 flow rise known in
      let some = flow_some site.cells x own j flow_in in
      let cells_few = given.valid.few_cells in
      let site' = flow_site k j within flow_in in
      let claims : has_too_many_claims (with_flow d.site k flow) ≡ false =
      ap (λ (s : BuiltSite). has_too_many_claims s) site'
      ∙ le-ltb 256 (crossing_claims (map completed (take k site.crossings ++ with_first x (j + 1) ∷ []))) (claims_upto site k (j + 1) (length x.flows - (j + 1)) given.valid within (omega arith)) in
      let named : crossing_named d.names w ≡ Some k = ap as_crossing (name_found k within) in
      let out : ℕ → List CellNo → Declared = λ i cells. record d { site = with_flow d.site i cells } in
      site_step true d (ground names (site_within k (j + 1)) site.cells (k + 1) 0) (codes "flow") words (flow_line d words) refl (refl, name_words words good) (omega arith)
      (ap (λ (cells : List CellNo). judged (old_set_rows d.names words ++ flow_rows d.site (unwrap_or (crossing_named d.names w) 0) cells) (out (unwrap_or (crossing_named d.names w) 0) cells)) (words_same names site count given (k + 1) 0 flow (omega arith) (omega arith) known)
      ∙ ap (λ (o : Option ℕ). judged (old_set_rows d.names words ++ flow_rows d.site (unwrap_or o 0) flow) (out (unwrap_or o 0) flow)) named
      ∙ fine (old_set_rows d.names words ++ flow_rows d.site k flow) (out k flow) (
        le-ltb (length words) 2 (omega arith),
        (
          not_from_true (list_all is_name words) good,
          (
            not_from_true (is_some (crossing_named d.names w) && are_cells d.names (cell_names names flow))
                (and_from (is_some (crossing_named d.names w)) (are_cells d.names (cell_names names flow)) (ap (λ (o : Option ℕ). is_some o) named) (words_found names site count given (k + 1) 0 flow (omega arith) (omega arith) known)),
            (flow_no_repeat site.cells x own j flow_in, (claims, (flow_own k j within flow_in, tt))),
          ),
        ),
      )
      ∙ same_ground _ (site_within k (j + 1)) _ (names_upto names site.cells (k + 1) 0 0) site' refl)

  flow_step : (flows : Bool) (k j : ℕ) → flows ≡ true → k < length site.crossings → j < length (x_at k).flows
      → step (AmongSite flows (ground names (site_within k j) site.cells (k + 1) 0)) (flow_line_of names k (x_at k) j) ≡ Ok (AmongSite flows (ground names (site_within k (j + 1)) site.cells (k + 1) 0))
  flow_step flows k j may within flow_in =
      subst (λ b. step (AmongSite b (ground names (site_within k j) site.cells (k + 1) 0)) (flow_line_of names k (x_at k) j) ≡ Ok (AmongSite b (ground names (site_within k (j + 1)) site.cells (k + 1) 0))) (sym may)
      (ap (λ (cells : List CellNo). step (AmongSite true (ground names (site_within k j) site.cells (k + 1) 0)) (bare_line (codes "flow") (name names (things.Crossing k) ∷ cell_names names cells))) (flow_cells site.cells (x_at k) (valid_at k within) j flow_in)
      ∙ flow_words_step k j within flow_in)

  -- a crossing with all its flows
  whole_site : (k : ℕ) → k < length site.crossings → site_within k (length (x_at k).flows) ≡ site_before (k + 1)
  whole_site k within =
      ap (λ (flows : List (List CellNo)). site_with site.cells (take k site.crossings ++ record { cells = (x_at k).cells; flows = flows } ∷ [])) (take_all (length (x_at k).flows) (x_at k).flows (omega arith))
      ∙ ap (site_with site.cells) (sym (take_more site.crossings k no_crossing within))

  crossing_steps : (flows : Bool) (k : ℕ) → (0 < length (x_at k).flows → flows ≡ true) → k < length site.crossings
      → steps (AmongSite flows (ground names (site_before k) site.cells k 0)) (crossing_lines_of names site k) ≡ Ok (AmongSite flows (ground names (site_before (k + 1)) site.cells (k + 1) 0))
  crossing_steps flows k may within =
      step_first (AmongSite flows (ground names (site_before k) site.cells k 0)) (AmongSite flows (ground names (site_within k 0) site.cells (k + 1) 0)) (bare_line (codes "crossing") (name names (things.Crossing k) ∷ cell_names names (x_at k).cells)) (map (flow_line_of names k (x_at k)) (numbers_below (length (x_at k).flows))) (first_step flows k within)
      ∙ each_step (λ j. AmongSite flows (ground names (site_within k j) site.cells (k + 1) 0)) (flow_line_of names k (x_at k)) (length (x_at k).flows) (λ j flow_in. flow_step flows k j (may (omega arith)) within flow_in)
      ∙ ap (λ (s : BuiltSite). let r : Result State Code = Ok (AmongSite flows (ground names s site.cells (k + 1) 0)) in r) (whole_site k within)

  pub crossings_read : (flows : Bool) → ((k : ℕ) → k < length site.crossings → 0 < length (x_at k).flows → flows ≡ true)
      → steps (AmongSite flows (ground names (bare_site site.cells) site.cells 0 0)) (flat_map (crossing_lines_of names site) (numbers_below (length site.crossings)))
      ≡ Ok (AmongSite flows (ground names (site_with site.cells site.crossings) site.cells (length site.crossings) 0))
  crossings_read flows may =
      each_steps (λ k. AmongSite flows (ground names (site_before k) site.cells k 0)) (crossing_lines_of names site) (length site.crossings) (λ k within. crossing_steps flows k (may k within) within)
      ∙ ap (λ (xs : List BuiltCrossing). let r : Result State Code = Ok (AmongSite flows (ground names (site_with site.cells xs) site.cells (length site.crossings) 0)) in r) (take_all (length site.crossings) site.crossings (omega arith))
