-- The lines of links are read again.
use Rattle.std.proofs.Common.{◌≡◌, ℕ, zero, suc, ◌+◌, ◌-◌, ◌<◌, ◌≤◌, Bool, true, false, cond, eqb, leb, ◌&&◌, List, [], ◌∷◌, ◌++◌, length, map, take, get_or, replicate, set, Option, Ok, Result, refl, sym, ap, subst, ◌∙◌, append_assoc, append-nil, arith}
use Rattle.std.specs.Prelude.{All, codes, flat_map}
use Rattle.std.specs.Fmt.{decimal}
use Rattle.std.specs.List.{list_any}
use Rattle.std.specs.Option.{is_some, unwrap_or}
use Rattle.std.specs.Str.Parse.{digits_value}
use Rattle.std.proofs.lemmas.Bool.{and_from, le-leb, lt-leb, lt-ltb, ne_eqb, not_from_true, or_from, or_parts}
use Rattle.std.proofs.lemmas.List.{get_or_at, length-append, length-take-le, set_at, take_all, take_more}
use Rattle.std.proofs.lemmas.List.Elements.{All-cons, All-get_or, All-head, All-nil, All-tail}
use Rattle.fleet_base.specs.declared.numbers.CellNo.{CellNo}
use Rattle.fleet_base.specs.declared.numbers.Link.{Link}
use Rattle.fleet_model.specs.Lists.{numbers_below}
use Rattle.fleet_names.specs.declared.thing.Thing.{Thing}
use Rattle.fleet_names.specs.declared.thing.Thing.TheVariants as things
use Rattle.fleet_names.specs.Names.{Named, is_name}
use Rattle.site_lines.specs.declared.fault.Code.{Code}
use Rattle.site_lines.specs.Numbers.{is_number}
use Rattle.site_map.specs.Built.{BuiltSite, link_total, links_at, with_link}
use Rattle.site_map.specs.Cells.{LinksRise, with_one_more}
use Rattle.site_map.specs.Inside.{AreLinks}
use Rattle.site_map.proofs.CellLemmas.{eqb_turned}
use Rattle.site_map.proofs.SiteLemmas.{links_at_cell}
use Rattle.scenario.specs.Canonical.{name}
use Rattle.scenario_reader.specs.Reading.{step}
use Rattle.scenario_reader.specs.SiteLines.{are_cells, as_cell, cell_at, cell_named, ends_rows, has_link, link_line, link_rows, linked}
use Rattle.scenario_reader.specs.States.{Declared, State, AmongSite}
use Rattle.scenario_reader.specs.Tables.{judged}
use Rattle.scenario_laws.proofs.RoundTrip.{link_line_of, link_lines_of, names_upto, steps}
use Rattle.scenario_laws.proofs.CanonicalLines.{number_is, number_named, number_value}
use Rattle.scenario_laws.proofs.CellSteps.{IsNamedSite, cell_found, cell_good}
use Rattle.scenario_laws.proofs.SiteSteps.{each_steps, ground, same_ground, site_step, stands}
use Rattle.scenario_laws.proofs.StepLists.{fine, step_first}

-- among links that rise, a link is above those before it
above_low : (low : ℕ) (links : List Link) (link : Link) (rest : List Link) → LinksRise low (links ++ link ∷ rest) → low ≤ link.to.0
above_low low [] link rest rise = rise.0
above_low low (l ∷ ls) link rest rise = let first = rise.0 in let later = above_low (l.to.0 + 1) ls link rest rise.1 in omega arith

-- so it comes behind them
last_place : (low : ℕ) (links : List Link) (link : Link) (rest : List Link) → LinksRise low (links ++ link ∷ rest) → with_one_more links link ≡ links ++ link ∷ []
last_place low [] link rest rise = refl
last_place low (l ∷ ls) link rest rise =
    let above = above_low (l.to.0 + 1) ls link rest rise.1 in
    ap (λ b. cond b (l ∷ with_one_more ls link) (link ∷ l ∷ ls)) (lt-ltb l.to.0 link.to.0 (omega arith)) ∙ ap (λ more. l ∷ more) (last_place (l.to.0 + 1) ls link rest rise.1)

-- and none of them leads where it leads
none_before : (low : ℕ) (links : List Link) (link : Link) (rest : List Link) → LinksRise low (links ++ link ∷ rest) → list_any (λ l. eqb l.to.0 link.to.0) links ≡ false
none_before low [] link rest rise = refl
none_before low (l ∷ ls) link rest rise =
    let above = above_low (l.to.0 + 1) ls link rest rise.1 in
    or_from (eqb l.to.0 link.to.0) (list_any (λ m. eqb m.to.0 link.to.0) ls) (ne_eqb l.to.0 link.to.0 (λ same. absurd (omega arith))) (none_before (l.to.0 + 1) ls link rest rise.1)

-- how many links rows have
total_both : (xs ys : List (List Link)) → link_total (xs ++ ys) ≡ link_total xs + link_total ys
total_both [] ys = omega arith
total_both (x ∷ xs) ys = let rest = total_both xs ys in omega arith

total_none : (n : ℕ) → link_total (replicate n []) ≡ 0
total_none zero = refl
total_none (suc n) = let rest = total_none n in omega arith

total_front : (xs : List (List Link)) (k : ℕ) → link_total (take k xs) ≤ link_total xs
total_front [] zero = omega arith
total_front [] (suc k) = omega arith
total_front (x ∷ xs) zero = omega arith
total_front (x ∷ xs) (suc k) = let rest = total_front xs k in omega arith

total_row : (xs : List (List Link)) (k : ℕ) → k < length xs → link_total (take k xs) + length (get_or xs k []) ≤ link_total xs
total_row xs k within =
    let more = ap link_total (take_more xs k [] within) ∙ total_both (take k xs) (get_or xs k [] ∷ []) in
    let front = total_front xs (k + 1) in
    omega arith

-- a link as a row of cell k has it
record IsLinkOf (n k : ℕ) (link : Link) : Type 0 where
  known : link.to.0 < n
  other : eqb k link.to.0 ≡ false
  cost_some : 1 ≤ link.cost
  cost_few : link.cost ≤ 1000000

each_link : (n k : ℕ) (links : List Link) → All (λ l. l.to.0 < n) links → All (λ l. (1 ≤ l.cost) × (l.cost ≤ 1000000)) links → list_any (λ l. eqb l.to.0 k) links ≡ false → All (IsLinkOf n k) links
each_link n k [] known costs none = All-nil (IsLinkOf n k)
each_link n k (l ∷ ls) known costs none =
    let parts = or_parts (eqb l.to.0 k) (list_any (λ m. eqb m.to.0 k) ls) none in
    let cost : (1 ≤ l.cost) × (l.cost ≤ 1000000) = All-head (λ m. (1 ≤ m.cost) × (m.cost ≤ 1000000)) l ls costs in
    All-cons (IsLinkOf n k) l ls (record {
      known = All-head (λ m. m.to.0 < n) l ls known;
      other = eqb_turned k l.to.0 ∙ parts.0;
      cost_some = cost.0;
      cost_few = cost.1;
    })
    (each_link n k ls (All-tail (λ m. m.to.0 < n) l ls known) (All-tail (λ m. (1 ≤ m.cost) × (m.cost ≤ 1000000)) l ls costs) parts.1)

module _ (names : Named) (site : BuiltSite) (count : ℕ) (given : IsNamedSite names site count) where
  -- the site with these links
  abbrev site_with : List (List Link) → BuiltSite
  site_with links = record { cells = site.cells; crossings = site.crossings; areas = site.areas; links = links }

  abbrev declared_with : List (List Link) → Declared
  declared_with links = ground names (site_with links) site.cells (length site.crossings) (length site.areas)

  -- the rows before k and these links of cell k
  abbrev rows_within : ℕ → List Link → List (List Link)
  rows_within k links = take k site.links ++ links ∷ replicate (site.cells - (k + 1)) []

  abbrev row : ℕ → List Link
  row k = get_or site.links k []

  front_long : (k : ℕ) → k < site.cells → length (take k site.links) ≡ k
  front_long k within = let all = given.valid.rows in length-take-le k site.links (omega arith)

  row_now : (k : ℕ) (links : List Link) → k < site.cells → links_at (site_with (rows_within k links)) (record { 0 = k }) ≡ links
  row_now k links within = get_or_at (take k site.links) links (replicate (site.cells - (k + 1)) []) [] k (front_long k within)

  -- one link more
  more_link : (k : ℕ) (links : List Link) (link : Link) (rest : List Link) → k < site.cells → LinksRise 0 (links ++ link ∷ rest) → with_link (site_with (rows_within k links)) (record { 0 = k }) link ≡ site_with (rows_within k (links ++ link ∷ []))
  more_link k links link rest within rise =
      ap site_with
      (ap (λ (now : List Link). set (rows_within k links) k (with_one_more now link)) (row_now k links within)
      ∙ ap (λ (now : List Link). set (rows_within k links) k now) (last_place 0 links link rest rise)
      ∙ set_at (take k site.links) links (replicate (site.cells - (k + 1)) []) (links ++ link ∷ []) k (front_long k within))

  total_now : (k : ℕ) (links : List Link) (link : Link) (rest : List Link) → k < site.cells → length links + suc (length rest) ≡ length (row k) → link_total (rows_within k links) < 8192
  total_now k links link rest within long =
      let all = given.valid.rows in
      let few = given.valid.few_links in
      let here = total_row site.links k (omega arith) in
      let now = total_both (take k site.links) (links ∷ replicate (site.cells - (k + 1)) []) in
      let none = total_none (site.cells - (k + 1)) in
      omega arith

  link_step : (flows : Bool) (k : ℕ) (links : List Link) (link : Link) (rest : List Link) → k < site.cells → LinksRise 0 (links ++ link ∷ rest) → length links + suc (length rest) ≡ length (row k) → IsLinkOf site.cells k link
      → step (AmongSite flows (declared_with (rows_within k links))) (link_line_of names k link) ≡ Ok (AmongSite flows (declared_with (rows_within k (links ++ link ∷ []))))
  link_step flows k links link rest within rise long own =
      let wa : List ℕ = name names (things.Cell k) in
      let wb : List ℕ = name names (things.Cell link.to.0) in
      let wc : List ℕ = decimal link.cost in
      let words : List (List ℕ) = wa ∷ wb ∷ wc ∷ [] in
      let a : CellNo = record { 0 = k } in
      let d : Declared = declared_with (rows_within k links) in
      let good_a = cell_good names site count given k within in
      let good_b = cell_good names site count given link.to.0 own.known in
      let found_a = cell_found names site count given (length site.crossings) (length site.areas) (omega arith) (omega arith) k within in
      let found_b = cell_found names site count given (length site.crossings) (length site.areas) (omega arith) (omega arith) link.to.0 own.known in
      let a_is : cell_at d.names wa ≡ a = ap (λ (o : Option Thing). unwrap_or (as_cell o) (record { 0 = 0 })) found_a in
      let b_is : cell_at d.names wb ≡ link.to = ap (λ (o : Option Thing). unwrap_or (as_cell o) (record { 0 = 0 })) found_b in
      let cost_is : digits_value 10 wc ≡ link.cost = number_value link.cost own.cost_few in
      let out : CellNo → CellNo → ℕ → Declared = λ from to cost. record d { site = linked d.site from to cost } in
      let due : CellNo → CellNo → ℕ → Result Declared Code = λ from to cost. judged (ends_rows d.names words ++ link_rows d.site from to) (out from to cost) in
      let in_range : (leb 1 (digits_value 10 wc) && leb (digits_value 10 wc) 1000000) ≡ true =
      ap (λ n. leb 1 n && leb n 1000000) cost_is ∙ and_from (leb 1 link.cost) (leb link.cost 1000000) (le-leb 1 link.cost own.cost_some) (le-leb link.cost 1000000 own.cost_few) in
      site_step flows d (declared_with (rows_within k (links ++ link ∷ []))) (codes "link") words (link_line d words) (stands flows _ _) (refl, (good_a, (good_b, (number_named link.cost own.cost_few, tt)))) (omega arith)
      (ap (λ (from : CellNo). due from (cell_at d.names wb) (digits_value 10 wc)) a_is
      ∙ ap (λ (to : CellNo). due a to (digits_value 10 wc)) b_is
      ∙ ap (due a link.to) cost_is
      ∙ fine (ends_rows d.names words ++ link_rows d.site a link.to) (out a link.to link.cost) (
        refl,
        (
          refl,
          (
            not_from_true (is_name wa && (is_name wb && true)) (and_from (is_name wa) (is_name wb && true) good_a (and_from (is_name wb) true good_b refl)),
            (
              not_from_true (is_number 9 wc) (number_is link.cost own.cost_few),
              (
                not_from_true (leb 1 (digits_value 10 wc) && leb (digits_value 10 wc) 1000000) in_range,
                (
                  not_from_true (are_cells d.names (wa ∷ wb ∷ []))
                      (and_from (is_some (cell_named d.names wa)) (is_some (cell_named d.names wb) && true) (ap (λ (o : Option Thing). is_some (as_cell o)) found_a)
                      (and_from (is_some (cell_named d.names wb)) true (ap (λ (o : Option Thing). is_some (as_cell o)) found_b) refl)),
                  (
                    lt-leb 8192 (link_total (rows_within k links)) (total_now k links link rest within long),
                    (
                      or_from (eqb k link.to.0) (has_link d.site a link.to) own.other
                          (ap (λ (now : List Link). list_any (λ l. eqb l.to.0 link.to.0) now) (row_now k links within) ∙ none_before 0 links link rest rise),
                      tt,
                    ),
                  ),
                ),
              ),
            ),
          ),
        ),
      )
      ∙ same_ground _ (site_with (rows_within k (links ++ link ∷ []))) _ (names_upto names site.cells (length site.crossings) (length site.areas) 0) (more_link k links link rest within rise) refl)

  row_steps : (flows : Bool) (k : ℕ) (links rest : List Link) → k < site.cells → LinksRise 0 (links ++ rest) → length links + length rest ≡ length (row k) → All (IsLinkOf site.cells k) rest
      → steps (AmongSite flows (declared_with (rows_within k links))) (map (link_line_of names k) rest) ≡ Ok (AmongSite flows (declared_with (rows_within k (links ++ rest))))
  row_steps flows k links [] within rise long own = ap (λ (now : List Link). let r : Result State Code = Ok (AmongSite flows (declared_with (rows_within k now))) in r) (sym (append-nil links))
  row_steps flows k links (link ∷ rest) within rise long own =
      let again = append_assoc links (link ∷ []) rest in
      let longer = length-append links (link ∷ []) in
      step_first (AmongSite flows (declared_with (rows_within k links))) (AmongSite flows (declared_with (rows_within k (links ++ link ∷ [])))) (link_line_of names k link) (map (link_line_of names k) rest)
      (link_step flows k links link rest within rise long (All-head (IsLinkOf site.cells k) link rest own))
      ∙ row_steps flows k (links ++ link ∷ []) rest within (subst (LinksRise 0) (sym again) rise) (omega arith) (All-tail (IsLinkOf site.cells k) link rest own)
      ∙ ap (λ (now : List Link). let r : Result State Code = Ok (AmongSite flows (declared_with (rows_within k now))) in r) again

  -- the rows before k, and none behind
  abbrev rows_before : ℕ → List (List Link)
  rows_before k = take k site.links ++ replicate (site.cells - k) []

  row_begins : (k : ℕ) → k < site.cells → rows_before k ≡ rows_within k []
  row_begins k within = let one : site.cells - k ≡ suc (site.cells - (k + 1)) = omega arith in ap (λ n. take k site.links ++ replicate n []) one

  row_ends : (k : ℕ) → k < site.cells → rows_within k (row k) ≡ rows_before (k + 1)
  row_ends k within =
      let all = given.valid.rows in
      let back : List (List Link) = replicate (site.cells - (k + 1)) [] in
      sym (append_assoc (take k site.links) (row k ∷ []) back) ∙ ap (λ (rows : List (List Link)). rows ++ back) (sym (take_more site.links k [] (omega arith)))

  link_steps : (flows : Bool) (k : ℕ) → k < site.cells → steps (AmongSite flows (declared_with (rows_before k))) (link_lines_of names site k) ≡ Ok (AmongSite flows (declared_with (rows_before (k + 1))))
  link_steps flows k within =
      let all = given.valid.rows in
      let own : AreLinks site.cells (row k) = All-get_or (AreLinks site.cells) site.links k [] (omega arith) given.valid.linked in
      let each = each_link site.cells k (row k) own.known own.costs (given.valid.unlooped (record { 0 = k })) in
      ap (λ (rows : List (List Link)). steps (AmongSite flows (declared_with rows)) (link_lines_of names site k)) (row_begins k within)
      ∙ ap (λ (links : List Link). steps (AmongSite flows (declared_with (rows_within k []))) (map (link_line_of names k) links)) (links_at_cell site (record { 0 = k }))
      ∙ row_steps flows k [] (row k) within own.rise (omega arith) each
      ∙ ap (λ (rows : List (List Link)). let r : Result State Code = Ok (AmongSite flows (declared_with rows)) in r) (row_ends k within)

  pub links_read : (flows : Bool)
      → steps (AmongSite flows (declared_with (replicate site.cells []))) (flat_map (link_lines_of names site) (numbers_below site.cells)) ≡ Ok (AmongSite flows (declared_with site.links))
  links_read flows =
      let all = given.valid.rows in
      let none : site.cells - 0 ≡ site.cells = omega arith in
      let gone : site.cells - site.cells ≡ 0 = omega arith in
      ap (λ n. steps (AmongSite flows (declared_with (replicate n []))) (flat_map (link_lines_of names site) (numbers_below site.cells))) (sym none)
      ∙ each_steps (λ k. AmongSite flows (declared_with (rows_before k))) (link_lines_of names site) site.cells (λ k within. link_steps flows k within)
      ∙ ap (λ (rows : List (List Link)). let r : Result State Code = Ok (AmongSite flows (declared_with rows)) in r)
      (ap (λ n. take site.cells site.links ++ replicate n []) gone ∙ append-nil (take site.cells site.links) ∙ take_all site.cells site.links (omega arith))
