-- What a site keeps while its lines are read, and that it is valid once it is closed.
use Rattle.std.proofs.Common.{◌≡◌, ⊎_elim, ℕ, zero, suc, ◌+◌, ◌<◌, ◌≤◌, Bool, true, false, cond, not, ◌&&◌, ◌||◌, eqb, leb, List, [], ◌∷◌, length, map, get_or, set, refl, sym, ap, subst, ◌∙◌, arith}
use Rattle.std.specs.Prelude.{All}
use Rattle.std.specs.List.{list_any}
use Rattle.std.proofs.lemmas.Bool.{cases_Bool, cases_eq, cases_lt, false≢true, leb-false, ltb-false, not-false, or_parts}
use Rattle.std.proofs.lemmas.List.{get_or-set_other, get_or-set_same, length-map, length-set, length_push}
use Rattle.std.proofs.lemmas.List.Elements.{All-cons, All-get_or, All-head, All-map, All-nil, All-push, All-set, All-tail, All-weaker}
use Rattle.std.proofs.lemmas.List.Folds.{list_any_none}
use Rattle.fleet_model.specs.Lists.{has_cell}
use Rattle.fleet_base.specs.declared.limits.TheConstants.{MAX_AREAS, MAX_CELLS, MAX_COST, MAX_CROSSINGS, MAX_CROSSINGS_OF_CELL, MAX_LINKS}
use Rattle.fleet_base.specs.declared.numbers.CellNo.{CellNo}
use Rattle.fleet_base.specs.declared.numbers.Link.{Link}
use Rattle.site_map.specs.declared.refused.TheConstants.{MAX_CROSSING_CLAIMS}
use Rattle.site_map.specs.Built.{BuiltSite, completed_site, crossing_at, crossings_with, link_total, no_crossing, no_site, with_area, with_cell, with_crossing, with_flow, with_link}
use Rattle.site_map.specs.Cells.{are_known, in_order, with_one_more}
use Rattle.site_map.specs.Crossings.{BuiltCrossing, completed, crossing_claims, in_flow, with_line}
use Rattle.site_map.specs.Inside.{AreCells, AreLines, AreLinks}
use Rattle.site_map.specs.Refusals.{has_too_many_claims}
use Rattle.site_map.specs.Valid.{IsCrossingIn, is_looped, IsValidSite}
use Rattle.site_map.proofs.BuilderLemmas.{AreCells-grown, AreLines-line, AreLines-none, AreLinks-grown, AreLinks-none, get_or_blank, link_total_push, missing}
use Rattle.site_map.proofs.CellLemmas.{AreCells-in_order, has_cell-in_order, none_has}
use Rattle.site_map.proofs.LinkLemmas.{All-with_one_more, LinksRise-with_one_more}
use Rattle.site_map.proofs.ValidLemmas.{crossings_in, crossings_with-completed}
use Rattle.scenario_reader.specs.SiteLines.{has_link}
use Rattle.scenario_reader.proofs.Links.{link_total-link}
use Rattle.scenario_laws.proofs.CrossingFacts.{with_append}

-- the parts of a site are valid, and its flows are lines that the rest will complete
pub record IsPart (site : BuiltSite) : Type 0 where
  pub few_cells : site.cells ≤ MAX_CELLS
  pub few_links : link_total site.links ≤ MAX_LINKS
  pub few_crossings : length site.crossings ≤ MAX_CROSSINGS
  pub few_areas : length site.areas ≤ MAX_AREAS
  pub few_claims : crossing_claims (map completed site.crossings) ≤ MAX_CROSSING_CLAIMS
  pub rows : length site.links ≡ site.cells
  pub linked : All (AreLinks site.cells) site.links
  pub unlooped : (c : CellNo) → is_looped site c ≡ false
  pub crossed : All (λ x. AreCells site.cells x.cells) site.crossings
  pub lined : All AreLines site.crossings
  pub twice : (c : CellNo) → c.0 < site.cells → crossings_with site.crossings c ≤ MAX_CROSSINGS_OF_CELL
  pub gathered : All (AreCells site.cells) site.areas

pub no_part : IsPart no_site
no_part = record {
  few_cells = omega arith;
  few_links = omega arith;
  few_crossings = omega arith;
  few_areas = omega arith;
  few_claims = omega arith;
  rows = refl;
  linked = All-nil (AreLinks 0);
  unlooped = λ c. refl;
  crossed = All-nil (λ x. AreCells 0 x.cells);
  lined = All-nil AreLines;
  twice = λ c known. omega arith;
  gathered = All-nil (AreCells 0);
}

-- a cell more
one_or_none : (b : Bool) → (let n : ℕ = cond b 1 0 in n ≤ 1)
one_or_none true = omega arith
one_or_none false = omega arith

no_one : (b : Bool) → b ≡ false → (let n : ℕ = cond b 1 0 in n ≡ 0)
no_one true is = absurd (false≢true (sym is))
no_one false is = refl

crossed_by_none : (n : ℕ) (xs : List BuiltCrossing) (c : CellNo) → All (λ x. AreCells n x.cells) xs → n ≤ c.0 → crossings_with xs c ≡ 0
crossed_by_none n [] c all past = refl
crossed_by_none n (x ∷ xs) c all past =
    let rest = crossed_by_none n xs c (All-tail (λ y. AreCells n y.cells) x xs all) past in
    let none = no_one (has_cell x.cells c) (missing n x.cells c (All-head (λ y. AreCells n y.cells) x xs all) past) in
    omega arith

pub cell_part : (site : BuiltSite) → IsPart site → site.cells < 1024 → IsPart (with_cell site)
cell_part site part room = record {
  few_cells = omega arith;
  few_links = let same = link_total_push site.links in let few = part.few_links in omega arith;
  few_crossings = part.few_crossings;
  few_areas = part.few_areas;
  few_claims = part.few_claims;
  rows = let long = length_push site.links [] in let all = part.rows in omega arith;
  linked = All-push (AreLinks (site.cells + 1)) site.links [] (All-weaker (AreLinks site.cells) (AreLinks (site.cells + 1)) (AreLinks-grown site.cells) site.links part.linked) (AreLinks-none (site.cells + 1));
  unlooped = λ c. ap (λ (ls : List Link). list_any (λ l. eqb l.to.0 c.0) ls) (get_or_blank site.links c.0) ∙ part.unlooped c;
  crossed = All-weaker (λ x. AreCells site.cells x.cells) (λ x. AreCells (site.cells + 1) x.cells) (λ x are. AreCells-grown site.cells x.cells are) site.crossings part.crossed;
  lined = part.lined;
  twice = λ c known.
      ⊎_elim
      (λ below. part.twice c below)
      (λ past. let none = crossed_by_none site.cells site.crossings c part.crossed past in omega arith)
      (cases_lt c.0 site.cells);
  gathered = All-weaker (AreCells site.cells) (AreCells (site.cells + 1)) (AreCells-grown site.cells) site.areas part.gathered;
}

-- a crossing more
crossed_more : (site : BuiltSite) (cells : List CellNo) (c : CellNo) → IsPart site → are_known site.cells cells ≡ true → list_any (λ d. leb 2 (crossings_with site.crossings d)) cells ≡ false → c.0 < site.cells
    → crossings_with (with_crossing site cells).crossings c ≤ 2
crossed_more site cells c part known free below =
    let new : List CellNo = in_order site.cells cells in
    let more = with_append site.crossings (record { cells = new; flows = [] } ∷ []) c in
    let most = part.twice c below in
    let one = one_or_none (has_cell new c) in
    ⊎_elim
    (λ has.
    let had : has_cell cells c ≡ true = sym (has_cell-in_order site.cells cells c known) ∙ has in
    let less = leb-false 2 (crossings_with site.crossings c) (none_has (λ d. leb 2 (crossings_with site.crossings d)) cells c free had) in
    omega arith)
    (λ out. let none = no_one (has_cell new c) out in omega arith)
    (cases_Bool (has_cell new c))

pub crossing_part : (site : BuiltSite) (cells : List CellNo) → IsPart site → are_known site.cells cells ≡ true → 0 < length cells → (leb 256 (length site.crossings) || has_too_many_claims (with_crossing site cells)) ≡ false
    → list_any (λ c. leb 2 (crossings_with site.crossings c)) cells ≡ false → IsPart (with_crossing site cells)
crossing_part site cells part known some room free =
    let rooms = or_parts (leb 256 (length site.crossings)) (has_too_many_claims (with_crossing site cells)) room in
    let new : BuiltCrossing = record { cells = in_order site.cells cells; flows = [] } in
    record {
      few_cells = part.few_cells;
      few_links = part.few_links;
      few_crossings = let long = length_push site.crossings new in let less = leb-false 256 (length site.crossings) rooms.0 in omega arith;
      few_areas = part.few_areas;
      few_claims = ltb-false 256 (crossing_claims (map completed (with_crossing site cells).crossings)) rooms.1;
      rows = part.rows;
      linked = part.linked;
      unlooped = part.unlooped;
      crossed = All-push (λ x. AreCells site.cells x.cells) site.crossings new part.crossed (AreCells-in_order site.cells cells known some);
      lined = All-push AreLines site.crossings new part.lined (AreLines-none (in_order site.cells cells));
      twice = λ c below. crossed_more site cells c part known free below;
      gathered = part.gathered;
    }

-- an area more
pub area_part : (site : BuiltSite) (cells : List CellNo) → IsPart site → are_known site.cells cells ≡ true → 0 < length cells → leb 256 (length site.areas) ≡ false → IsPart (with_area site cells)
area_part site cells part known some room = record {
  few_cells = part.few_cells;
  few_links = part.few_links;
  few_crossings = part.few_crossings;
  few_areas = let long = length_push site.areas (in_order site.cells cells) in let less = leb-false 256 (length site.areas) room in omega arith;
  few_claims = part.few_claims;
  rows = part.rows;
  linked = part.linked;
  unlooped = part.unlooped;
  crossed = part.crossed;
  lined = part.lined;
  twice = part.twice;
  gathered = All-push (AreCells site.cells) site.areas (in_order site.cells cells) part.gathered (AreCells-in_order site.cells cells known some);
}

-- a flow more
crossed_same : (xs : List BuiltCrossing) (k : ℕ) (y : BuiltCrossing) (c : CellNo) → y.cells ≡ (get_or xs k no_crossing).cells → k < length xs → crossings_with (set xs k y) c ≡ crossings_with xs c
crossed_same [] k y c same within = absurd (omega arith)
crossed_same (x ∷ xs) zero y c same within = ap (λ (cells : List CellNo). cond (has_cell cells c) 1 0 + crossings_with xs c) same
crossed_same (x ∷ xs) (suc k) y c same within = ap (λ n. cond (has_cell x.cells c) 1 0 + n) (crossed_same xs k y c same (omega arith))

-- a line of cells of the crossing that are in no flow yet
line_part : (n : ℕ) (x : BuiltCrossing) (cells : List CellNo) → AreLines x → are_known n cells ≡ true → 0 < length cells → list_any (λ c. not (has_cell x.cells c) || in_flow x.flows c) cells ≡ false → AreLines (with_line x (in_order n cells))
line_part n x cells lines known some free =
    AreLines-line n x (in_order n cells) lines (AreCells-in_order n cells known some) (λ c has.
    let own = or_parts (not (has_cell x.cells c)) (in_flow x.flows c) (none_has (λ d. not (has_cell x.cells d) || in_flow x.flows d) cells c free (sym (has_cell-in_order n cells c known) ∙ has)) in
    ap (λ b. b && not (in_flow x.flows c)) (not-false (has_cell x.cells c) own.0) ∙ ap not own.1)

pub flow_part : (site : BuiltSite) (k : ℕ) (cells : List CellNo) → IsPart site → k < length site.crossings → are_known site.cells cells ≡ true → 0 < length cells → has_too_many_claims (with_flow site k cells) ≡ false
    → list_any (λ c. not (has_cell (crossing_at site k).cells c) || in_flow (crossing_at site k).flows c) cells ≡ false → IsPart (with_flow site k cells)
flow_part site k cells part within known some room free =
    let x : BuiltCrossing = get_or site.crossings k no_crossing in
    let new : BuiltCrossing = with_line x (in_order site.cells cells) in
    let long : length (set site.crossings k new) ≡ length site.crossings = length-set site.crossings k new in
    record {
      few_cells = part.few_cells;
      few_links = part.few_links;
      few_crossings = let few = part.few_crossings in omega arith;
      few_areas = part.few_areas;
      few_claims = ltb-false 256 (crossing_claims (map completed (set site.crossings k new))) room;
      rows = part.rows;
      linked = part.linked;
      unlooped = part.unlooped;
      crossed = All-set (λ y. AreCells site.cells y.cells) site.crossings k new (All-get_or (λ y. AreCells site.cells y.cells) site.crossings k no_crossing within part.crossed) part.crossed;
      lined = All-set AreLines site.crossings k new (line_part site.cells x cells (All-get_or AreLines site.crossings k no_crossing within part.lined) known some free) part.lined;
      twice = λ c below. let same = crossed_same site.crossings k new c refl within in let most = part.twice c below in omega arith;
      gathered = part.gathered;
    }

-- a link more
pub link_part : (site : BuiltSite) (from : CellNo) (link : Link) → IsPart site → from.0 < site.cells → link.to.0 < site.cells → link_total site.links < 8192 → eqb link.to.0 from.0 ≡ false → 1 ≤ link.cost → link.cost ≤ 1000000 → has_link site from link.to ≡ false
    → IsPart (with_link site from link)
link_part site from link part from_known to_known room other some few new =
    let old : List Link = get_or site.links from.0 [] in
    let row : List Link = with_one_more old link in
    let all = part.rows in
    let within : from.0 < length site.links = omega arith in
    let long : length (set site.links from.0 row) ≡ length site.links = length-set site.links from.0 row in
    let are : AreLinks site.cells old = All-get_or (AreLinks site.cells) site.links from.0 [] within part.linked in
    let more = link_total-link site.links from.0 link within in
    record {
      few_cells = part.few_cells;
      few_links = omega arith;
      few_crossings = part.few_crossings;
      few_areas = part.few_areas;
      few_claims = part.few_claims;
      rows = omega arith;
      linked = All-set (AreLinks site.cells) site.links from.0 row (record {
        rise = LinksRise-with_one_more 0 old link are.rise (omega arith) new;
        known = All-with_one_more (λ l. l.to.0 < site.cells) old link are.known to_known;
        costs = All-with_one_more (λ l. (1 ≤ l.cost) × (l.cost ≤ MAX_COST)) old link are.costs (some, few);
      }) part.linked;
      unlooped = λ c. ⊎_elim
          (λ (same : c.0 ≡ from.0).
          subst (λ n. list_any (λ l. eqb l.to.0 n) (get_or (set site.links from.0 row) n []) ≡ false) (sym same)
          (ap (λ (ls : List Link). list_any (λ l. eqb l.to.0 from.0) ls) (get_or-set_same site.links from.0 row [] within)
          ∙ list_any_none (λ l. eqb l.to.0 from.0) row (All-with_one_more (λ l. eqb l.to.0 from.0 ≡ false) old link (none_looped old from.0 (part.unlooped from)) other)))
          (λ apart. ap (λ (ls : List Link). list_any (λ l. eqb l.to.0 c.0) ls) (get_or-set_other site.links from.0 c.0 row [] apart) ∙ part.unlooped c)
          (cases_eq c.0 from.0);
      crossed = part.crossed;
      lined = part.lined;
      twice = part.twice;
      gathered = part.gathered;
    }
  where
    none_looped : (links : List Link) (n : ℕ) → list_any (λ l. eqb l.to.0 n) links ≡ false → All (λ l. eqb l.to.0 n ≡ false) links
    none_looped [] n none = All-nil (λ l. eqb l.to.0 n ≡ false)
    none_looped (l ∷ ls) n none = let parts = or_parts (eqb l.to.0 n) (list_any (λ m. eqb m.to.0 n) ls) none in All-cons (λ m. eqb m.to.0 n ≡ false) l ls parts.0 (none_looped ls n parts.1)

-- the site is closed
pub closed_part : (site : BuiltSite) → IsPart site → IsValidSite (completed_site site)
closed_part site part = record {
  few_cells = part.few_cells;
  few_links = part.few_links;
  few_crossings = let long = length-map site.crossings completed in let few = part.few_crossings in omega arith;
  few_areas = part.few_areas;
  few_claims = part.few_claims;
  rows = part.rows;
  linked = part.linked;
  unlooped = part.unlooped;
  crossed = All-map (IsCrossingIn site.cells) completed site.crossings (crossings_in site.cells site.crossings part.crossed part.lined);
  twice = λ c below. let same = crossings_with-completed site.crossings c in let most = part.twice c below in omega arith;
  gathered = part.gathered;
}
