-- The names that site lines declare, one more after the other, and the cells that are found by them.
use Rattle.std.proofs.Common.{◌≡◌, ℕ, ◌+◌, ◌<◌, ◌≤◌, true, List, [], ◌∷◌, ◌++◌, length, Option, Some, refl, sym, ap, ◌∙◌, append_assoc, append-nil, arith}
use Rattle.std.specs.Prelude.{All}
use Rattle.std.specs.List.{list_all}
use Rattle.std.specs.Option.{is_some}
use Rattle.std.proofs.lemmas.Bool.{and_from}
use Rattle.std.proofs.lemmas.List.Elements.{All-head, All-tail}
use Rattle.std.proofs.lemmas.List.FromFn.{length-range_with_len}
use Rattle.fleet_base.specs.declared.numbers.CellNo.{CellNo}
use Rattle.fleet_model.specs.Lists.{numbers_below}
use Rattle.fleet_names.specs.declared.thing.Thing.{Thing}
use Rattle.fleet_names.specs.declared.thing.Thing.TheVariants as things
use Rattle.fleet_names.specs.Things.{is_area, is_cell, is_crossing}
use Rattle.fleet_names.specs.Names.{Named, count_of, is_name, thing_of}
use Rattle.site_map.specs.Built.{BuiltSite}
use Rattle.scenario.specs.Canonical.{cell_names, name}
use Rattle.scenario.specs.Scenarios.{NamesAll}
use Rattle.scenario_reader.specs.SiteLines.{are_cells, as_cell, cells_named}
use Rattle.scenario_laws.proofs.RoundTrip.{names_of_each, names_upto}
use Rattle.scenario_laws.proofs.CanonicalNames.{Covers, counted_all, counted_both, counted_none, each_more}

-- names of all things of a site cover the first of each kind
pub covers_first : (names : Named) (site : BuiltSite) (count cells crossings areas : ℕ) → NamesAll names site count → cells ≤ site.cells → crossings ≤ length site.crossings → areas ≤ length site.areas → Covers names cells crossings areas 0
covers_first names site count cells crossings areas all few_cells few_crossings few_areas (things.Cell k) = let is = all.cells in omega arith
covers_first names site count cells crossings areas all few_cells few_crossings few_areas (things.Crossing k) = let is = all.crossings in omega arith
covers_first names site count cells crossings areas all few_cells few_crossings few_areas (things.Area k) = let is = all.areas in omega arith
covers_first names site count cells crossings areas all few_cells few_crossings few_areas (things.Robot k) = omega arith

-- cells, crossings and areas one more
pub cells_more : (names : Named) (cells : ℕ) → names_upto names (cells + 1) 0 0 0 ≡ names_upto names cells 0 0 0 ++ (name names (things.Cell cells), things.Cell cells) ∷ []
cells_more names cells =
    let c = names_of_each names (λ k. things.Cell k) cells in
    let last : Named = (name names (things.Cell cells), things.Cell cells) ∷ [] in
    ap (λ (es : Named). es ++ []) (each_more names (λ k. things.Cell k) cells) ∙ append-nil (c ++ last) ∙ ap (λ (es : Named). es ++ last) (sym (append-nil c))

pub crossings_more : (names : Named) (cells crossings : ℕ) → names_upto names cells (crossings + 1) 0 0 ≡ names_upto names cells crossings 0 0 ++ (name names (things.Crossing crossings), things.Crossing crossings) ∷ []
crossings_more names cells crossings =
    let c = names_of_each names (λ k. things.Cell k) cells in
    let x = names_of_each names (λ k. things.Crossing k) crossings in
    let last : Named = (name names (things.Crossing crossings), things.Crossing crossings) ∷ [] in
    ap (λ (es : Named). c ++ (es ++ [])) (each_more names (λ k. things.Crossing k) crossings)
    ∙ ap (λ (es : Named). c ++ es) (append-nil (x ++ last) ∙ ap (λ (es : Named). es ++ last) (sym (append-nil x)))
    ∙ sym (append_assoc c (x ++ []) last)

pub areas_more : (names : Named) (cells crossings areas : ℕ) → names_upto names cells crossings (areas + 1) 0 ≡ names_upto names cells crossings areas 0 ++ (name names (things.Area areas), things.Area areas) ∷ []
areas_more names cells crossings areas =
    let c = names_of_each names (λ k. things.Cell k) cells in
    let x = names_of_each names (λ k. things.Crossing k) crossings in
    let a = names_of_each names (λ k. things.Area k) areas in
    let last : Named = (name names (things.Area areas), things.Area areas) ∷ [] in
    ap (λ (es : Named). c ++ (x ++ (es ++ []))) (each_more names (λ k. things.Area k) areas)
    ∙ ap (λ (es : Named). c ++ (x ++ es)) (append-nil (a ++ last) ∙ ap (λ (es : Named). es ++ last) (sym (append-nil a)))
    ∙ sym (append_assoc c (x ++ (a ++ [])) last ∙ ap (λ (es : Named). c ++ es) (append_assoc x (a ++ []) last))

-- how many there are of each kind
pub cells_counted : (names : Named) (cells : ℕ) → count_of is_cell (names_upto names cells 0 0 0) ≡ cells
cells_counted names cells =
    let c = names_of_each names (λ k. things.Cell k) cells in
    ap (count_of is_cell) (append-nil c) ∙ counted_all is_cell names (λ k. things.Cell k) (numbers_below cells) (λ k. refl) ∙ length-range_with_len 0 cells

pub crossings_counted : (names : Named) (cells crossings : ℕ) → count_of is_crossing (names_upto names cells crossings 0 0) ≡ crossings
crossings_counted names cells crossings =
    let c = names_of_each names (λ k. things.Cell k) cells in
    let x = names_of_each names (λ k. things.Crossing k) crossings in
    let first = counted_both is_crossing c (x ++ []) in
    let second = ap (count_of is_crossing) (append-nil x) in
    let no_cells = counted_none is_crossing names (λ k. things.Cell k) (numbers_below cells) (λ k. refl) in
    let all = counted_all is_crossing names (λ k. things.Crossing k) (numbers_below crossings) (λ k. refl) in
    let many = length-range_with_len 0 crossings in
    omega arith

pub areas_counted : (names : Named) (cells crossings areas : ℕ) → count_of is_area (names_upto names cells crossings areas 0) ≡ areas
areas_counted names cells crossings areas =
    let c = names_of_each names (λ k. things.Cell k) cells in
    let x = names_of_each names (λ k. things.Crossing k) crossings in
    let a = names_of_each names (λ k. things.Area k) areas in
    let first = counted_both is_area c (x ++ (a ++ [])) in
    let second = counted_both is_area x (a ++ []) in
    let third = ap (count_of is_area) (append-nil a) in
    let no_cells = counted_none is_area names (λ k. things.Cell k) (numbers_below cells) (λ k. refl) in
    let no_crossings = counted_none is_area names (λ k. things.Crossing k) (numbers_below crossings) (λ k. refl) in
    let all = counted_all is_area names (λ k. things.Area k) (numbers_below areas) (λ k. refl) in
    let many = length-range_with_len 0 areas in
    omega arith

-- cells by their names, where each of the first n is found by its name
module _ (names es : Named) (n : ℕ) (good : (k : ℕ) → k < n → is_name (name names (things.Cell k)) ≡ true) (found : (k : ℕ) → k < n → thing_of es (name names (things.Cell k)) ≡ Some (things.Cell k)) where
  pub cells_good : (cells : List CellNo) → All (λ c. c.0 < n) cells → list_all is_name (cell_names names cells) ≡ true
  cells_good [] known = refl
  cells_good (c ∷ cs) known =
      and_from (is_name (name names (things.Cell c.0))) (list_all is_name (cell_names names cs)) (good c.0 (All-head (λ d. d.0 < n) c cs known)) (cells_good cs (All-tail (λ d. d.0 < n) c cs known))

  pub cells_found : (cells : List CellNo) → All (λ c. c.0 < n) cells → are_cells es (cell_names names cells) ≡ true
  cells_found [] known = refl
  cells_found (c ∷ cs) known =
      and_from (is_some (as_cell (thing_of es (name names (things.Cell c.0))))) (are_cells es (cell_names names cs))
      (ap (λ (o : Option Thing). is_some (as_cell o)) (found c.0 (All-head (λ d. d.0 < n) c cs known)))
      (cells_found cs (All-tail (λ d. d.0 < n) c cs known))

  pub cells_same : (cells : List CellNo) → All (λ c. c.0 < n) cells → cells_named es (cell_names names cells) ≡ cells
  cells_same [] known = refl
  cells_same (c ∷ cs) known = rw (found c.0 (All-head (λ d. d.0 < n) c cs known)) (ap (λ rest. c ∷ rest) (cells_same cs (All-tail (λ d. d.0 < n) c cs known)))
