-- A finished site is valid.
use Rattle.std.proofs.Common.{◌≡◌, ℕ, ◌+◌, ◌≤◌, Bool, true, false, cond, ◌||◌, eqb, inl, inr, List, [], ◌∷◌, length, map, get_or, refl, sym, ap, subst, ◌∙◌, arith}
use Rattle.std.specs.List.{filter, All}
use Rattle.std.proofs.lemmas.Bool.{and_from, cases_Bool, false≢true, not-true, not_from_false}
use Rattle.std.proofs.lemmas.List.{length-map}
use Rattle.std.proofs.lemmas.List.Elements.{All-cons, All-filter, All-head, All-map, All-nil, All-push, All-tail, All-weaker, filter_passes}
use Rattle.std.proofs.lemmas.List.Folds.{list_any_none}
use Rattle.std.proofs.lemmas.List.Quantifiers.{all_pairs_push}
use Rattle.fleet_model.specs.Lists.{has_cell}
use Rattle.fleet_base.specs.declared.numbers.CellNo.{CellNo}
use Rattle.fleet_base.specs.declared.numbers.Link.{Link}
use Rattle.site_map.specs.declared.places.Places.{Places}
use Rattle.site_map.specs.declared.places.Places.TheVariants.{Free}
use Rattle.site_map.specs.Cells.{CellsRise}
use Rattle.site_map.specs.Crossings.{BuiltCrossing, completed, flows_with_rest, in_flow, IsFlow, rest_of}
use Rattle.site_map.specs.Built.{crossings_with}
use Rattle.site_map.specs.Inside.{AreCells, AreLines, IsKept}
use Rattle.site_map.specs.Valid.{IsCrossingIn, IsValidSite}
use Rattle.site_map.proofs.BuilderLemmas.{crowded, flow_lacks}
use Rattle.site_map.proofs.CellLemmas.{has_cell-filter, has_each}
use Rattle.site_map.proofs.CrossingLemmas.{in_flow_push, is_rest}
use Rattle.site_map.proofs.PlaceLemmas.{length-places_list}
use Rattle.site_map.proofs.SiteLemmas.{whole}

CellsRise-from : (low high : ℕ) (cells : List CellNo) → low ≤ high → CellsRise high cells → CellsRise low cells
CellsRise-from low high [] upto rise = tt
CellsRise-from low high (c ∷ cs) upto rise = (let above = rise.0 in omega arith, rise.1)

-- some of rising cells rise
CellsRise-some : (q : CellNo → Bool) (low : ℕ) (cells : List CellNo) → CellsRise low cells → CellsRise low (filter q cells)
CellsRise-some q low [] rise = tt
CellsRise-some q low (c ∷ cs) rise =
    elim (q c) as (λ b. CellsRise low (cond b (c ∷ filter q cs) (filter q cs))) [
      | true ↦ (rise.0, CellsRise-some q (c.0 + 1) cs rise.1)
      | false ↦ (let above = rise.0 in CellsRise-from low (c.0 + 1) (filter q cs) (omega arith) (CellsRise-some q (c.0 + 1) cs rise.1))
    ]

module _ (n : ℕ) (cells : List CellNo) (are : AreCells n cells) where
  -- with the rest as the last flow the flows share the cells out
  with_rest : (line : List CellNo) (lines : List (List CellNo)) (rest : List CellNo) → rest ≡ filter (is_rest (line ∷ lines)) cells → AreLines (record { cells = cells; flows = line ∷ lines }) → IsCrossingIn n (record { cells = cells; flows = flows_with_rest (line ∷ lines) rest })
  with_rest line lines [] is kept = record {
    cells = are;
    flows = kept.flows;
    apart = kept.apart;
    whole = λ c some has.
        elim (cases_Bool (in_flow (line ∷ lines) c)) [
          | inl there ↦ there
          | inr out ↦
              let left : has_cell [] c ≡ true = ap (λ cs. has_cell cs c) is ∙ has_cell-filter (is_rest (line ∷ lines)) cells c ∙ and_from (is_rest (line ∷ lines) c) (has_cell cells c) (not_from_false (in_flow (line ∷ lines) c) out) has in
              absurd (false≢true left)
        ];
  }
  with_rest line lines (r ∷ rs) is kept = record {
    cells = are;
    flows = All-push (IsFlow cells) (line ∷ lines) (r ∷ rs) kept.flows (record {
      some = omega arith;
      rise = subst (CellsRise 0) (sym is) (CellsRise-some (is_rest (line ∷ lines)) 0 cells are.rise);
      within = subst (All (λ c. has_cell cells c ≡ true)) (sym is) (All-filter (is_rest (line ∷ lines)) (λ c. has_cell cells c ≡ true) cells (has_each cells));
    });
    apart = all_pairs_push (λ flow other. All (λ c. has_cell flow c ≡ false) other) (line ∷ lines) (r ∷ rs) kept.apart
        (λ k d within.
        subst (All (λ c. has_cell (get_or (line ∷ lines) k d) c ≡ false)) (sym is)
        (All-weaker (λ c. is_rest (line ∷ lines) c ≡ true) (λ c. has_cell (get_or (line ∷ lines) k d) c ≡ false)
        (λ c out. flow_lacks (line ∷ lines) c k d within (not-true (in_flow (line ∷ lines) c) out))
        (filter (is_rest (line ∷ lines)) cells) (filter_passes (is_rest (line ∷ lines)) cells)));
    whole = λ c some has.
        in_flow_push (line ∷ lines) (r ∷ rs) c
        ∙ elim (cases_Bool (in_flow (line ∷ lines) c)) [
          | inl there ↦ ap (λ b. b || has_cell (r ∷ rs) c) there
          | inr out ↦
              let left : has_cell (r ∷ rs) c ≡ true = ap (λ cs. has_cell cs c) is ∙ has_cell-filter (is_rest (line ∷ lines)) cells c ∙ and_from (is_rest (line ∷ lines) c) (has_cell cells c) (not_from_false (in_flow (line ∷ lines) c) out) has in
              ap (λ b. b || has_cell (r ∷ rs) c) out ∙ left
        ];
  }

completed_in : (n : ℕ) (cells : List CellNo) (flows : List (List CellNo)) → AreCells n cells → AreLines (record { cells = cells; flows = flows }) → IsCrossingIn n (completed (record { cells = cells; flows = flows }))
completed_in n cells [] are kept = record {
  cells = are;
  flows = All-nil (IsFlow cells);
  apart = kept.apart;
  whole = λ c some has. absurd (omega arith);
}
completed_in n cells (line ∷ lines) are kept =
    with_rest n cells are line lines (rest_of (record { cells = cells; flows = line ∷ lines })) refl kept

-- each crossing is given its last flow
pub crossings_in : (n : ℕ) (xs : List BuiltCrossing) → All (λ x. AreCells n x.cells) xs → All AreLines xs → All (λ x. IsCrossingIn n (completed x)) xs
crossings_in n [] are kept = All-nil (λ x. IsCrossingIn n (completed x))
crossings_in n (x ∷ xs) are kept =
    All-cons (λ x. IsCrossingIn n (completed x)) x xs
    (completed_in n x.cells x.flows (All-head (λ y. AreCells n y.cells) x xs are) (All-head AreLines x xs kept))
    (crossings_in n xs (All-tail (λ y. AreCells n y.cells) x xs are) (All-tail AreLines x xs kept))

-- that doesn't change which crossings a cell is in
pub crossings_with-completed : (xs : List BuiltCrossing) (c : CellNo) → crossings_with (map completed xs) c ≡ crossings_with xs c
crossings_with-completed [] c = refl
crossings_with-completed (x ∷ xs) c = ap (λ n. cond (has_cell x.cells c) 1 0 + n) (crossings_with-completed xs c)

pub is_valid : (links : List (List Link)) (count : ℕ) (places : List Places) (crossings : List BuiltCrossing) (areas : List (List CellNo)) (firsts owners : List ℕ) → IsKept links count places crossings areas firsts owners → IsValidSite (whole links crossings areas)
is_valid links count places crossings areas firsts owners kept = record {
  few_cells = kept.few_cells;
  few_links = omega (arith, kept.few_links, kept.counted);
  few_crossings = omega (arith, kept.few_crossings, length-map crossings completed);
  few_areas = kept.few_areas;
  few_claims = kept.few_claims;
  rows = refl;
  linked = kept.linked;
  unlooped = λ c. list_any_none (λ l. eqb l.to.0 c.0) (get_or links c.0 []) (kept.unlooped c.0);
  crossed = All-map (IsCrossingIn (length links)) completed crossings (crossings_in (length links) crossings kept.crossed kept.lined);
  twice = λ c known.
      let count_is = crowded links count places crossings areas firsts owners c kept known in
      omega (arith, count_is, length-places_list (get_or places c.0 Free), crossings_with-completed crossings c);
  gathered = kept.gathered;
}
