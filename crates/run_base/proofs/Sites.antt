-- A valid site is one that the rules speak of.
use Rattle.std.proofs.Common.{◌≡◌, ℕ, ◌+◌, ◌<◌, ◌≤◌, ◌⊎◌, max, cond, eqb, inl, inr, true, false, List, [], ◌∷◌, length, get_or, Some, None, refl, sym, ap, subst, ◌∙◌, arith}
use Rattle.std.specs.Prelude.{All}
use Rattle.std.specs.List.{find, position_or_len}
use Rattle.std.specs.Option.{option_map}
use Rattle.std.proofs.lemmas.Bool.{cases_Bool, cases_lt, eqb-true}
use Rattle.std.proofs.lemmas.List.{get_or_past, length-map}
use Rattle.std.proofs.lemmas.List.Elements.{All-get_or, All-head, All-tail}
use Rattle.std.proofs.lemmas.List.Folds.{find_at}
use Rattle.std.proofs.lemmas.List.FromFn.{length-map-range_with_len}
use Rattle.std.proofs.lemmas.List.Sums.{passes_at_first}
use Rattle.std.proofs.lemmas.Option.{same_Some, slice_get-get_or, slice_get_past}
use Rattle.fleet_base.specs.declared.limits.TheConstants.{MAX_COST}
use Rattle.fleet_base.specs.declared.numbers.CellNo.{CellNo}
use Rattle.fleet_base.specs.declared.numbers.Link.{Link}
use Rattle.fleet_base.specs.Lists.{RiseFrom}
use Rattle.fleet_model.specs.Lists.{has_cell}
use Rattle.fleet_model.specs.Sites.{IsSite, cell_count, footprint_of, link_cost}
use Rattle.site_map.specs.Built.{BuiltSite, crossings_with}
use Rattle.site_map.specs.Cells.{cells_below}
use Rattle.site_map.specs.Claims.{claims_from, footprint_in, site_of}
use Rattle.site_map.specs.Crossings.{BuiltCrossing, claim_count_of, flow_of, in_flow}
use Rattle.site_map.specs.Inside.{AreLinks}
use Rattle.site_map.specs.Valid.{IsCrossingIn, IsValidSite}
use Rattle.site_map.proofs.CellLemmas.{to_cell}
use Rattle.site_map.proofs.PlaceLemmas.{has_it, position_within}
use Rattle.site_map.proofs.SiteLemmas.{cost_at, footprint_at, footprint_past}

-- a cell of a crossing that is in a flow, where there are flows, has one of the crossing's claims
first_within : (flows : List (List CellNo)) (c : CellNo) → (0 < length flows → in_flow flows c ≡ true) → position_or_len (has_it c) flows < max 1 (length flows)
first_within [] c whole = omega arith
first_within (flow ∷ flows) c whole = let within = position_within (flow ∷ flows) c (whole (omega arith)) in omega (arith, within)

flow_within : (n : ℕ) (x : BuiltCrossing) (c : CellNo) → IsCrossingIn n x → has_cell x.cells c ≡ true → flow_of x c < claim_count_of x
flow_within n x c is has = first_within x.flows c (λ some. is.whole c some has)

-- the claims of a cell rise
claims_rise : (n low base : ℕ) (xs : List BuiltCrossing) (c : CellNo) → All (IsCrossingIn n) xs → low ≤ base → RiseFrom low (claims_from base xs c)
claims_rise n low base [] c are upto = tt
claims_rise n low base (x ∷ xs) c are upto =
    elim (cases_Bool (has_cell x.cells c)) [
      | inl has ↦
          let within = flow_within n x c (All-head (IsCrossingIn n) x xs are) has in
          subst (λ b. RiseFrom low (cond b (record { 0 = base + flow_of x c } ∷ claims_from (base + claim_count_of x) xs c) (claims_from (base + claim_count_of x) xs c))) (sym has)
          (omega arith, claims_rise n (base + flow_of x c + 1) (base + claim_count_of x) xs c (All-tail (IsCrossingIn n) x xs are) (omega (arith, within)))
      | inr out ↦
          subst (λ b. RiseFrom low (cond b (record { 0 = base + flow_of x c } ∷ claims_from (base + claim_count_of x) xs c) (claims_from (base + claim_count_of x) xs c))) (sym out)
          (claims_rise n low (base + claim_count_of x) xs c (All-tail (IsCrossingIn n) x xs are) (omega arith))
    ]

-- a cell has a claim in each crossing that contains it
claims_count : (base : ℕ) (xs : List BuiltCrossing) (c : CellNo) → length (claims_from base xs c) ≡ crossings_with xs c
claims_count base [] c = refl
claims_count base (x ∷ xs) c =
    let rest = claims_count (base + claim_count_of x) xs c in
    elim (has_cell x.cells c) as (λ b. length (cond b (record { 0 = base + flow_of x c } ∷ claims_from (base + claim_count_of x) xs c) (claims_from (base + claim_count_of x) xs c)) ≡ cond b 1 0 + crossings_with xs c) [
      | true ↦ omega (arith, rest)
      | false ↦ omega (arith, rest)
    ]

-- a link that is found leads to a known cell and costs something
module _ (n to cost : ℕ) (links : List Link) (are : AreLinks n links) (found : option_map (λ l. l.cost) (find (λ l. eqb l.to.0 to) links) ≡ Some cost) where
  abbrev place : ℕ
  place = position_or_len (λ l. eqb l.to.0 to) links

  no_link : Link
  no_link = record { to = record { 0 = 0 }; cost = 0 }

  at_place : (place < length links) ⊎ (length links ≤ place) → (1 ≤ cost) × (to < n)
  at_place (inl within) =
      let link = get_or links place no_link in
      let is = find_at (λ l. eqb l.to.0 to) links ∙ slice_get-get_or links place no_link within in
      let cost_is : link.cost ≡ cost = same_Some link.cost cost (sym (ap (option_map (λ l. l.cost)) is) ∙ found) in
      let to_is = eqb-true link.to.0 to (passes_at_first (λ l. eqb l.to.0 to) links no_link within) in
      let known = All-get_or (λ l. l.to.0 < n) links place no_link within are.known in
      let costs = (All-get_or (λ l. (1 ≤ l.cost) × (l.cost ≤ MAX_COST)) links place no_link within are.costs).0 in
      (omega (arith, cost_is, costs), omega (arith, to_is, known))
  at_place (inr past) =
      let none : None ≡ Some cost = sym (ap (option_map (λ l. l.cost)) (find_at (λ l. eqb l.to.0 to) links ∙ slice_get_past links place past)) ∙ found in
      absurd (cc)

  link_found : (1 ≤ cost) × (to < n)
  link_found = at_place (cases_lt place (length links))

-- a site has as many cells as were built
pub cells_are : (site : BuiltSite) → cell_count (site_of site) ≡ site.cells
cells_are site = length-map (cells_below site.cells) (footprint_in site) ∙ length-map-range_with_len to_cell 0 site.cells

module _ (site : BuiltSite) (valid : IsValidSite site) where
  short : (a : CellNo) → length (footprint_of (site_of site) a) ≤ 3
  short a =
      elim (cases_lt a.0 site.cells) [
        | inl within ↦
            let is = ap length (footprint_at site a within) in
            let count = claims_count site.cells site.crossings a in
            let few = valid.twice a within in
            omega (arith, is, count, few)
        | inr past ↦ let none = ap length (footprint_past site a past) in omega (arith, none)
      ]

  rises : (a : CellNo) → RiseFrom 0 (footprint_of (site_of site) a)
  rises a =
      elim (cases_lt a.0 site.cells) [
        | inl within ↦ subst (RiseFrom 0) (sym (footprint_at site a within)) (omega arith, claims_rise site.cells (a.0 + 1) site.cells site.crossings a valid.crossed (omega (arith, within)))
        | inr past ↦ subst (RiseFrom 0) (sym (footprint_past site a past)) tt
      ]

  linked : (a b : CellNo) (cost : ℕ) → link_cost (site_of site) a b ≡ Some cost → (1 ≤ cost) × (a.0 < site.cells) × (b.0 < site.cells)
  linked a b cost found =
      let there = sym (cost_at site a b) ∙ found in
      elim (cases_lt a.0 (length site.links)) [
        | inl within ↦
            let are = All-get_or (AreLinks site.cells) site.links a.0 [] within valid.linked in
            let fact = link_found site.cells b.0 cost (get_or site.links a.0 []) are there in
            let rows = valid.rows in
            (fact.0, omega (arith, within, rows), fact.1)
        | inr past ↦
            let none : None ≡ Some cost = sym (ap (λ row. option_map (λ l. l.cost) (find (λ l. eqb l.to.0 b.0) row)) (get_or_past site.links a.0 [] past)) ∙ there in
            absurd (cc)
      ]

  pub valid_site : IsSite (site_of site)
  valid_site = record {
    small = let few = valid.few_cells in let same = cells_are site in omega (arith, same, few);
    short = short;
    ascending = rises;
    links = λ a b cost found. let fact = linked a b cost found in let same = cells_are site in (fact.0, omega (arith, fact.1, same), omega (arith, fact.2, same));
  }
