-- The least route is found, it is one, and where none is found there is none.
use Rattle.std.proofs.Common.{◌≡◌, ℕ, zero, suc, ◌≤◌, Bool, true, false, not, ◌⊎◌, inl, inr, refl, ap, ◌∙◌, subst, List, [], ◌∷◌, map, length, Option, Some, None, arith}
use Rattle.std.proofs.lemmas.Bool.{cases_Bool, and_parts, and_from, true_from_ne_false}
use Rattle.std.specs.Prelude.{slice_get}
use Rattle.std.specs.List.{filter, list_all}
use Rattle.fleet_base.specs.declared.numbers.CellNo.{CellNo}
use Rattle.fleet_model.specs.Lists.{In, here, there}
use Rattle.fleet_model.specs.Cycles.{are_distinct}
use Rattle.fleet_model.specs.Sites.{Site, IsSite, cell_count, IsWalk, IsWalkFrom, last_cell}
use Rattle.fleet_model.specs.Routes.{route_precedes, leads_to, IsLeastRoute, walks, least_route}
use Rattle.fleet_model.proofs.Lists.{In-nil, In-filter, In_unfilter}
use Rattle.fleet_model.proofs.Leasts.{least_none, least_in, least_first}
use Rattle.fleet_model.proofs.Tests.{all_In, In_all}
use Rattle.fleet_model.proofs.RouteOrder.{route_precedes_total, route_precedes_itself, route_precedes_trans, route_precedes_one, cheaper_precedes, precedes_cost}
use Rattle.fleet_model.proofs.WalkLists.{walks_begin, walk_in}
use Rattle.fleet_model.proofs.Shortcuts.{IsSimple, shortcut, simple_steps}

module _ (goal avoid : CellNo → Bool) where
  -- a walk to the same last cell whose cells are all cells of the first leads there too
  pub leads_within : (a : CellNo) (bs cs : List CellNo) → last_cell a cs ≡ last_cell a bs → ((y : CellNo) → In y cs → In y bs) → leads_to goal avoid (a ∷ bs) ≡ true → leads_to goal avoid (a ∷ cs) ≡ true
  leads_within a bs cs e f h =
      let free : CellNo → Bool = λ b. not (avoid b) in
      let p = and_parts (goal (last_cell a bs)) (list_all free (a ∷ bs)) h in
      and_from (goal (last_cell a cs)) (list_all free (a ∷ cs)) (ap goal e ∙ p.0) (In_all free (a ∷ cs) (λ x m. all_In free (a ∷ bs) p.1 (more x m)))
    where
      more : (x : CellNo) → In x (a ∷ cs) → In x (a ∷ bs)
      more x (here e) = here e
      more x (there m) = there (f x m)

module _ (site : Site) where
  -- a walk to the same last cell that isn't behind, has no other cells and is among those that are listed
  record Better (a : CellNo) (bs : List CellNo) : Type 0 where
    cells : List CellNo
    walk : IsWalkFrom site a cells
    last : last_cell a cells ≡ last_cell a bs
    before : route_precedes site (a ∷ cells) (a ∷ bs) ≡ true
    short : length cells ≤ cell_count site
    within : (y : CellNo) → In y cells → In y bs

  -- each walk has such a one
  better : IsSite site → (n : ℕ) (a : CellNo) (bs : List CellNo) → length bs ≤ n → IsWalkFrom site a bs → Better a bs
  better is_site zero a bs l h = record {
    cells = bs;
    walk = h;
    last = refl;
    before = route_precedes_itself site (a ∷ bs);
    short = omega arith;
    within = λ y m. m;
  }
  better is_site (suc n) a bs l h = go (cases_Bool (are_distinct (map (λ c. c.0) (a ∷ bs)))) (better is_site n)
    where
      go : (are_distinct (map (λ c. c.0) (a ∷ bs)) ≡ true) ⊎ (are_distinct (map (λ c. c.0) (a ∷ bs)) ≡ false) → ((b : CellNo) (cs : List CellNo) → length cs ≤ n → IsWalkFrom site b cs → Better b cs) → Better a bs
      go (inl t) ih = record {
        cells = bs;
        walk = h;
        last = refl;
        before = route_precedes_itself site (a ∷ bs);
        short = simple_steps site is_site a bs h t;
        within = λ y m. m;
      }
      go (inr f) ih =
          let c = shortcut site is_site a bs h f in
          let b = ih a c.cells (omega (arith, c.shorter)) c.walk in
          record {
            cells = b.cells;
            walk = b.walk;
            last = b.last ∙ c.last;
            before = route_precedes_trans site (a ∷ b.cells) (a ∷ c.cells) (a ∷ bs) b.before (cheaper_precedes site (a ∷ c.cells) (a ∷ bs) c.cheaper);
            short = b.short;
            within = λ y m. c.within y (b.within y m);
          }

  module _ (goal avoid : CellNo → Bool) (from : CellNo) where
    -- the walks among which the least route is looked for
    abbrev found : List (List CellNo)
    found = filter (leads_to goal avoid) (walks site (cell_count site) from)

    -- for each walk to the goal there is one among those that isn't behind it
    better_found : IsSite site → (other : List CellNo) → slice_get other 0 ≡ Some from → IsWalk site other → leads_to goal avoid other ≡ true → (w : List CellNo) × In w found × (route_precedes site w other ≡ true)
    better_found is_site [] h k t = absurd (cc)
    better_found is_site (a ∷ bs) h k t =
        let e : a ≡ from = cc in
        let b = better is_site (length bs) a bs (omega arith) k in
        let m : In (a ∷ b.cells) (walks site (cell_count site) from) = subst (λ c. In (a ∷ b.cells) (walks site (cell_count site) c)) e (walk_in site (cell_count site) a b.cells b.walk b.short) in
        (a ∷ b.cells, In-filter (leads_to goal avoid) (walks site (cell_count site) from) m (leads_within goal avoid a bs b.cells b.last b.within t), b.before)

    -- what is found is the least route
    pub least_route_least : IsSite site → (route : List CellNo) → least_route site goal avoid from ≡ Some route → IsLeastRoute site goal avoid from route
    least_route_least is_site route h =
        let m = In_unfilter (leads_to goal avoid) (walks site (cell_count site) from) (least_in (route_precedes site) found route h) in
        let w = walks_begin site (cell_count site) from route m.0 in
        record {
          begins = w.0;
          linked = w.1;
          leads = m.1;
          least = λ other b k t.
              let c = better_found is_site other b k t in
              route_precedes_trans site route c.0 other (least_first (route_precedes site) (route_precedes_total site) (route_precedes_itself site) (route_precedes_trans site) found route c.0 h c.1) c.2;
        }

    -- where none is found, no walk leads to the goal
    pub least_route_none : IsSite site → least_route site goal avoid from ≡ None → (other : List CellNo) → slice_get other 0 ≡ Some from → IsWalk site other → leads_to goal avoid other ≡ true → ⊥
    least_route_none is_site h other b k t =
        let c = better_found is_site other b k t in
        let e : found ≡ [] = least_none (route_precedes site) found h in
        In-nil (subst (λ ws. In c.0 ws) e c.1)

    -- there is one least route at most
    pub one_least_route : (v w : List CellNo) → IsLeastRoute site goal avoid from v → IsLeastRoute site goal avoid from w → v ≡ w
    one_least_route v w h g = route_precedes_one site v w (h.least w g.begins g.linked g.leads) (g.least v h.begins h.linked h.leads)

    -- the least route is found
    pub least_route_found : IsSite site → (route : List CellNo) → IsLeastRoute site goal avoid from route → least_route site goal avoid from ≡ Some route
    least_route_found is_site route h = go (least_route site goal avoid from) refl
      where
        go : (o : Option (List CellNo)) → least_route site goal avoid from ≡ o → least_route site goal avoid from ≡ Some route
        go None e = absurd (least_route_none is_site e route h.begins h.linked h.leads)
        go (Some r) e = e ∙ ap (λ v. Some v) (one_least_route r route (least_route_least is_site r e) h)

    -- a least route comes to no cell twice
    pub least_route_simple : IsSite site → (route : List CellNo) → IsLeastRoute site goal avoid from route → IsSimple route
    least_route_simple is_site [] h = refl
    least_route_simple is_site (a ∷ bs) h = true_from_ne_false (are_distinct (map (λ c. c.0) (a ∷ bs))) (λ f.
        let c = shortcut site is_site a bs h.linked f in
        precedes_cost site (a ∷ bs) (a ∷ c.cells) (h.least (a ∷ c.cells) h.begins c.walk (leads_within goal avoid a bs c.cells c.last c.within h.leads)) c.cheaper)
