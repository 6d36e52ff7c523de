-- The search for a detour, over the tables.
use Rattle.std.proofs.Common.{◌≡◌, ℕ, ◌<◌, Bool, true, false, List, length, None, Some, sym, ap, subst, ◌∙◌, arith}
use Rattle.std.specs.Prelude.{Err}
use Rattle.std.specs.Option.{is_some}
use Rattle.fleet_base.specs.declared.answers.ReplanRefused.TheVariants as refused
use Rattle.fleet_base.specs.declared.numbers.CellNo.{CellNo}
use Rattle.fleet_model.specs.Sites.{cell_count}
use Rattle.fleet_model.specs.Plans.{end_of}
use Rattle.fleet_model.specs.Routes.{least_route}
use Rattle.fleet_model.specs.Deferral.{is_shut_to}
use Rattle.fleet_model.specs.States.{State, pending_of}
use Rattle.fleet_model.specs.Calls.{detour_of, replan}
use Rattle.deferral.specs.Backlogs as backlogs
use Rattle.site_map.specs.Claims.{site_of}
use Rattle.coordinator.specs.declared.coordinator.Coordinator.TheInside.{Inside}
use Rattle.coordinator.specs.Kept.{IsKept}
use Rattle.coordinator.specs.Replans.{IsDetour, is_shut_in}
use Rattle.coordinator.proofs.KeptNext.{robot_is, site_is, state}
use Rattle.coordinator.proofs.MergedRoutes.{cells_of, end_cell}
use Rattle.coordinator.proofs.Replans.{no_detour}
use Rattle.coordinator.proofs.ShutCells.{shut_is}

module _ (c : Inside) (kept : IsKept c) (r : ℕ) (known : r < length c.from.at.items) where
  abbrev s : State
  s = state c kept

  module _ (end : CellNo) (ends : end ≡ end_of s.fleet r) where
    pub end_below : end.0 < c.site.cells
    end_below = subst (λ (a : CellNo). a.0 < c.site.cells) (sym ends) (end_cell c kept r (robot_is c kept r known))

    pub end_small : end.0 < 1024
    end_small =
        let count : cell_count s.fleet.site ≡ c.site.cells = ap cell_count kept.state.site ∙ cells_of c.site in
        omega (arith, end_below, count, (site_is c kept).small)

    module _ (goal shut : CellNo → Bool) (are : (a : CellNo) → shut a ≡ is_shut_in c.tables.deferrals (site_of c.site) r a) where
      shut_here : (a : CellNo) → shut a ≡ is_shut_to s.fleet r a
      shut_here a =
          are a
          ∙ ap (λ z. is_shut_in c.tables.deferrals z r a) (sym kept.state.site)
          ∙ shut_is c.tables.deferrals s.fleet (record { groups = kept.tables.deferrals.groups; ends = kept.tables.deferrals.ends }) kept.tables.ends r a

      -- the detour is the least route past the cells that are shut
      detour_is : detour_of s.fleet r goal ≡ least_route (site_of c.site) goal shut end
      detour_is =
          let same : shut ≡ is_shut_to s.fleet r = λ i a. shut_here a i in
          ap (λ z. least_route z goal (is_shut_to s.fleet r) (end_of s.fleet r)) kept.state.site
          ∙ ap (λ f. least_route (site_of c.site) goal f (end_of s.fleet r)) (sym same)
          ∙ ap (least_route (site_of c.site) goal shut) (sym ends)

      module _ (waits : true ≡ is_some (backlogs.route_of c.tables.deferrals r)) (away : false ≡ goal end) where
        pending_is : is_some (pending_of s r) ≡ true
        pending_is = ap is_some (sym (kept.tables.deferrals.routes r)) ∙ sym waits

        away_is : goal (end_of s.fleet r) ≡ false
        away_is = ap goal (sym ends) ∙ sym away

        pub is_detour : (route : List CellNo) → least_route (site_of c.site) goal shut end ≡ Some route → IsDetour s r goal route
        is_detour route found = record { robot = robot_is c kept r known; pending = pending_is; away = away_is; found = detour_is ∙ found }

        pub none_there : least_route (site_of c.site) goal shut end ≡ None → (replan s r goal).answer ≡ Err refused.NoDetour
        none_there none = no_detour s r goal (robot_is c kept r known) pending_is away_is (detour_is ∙ none)
