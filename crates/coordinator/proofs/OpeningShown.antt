-- The tables of an opening.
use Rattle.std.proofs.Common.{◌≡◌, ℕ, zero, suc, ◌<◌, ◌==◌, false, inl, inr, List, [], ◌∷◌, length, map, get_or, replicate, Option, None, sym, ap, subst, ◌∙◌, refl, arith}
use Rattle.std.proofs.lemmas.Bool.{cases_lt}
use Rattle.std.proofs.lemmas.List.{get_or-replicate, get_or_past, length-map, length-replicate}
use Rattle.std.specs.Prelude.{slice_get}
use Rattle.std.specs.List.{filter, list_any}
use Rattle.std.specs.Option.{is_some, option_map, unwrap_or}
use Rattle.fleet_base.specs.declared.numbers.CellNo.{CellNo}
use Rattle.fleet_model.specs.Sites.{Site, IsSite, footprint_of, needs}
use Rattle.fleet_model.specs.States.{State, opening_state}
use Rattle.fleet_model.specs.Tables.{IsCounted}
use Rattle.fleet_model.proofs.Holdings.{holdings-opening}
use Rattle.fleet_model.proofs.Tables.{ends-opening, places-opening}
use Rattle.deferral.specs.declared.pending.Pending.{Pending}
use Rattle.deferral.specs.Backlogs.{Backlog, is_needed}
use Rattle.deferral.specs.Laws as deferrals
use Rattle.coordinator.specs.declared.tables.Tables.{Tables}
use Rattle.coordinator.specs.Kept.{Shows}

-- a number that isn't 0 is above 0
pub above_none : (n : ℕ) → (n == 0) ≡ false → 0 < n
above_none zero some = absurd (cc)
above_none (suc n) some = omega arith

nothing : {A : Type 0} (n q : ℕ) → get_or (replicate {A = Option A} n None) q None ≡ None
nothing {A} n q = elim (cases_lt q n) [
  | inl within ↦ get_or-replicate n q None None within
  | inr past ↦ get_or_past (replicate {A = Option A} n None) q None (let l = length-replicate {A = Option A} n None in omega arith)
]

pub none_pending : (starts : List CellNo) (q : ℕ) → get_or (map {A = CellNo} {B = Option (List CellNo)} (λ a. None) starts) q None ≡ None
none_pending [] q = refl
none_pending (a ∷ bs) zero = refl
none_pending (a ∷ bs) (suc q) = none_pending bs q

pub none_owed : (starts : List CellNo) → length (filter is_some (map {A = CellNo} {B = Option (List CellNo)} (λ a. None) starts)) ≡ 0
none_owed [] = refl
none_owed (a ∷ bs) = none_owed bs

ends_of : (site : Site) (starts : List CellNo) (q : ℕ) → get_or (map (footprint_of site) starts) q [] ≡ unwrap_or (option_map (footprint_of site) (slice_get starts q)) []
ends_of site [] q = refl
ends_of site (a ∷ bs) zero = refl
ends_of site (a ∷ bs) (suc q) = ends_of site bs q

module _ (site : Site) (starts : List CellNo) (next cap : ℕ) (is_site : IsSite site) (counted : IsCounted site) where
  abbrev s : State
  s = opening_state site starts (map (λ a. None) starts) next cap

  pub backlog_shown : (b : Backlog) → b ≡ record { groups = site.groups; pending = replicate (length starts) None; ends = map (footprint_of site) starts } → deferrals.Shows b s
  backlog_shown b is = subst (λ d. deferrals.Shows d s) (sym is) (record {
    groups = refl;
    routes = λ q. ap (option_map (λ (p : Pending). p.route)) (nothing (length starts) q) ∙ sym (none_pending starts q);
    needs = λ q c. ap (λ p. is_needed p c) (nothing (length starts) q) ∙ sym (ap (λ p. list_any (λ d. d.0 == c) (needs site (unwrap_or p []))) (none_pending starts q));
    ends = λ q. ends_of site starts q ∙ ap (λ es. unwrap_or (option_map (footprint_of site) (slice_get es q)) []) (sym (ends-opening site starts (map (λ a. None) starts) next cap));
  })

  pub opening_shown : (t : Tables) → t.graph.robots ≡ length starts → t.graph.groups ≡ site.groups → t.graph.events ≡ [] → t.graph.next ≡ next → t.robots.ends ≡ starts → t.robots.places ≡ starts → t.robots.holdings ≡ map (footprint_of site) starts
      → t.deferrals ≡ record { groups = site.groups; pending = replicate (length starts) None; ends = map (footprint_of site) starts } → t.owed ≡ 0 → Shows t s
  opening_shown t robots groups events next_is ends_are places_are holdings_are backlog none =
      let ends_is = ends_are ∙ sym (ends-opening site starts (map (λ a. None) starts) next cap) in
      let places_is = places_are ∙ sym (places-opening site starts (map (λ a. None) starts) next cap) in
      let holdings_is = holdings_are ∙ sym (holdings-opening site starts (map (λ a. None) starts) next cap is_site counted) in
      record {
        robots = robots;
        groups = groups;
        events = events;
        next = next_is;
        known = λ i. record { ends = ends_is i; places = places_is i; holdings = holdings_is i };
        deferrals = backlog_shown t.deferrals backlog;
        routes = ap (λ (b : Backlog). length b.pending) backlog ∙ length-replicate (length starts) None;
        ends = ap (λ (b : Backlog). length b.ends) backlog ∙ length-map starts (footprint_of site);
        owed = omega (arith, none, none_owed starts);
      }
