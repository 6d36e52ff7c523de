-- When a backlog is that of a state of the fleet.
use Rattle.std.specs.Prelude.{◌≡◌, ◌↔◌, ℕ, ◌==◌, true, List, [], slice_get}
use Rattle.std.specs.List.{list_any}
use Rattle.std.specs.Option.{option_map, unwrap_or}
use Rattle.fleet_base.specs.declared.numbers.CellNo.{CellNo}
use Rattle.fleet_base.specs.declared.numbers.ClaimNo.{ClaimNo}
use Rattle.fleet_model.specs.Lists.{In}
use Rattle.fleet_model.specs.Plans.{IsBlocker}
use Rattle.fleet_model.specs.Cycles.{are_distinct}
use Rattle.fleet_model.specs.Sites.{Site, footprint_of, needs}
use Rattle.fleet_model.specs.Deferral.{ends}
use Rattle.fleet_model.specs.States.{State, pending_route}
use Rattle.fleet_model.specs.States as model
use Rattle.deferral.specs.Backlogs.{Backlog, pending_of, route_of, end_claims, is_needed}

-- the groups are the site's, the pending routes and their needs are the state's, and the claims of each end are its footprint
pub record Shows (b : Backlog) (s : State) : Type 0 where
  pub groups : b.groups ≡ s.fleet.site.groups
  pub routes : (r : ℕ) → route_of b r ≡ model.pending_of s r
  pub needs : (r c : ℕ) → is_needed (pending_of b r) c ≡ list_any (λ d. d.0 == c) (needs s.fleet.site (pending_route s r))
  pub ends : (q : ℕ) → end_claims b q ≡ unwrap_or (option_map (footprint_of s.fleet.site) (slice_get (ends s.fleet) q)) []

-- the numbers, each once, of the claims by which robot q blocks the route of robot r
pub record AreBlockers (s : State) (r q : ℕ) (route : List CellNo) (claims : List ℕ) : Type 0 where
  pub distinct : are_distinct claims ≡ true
  pub blocking : (c : ClaimNo) → In c.0 claims ↔ IsBlocker s.fleet r route c q

-- the groups are the site's, and the claims of each end are the footprint of its cell
pub record ShowsEnds (b : Backlog) (site : Site) (cells : List CellNo) : Type 0 where
  pub groups : b.groups ≡ site.groups
  pub ends : (q : ℕ) → end_claims b q ≡ unwrap_or (option_map (footprint_of site) (slice_get cells q)) []
