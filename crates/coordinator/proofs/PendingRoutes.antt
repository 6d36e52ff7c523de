-- Pending routes and their blockers, over the tables.
use Rattle.std.proofs.Common.{◌≡◌, ℕ, List, Option, Some, None, sym, ap, subst, ◌∙◌, refl}
use Rattle.std.specs.Prelude.{slice_get, []}
use Rattle.std.specs.Option.{option_map, unwrap_or}
use Rattle.fleet_base.specs.Lists.{robots_of}
use Rattle.fleet_base.specs.declared.answers.Block.{Block}
use Rattle.fleet_base.specs.declared.numbers.CellNo.{CellNo}
use Rattle.fleet_base.specs.declared.numbers.ClaimNo.{ClaimNo}
use Rattle.fleet_base.specs.declared.numbers.RobotNo.{RobotNo}
use Rattle.fleet_model.specs.Sites.{Site, footprint_of, needs}
use Rattle.fleet_model.specs.Plans.{IsRoute}
use Rattle.fleet_model.specs.Deferral.{ends, least_blocker}
use Rattle.fleet_model.specs.States.{State, block_of, cycle_of, pending_of}
use Rattle.deferral.specs.Backlogs as backlogs
use Rattle.deferral.specs.Laws.{ShowsEnds}
use Rattle.fleet_base.specs.declared.answers.Blocker.{Blocker}
use Rattle.fleet_base.specs.Blockers.{pair_of}
use Rattle.plan_events.specs.Shapes.{shape_cause}
use Rattle.plan_events.proofs.Routes.{walk_shape}
use Rattle.robot_tables.specs.Robots.{Robots}
use Rattle.site_map.specs.Claims.{site_of}
use Rattle.coordinator.specs.declared.coordinator.Coordinator.TheInside.{Inside}
use Rattle.coordinator.specs.Kept.{IsKept}
use Rattle.coordinator.proofs.KeptNext.{good, site_is, state}

module _ (c : Inside) (kept : IsKept c) where
  abbrev s : State
  s = state c kept

  -- what the tables have pending is pending in the state
  pub waits : (r : ℕ) (route : List CellNo) → Some route ≡ backlogs.route_of c.tables.deferrals r → pending_of s r ≡ Some route
  waits r route is = sym (kept.tables.deferrals.routes r) ∙ sym is

  pub legal : (r : ℕ) (route : List CellNo) → pending_of s r ≡ Some route → IsRoute s.fleet r route
  legal r route is = (good c kept).routes r route is

  -- a legal route has a shape
  pub shape_is : (r : ℕ) (route : List CellNo) → IsRoute s.fleet r route → shape_cause (site_of c.site) route ≡ None
  shape_is r route is = subst (λ z. shape_cause z route ≡ None) kept.state.site (walk_shape s.fleet.site (site_is c kept) route is.long is.short is.linked)

  -- the block that a blocker makes
  abbrev pub made : State → ℕ → Blocker → Block
  made t r b = record { claim = b.claim; by = b.by; cycle = robots_of (cycle_of t r) }

  abbrev by_pair : List RobotNo → ClaimNo × ℕ → Block
  by_pair cycle b = record { claim = b.0; by = record { 0 = b.1 }; cycle = cycle }

  abbrev by_blocker : List RobotNo → Blocker → Block
  by_blocker cycle b = record { claim = b.claim; by = b.by; cycle = cycle }

  blocked : (r : ℕ) (cycle : List RobotNo) (o : Option Blocker) → option_map (by_pair cycle) (option_map pair_of o) ≡ option_map (by_blocker cycle) o
  blocked r cycle None = refl
  blocked r cycle (Some b) = refl

  -- the block of a route, in any state with the same ends
  pub block_made : (t : State) (r : ℕ) (route : List CellNo) (o : Option Blocker) → t.fleet.site ≡ site_of c.site → ends t.fleet ≡ c.tables.robots.ends → option_map pair_of o ≡ least_blocker (site_of c.site) c.tables.robots.ends r (needs (site_of c.site) route) → block_of t r route ≡ option_map (made t r) o
  block_made t r route o site ends_are is =
      let full : List RobotNo = robots_of (cycle_of t r) in
      let f : ClaimNo × ℕ → Block = by_pair full in
      ap (λ z. option_map f (least_blocker z (ends t.fleet) r (needs z route))) site
      ∙ ap (λ es. option_map f (least_blocker (site_of c.site) es r (needs (site_of c.site) route))) ends_are
      ∙ ap (option_map f) (sym is)
      ∙ blocked r full o

  pub ends_same : ends s.fleet ≡ c.tables.robots.ends
  ends_same = ap (λ (k : Robots). k.ends) (sym kept.tables.known)

  -- the ends that were told are those of the robots, at the site
  pub ends_shown : ShowsEnds c.tables.deferrals (site_of c.site) c.tables.robots.ends
  ends_shown = record {
    groups = kept.tables.deferrals.groups ∙ ap (λ (z : Site). z.groups) kept.state.site;
    ends = λ q. kept.tables.deferrals.ends q
        ∙ ap (λ (z : Site). unwrap_or (option_map (footprint_of z) (slice_get (ends s.fleet) q)) []) kept.state.site
        ∙ ap (λ es. unwrap_or (option_map (footprint_of (site_of c.site)) (slice_get es q)) []) ends_same;
  }
