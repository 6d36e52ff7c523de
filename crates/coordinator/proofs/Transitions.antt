-- The tables follow the state: each change of them shows the state that the change leaves.
use Rattle.std.proofs.Common.{◌≡◌, ℕ, ◌+◌, ◌<◌, ◌≤◌, refl, sym, ap, subst, ◌∙◌, List, ◌∷◌, ◌++◌, length, set, Option, Some, None, arith}
use Rattle.std.proofs.lemmas.List.{length-set}
use Rattle.std.proofs.lemmas.List.FromFn.{length-map-range_with_len}
use Rattle.std.specs.Option.{option_map}
use Rattle.fleet_base.specs.declared.numbers.CellNo.{CellNo}
use Rattle.fleet_base.specs.declared.numbers.ClaimNo.{ClaimNo}
use Rattle.fleet_base.specs.declared.numbers.Event.{Event}
use Rattle.fleet_model.specs.Sites.{IsSite, footprint_of, last_cell, steps}
use Rattle.fleet_model.specs.Plans.{IsBehind, IsReady, end_of, merged, numbered, removable_tail, unfinished, withdrawn}
use Rattle.fleet_model.specs.Deferral.{ends}
use Rattle.fleet_model.specs.States.{State, owed}
use Rattle.fleet_model.specs.States as model
use Rattle.fleet_model.specs.Calls.{deferring, moved, reported, with_route}
use Rattle.fleet_model.specs.Good.{IsGood}
use Rattle.fleet_model.specs.Tables.{IsCounted, holdings, places}
use Rattle.fleet_model.proofs.Room.{cut_both_owes, cut_owes, deferral_owes, drop_owes, merge_owes, report_owes, retry_owes}
use Rattle.fleet_model.proofs.Tables.{ends-merged, ends-withdrawn, unfinished-merged}
use Rattle.event_graph.proofs.Whole.{cut_whole, finish_whole, tail_whole}
use Rattle.fleet_model.proofs.Tails.{tail_is}
use Rattle.event_graph.specs.Graphs.{tail_of, without_events, without_number}
use Rattle.robot_tables.specs.Robots.{Robots, after_report, robots_of, with_end}
use Rattle.robot_tables.proofs.Reports.{report}
use Rattle.deferral.specs.declared.pending.Pending.{Pending}
use Rattle.deferral.specs.Backlogs.{Backlog, pending_of}
use Rattle.deferral.specs.Laws as deferrals
use Rattle.coordinator.specs.declared.tables.Tables.{Tables}
use Rattle.coordinator.specs.Changes.{AreSame, IsCut, IsDeferred, IsDropped, IsReported, IsSettled, route_count, with_end_claims, with_pending}
use Rattle.coordinator.specs.Kept.{Shows}
use Rattle.coordinator.proofs.Backlogs.{IsNeeding, end_shown, pending_shown}

length-ends : (s : State) → length (ends s.fleet) ≡ length s.fleet.starts
length-ends s = length-map-range_with_len (end_of s.fleet) 0 (length s.fleet.starts)

-- what is pending of robot r, by the tables and by the state
pub pending_same : (t : Tables) (s : State) (r : ℕ) (o : Option Pending) → Shows t s → pending_of t.deferrals r ≡ o → model.pending_of s r ≡ option_map (λ p. p.route) o
pending_same t s r o shows is = sym (shows.deferrals.routes r) ∙ ap (option_map (λ p. p.route)) is

needs_nothing : (s : State) → IsNeeding s.fleet.site None
needs_nothing s c = refl

pub same_shown : (t u : Tables) (s : State) → Shows t s → AreSame t u → Shows u s
same_shown t u s shows same = record {
  robots = same.graph.robots ∙ shows.robots;
  groups = same.graph.groups ∙ shows.groups;
  events = same.graph.events ∙ shows.events;
  next = same.graph.next ∙ shows.next;
  known = same.known ∙ shows.known;
  deferrals = subst (λ b. deferrals.Shows b s) (sym same.deferrals) shows.deferrals;
  routes = ap (λ (b : Backlog). length b.pending) same.deferrals ∙ shows.routes;
  ends = ap (λ (b : Backlog). length b.ends) same.deferrals ∙ shows.ends;
  owed = same.owed ∙ shows.owed;
}

-- the tables don't tell where the segment begins
pub based_shown : (t : Tables) (s : State) (base : ℕ) → Shows t s → Shows t (record s { base = base })
based_shown t s base shows = record {
  robots = shows.robots;
  groups = shows.groups;
  events = shows.events;
  next = shows.next;
  known = shows.known;
  deferrals = (let d = shows.deferrals in record { groups = d.groups; routes = d.routes; needs = d.needs; ends = d.ends });
  routes = shows.routes;
  ends = shows.ends;
  owed = shows.owed;
}

module _ (t u : Tables) (s : State) (r : ℕ) (shows : Shows t s) (good : IsGood s) (known : r < length s.fleet.starts) where
  -- nothing is pending of the robot
  abbrev pub free : Backlog
  free = with_pending t.deferrals r None

  free_shown : deferrals.Shows free (moved s s.fleet r None)
  free_shown = pending_shown t.deferrals s r None shows.deferrals (omega (arith, shows.routes)) (omega (arith, good.places)) (needs_nothing s)

  -- and its end is the cell, in any state where all else is the same
  ended_shown : (v : State) (a : CellNo) → v.fleet.site ≡ s.fleet.site → v.pending ≡ set s.pending r None → ends v.fleet ≡ set (ends s.fleet) r a → deferrals.Shows (with_end_claims free r (footprint_of s.fleet.site a)) v
  ended_shown v a site pending is =
      end_shown free (moved s s.fleet r None) v r a free_shown (omega (arith, shows.ends)) (omega (arith, length-ends s)) site pending is

  routes_left : (b : Backlog) (o : Option Pending) (claims : List ClaimNo) → b ≡ with_end_claims (with_pending t.deferrals r o) r claims → length b.pending ≡ length s.fleet.starts
  routes_left b o claims is = ap (λ (d : Backlog). length d.pending) is ∙ length-set t.deferrals.pending r o ∙ shows.routes

  ends_left : (b : Backlog) (o : Option Pending) (claims : List ClaimNo) → b ≡ with_end_claims (with_pending t.deferrals r o) r claims → length b.ends ≡ length s.fleet.starts
  ends_left b o claims is = ap (λ (d : Backlog). length d.ends) is ∙ length-set t.deferrals.ends r claims ∙ shows.ends

  merge_left : (route : List CellNo) (o : Option Pending) → pending_of t.deferrals r ≡ o → u.owed + route_count o ≡ t.owed + length (steps s.fleet.site route) → u.owed ≡ owed (with_route s r route)
  merge_left route None is sum = omega (arith, sum, shows.owed, merge_owes s r route good (pending_same t s r None shows is))
  merge_left route (Some p) is sum = omega (arith, sum, shows.owed, retry_owes s r route p.route good (pending_same t s r (Some p) shows is))

  robots_merged : (a : CellNo) (bs : List CellNo) → 2 ≤ length (a ∷ bs) → robots_of (merged s.fleet r (a ∷ bs)) ≡ with_end (robots_of s.fleet) r (last_cell a bs)
  robots_merged a bs long = let is = ends-merged s.fleet r a bs long in λ i. record { ends = is i; places = places s.fleet; holdings = holdings s.fleet }

  pub settled_shown : (a : CellNo) (bs : List CellNo) → 2 ≤ length (a ∷ bs) → IsSettled t u r (steps s.fleet.site (a ∷ bs)) (last_cell a bs) (footprint_of s.fleet.site (last_cell a bs)) → Shows u (with_route s r (a ∷ bs))
  settled_shown a bs long is = record {
    robots = is.setting.robots ∙ shows.robots;
    groups = is.setting.groups ∙ shows.groups;
    events =
        is.events
        ∙ ap (λ es. es ++ numbered t.graph.next r (steps s.fleet.site (a ∷ bs))) shows.events
        ∙ ap (λ n. unfinished s.fleet ++ numbered n r (steps s.fleet.site (a ∷ bs))) shows.next
        ∙ sym (unfinished-merged s.fleet r (a ∷ bs) good.plan);
    next = is.next ∙ ap (λ n. n + length (steps s.fleet.site (a ∷ bs))) shows.next;
    known = is.known ∙ ap (λ (k : Robots). with_end k r (last_cell a bs)) shows.known ∙ sym (robots_merged a bs long);
    deferrals = subst (λ b. deferrals.Shows b (with_route s r (a ∷ bs))) (sym is.deferrals) (ended_shown (with_route s r (a ∷ bs)) (last_cell a bs) refl refl (ends-merged s.fleet r a bs long));
    routes = routes_left u.deferrals None (footprint_of s.fleet.site (last_cell a bs)) is.deferrals;
    ends = ends_left u.deferrals None (footprint_of s.fleet.site (last_cell a bs)) is.deferrals;
    owed = merge_left (a ∷ bs) (pending_of t.deferrals r) refl is.owed;
  }

  pub deferred_shown : (p : Pending) → model.pending_of s r ≡ None → IsNeeding s.fleet.site (Some p) → IsDeferred t u r p → Shows u (deferring s r p.route)
  deferred_shown p none needing is = record {
    robots = ap (λ g. g.robots) is.graph ∙ shows.robots;
    groups = ap (λ g. g.groups) is.graph ∙ shows.groups;
    events = ap (λ g. g.events) is.graph ∙ shows.events;
    next = ap (λ g. g.next) is.graph ∙ shows.next;
    known = is.known ∙ shows.known;
    deferrals =
        subst (λ b. deferrals.Shows b (deferring s r p.route)) (sym is.deferrals)
        (pending_shown t.deferrals s r (Some p) shows.deferrals (omega (arith, shows.routes)) (omega (arith, good.places)) needing);
    routes = ap (λ (d : Backlog). length d.pending) is.deferrals ∙ length-set t.deferrals.pending r (Some p) ∙ shows.routes;
    ends = ap (λ (d : Backlog). length d.ends) is.deferrals ∙ shows.ends;
    owed = omega (arith, is.owed, shows.owed, deferral_owes s r p.route good known none);
  }

  drop_left : (o : Option Pending) (old : List CellNo) → pending_of t.deferrals r ≡ o → model.pending_of s r ≡ Some old → u.owed + route_count o ≡ t.owed → u.owed ≡ owed (moved s s.fleet r None)
  drop_left None old is some sum = let none = pending_same t s r None shows is in absurd (cc)
  drop_left (Some p) old is some sum = omega (arith, sum, shows.owed, drop_owes s r old some)

  pub dropped_shown : (old : List CellNo) → model.pending_of s r ≡ Some old → IsDropped t u r → Shows u (moved s s.fleet r None)
  dropped_shown old some is = record {
    robots = ap (λ g. g.robots) is.graph ∙ shows.robots;
    groups = ap (λ g. g.groups) is.graph ∙ shows.groups;
    events = ap (λ g. g.events) is.graph ∙ shows.events;
    next = ap (λ g. g.next) is.graph ∙ shows.next;
    known = is.known ∙ shows.known;
    deferrals = subst (λ b. deferrals.Shows b (moved s s.fleet r None)) (sym is.deferrals) free_shown;
    routes = ap (λ (d : Backlog). length d.pending) is.deferrals ∙ length-set t.deferrals.pending r None ∙ shows.routes;
    ends = ap (λ (d : Backlog). length d.ends) is.deferrals ∙ shows.ends;
    owed = drop_left (pending_of t.deferrals r) old refl some is.owed;
  }

  robots_cut : robots_of (withdrawn s.fleet (removable_tail s.fleet r)) ≡ with_end (robots_of s.fleet) r (end_of (withdrawn s.fleet (removable_tail s.fleet r)) r)
  robots_cut = let is = ends-withdrawn s.fleet r good.plan in λ i. record { ends = is i; places = places s.fleet; holdings = holdings s.fleet }

  abbrev pub cut_state : State
  cut_state = moved s (withdrawn s.fleet (removable_tail s.fleet r)) r None

  cut_left : (o : Option Pending) → pending_of t.deferrals r ≡ o → u.owed + (length (removable_tail s.fleet r) + route_count o) ≡ t.owed → u.owed ≡ owed cut_state
  cut_left None is sum = omega (arith, sum, shows.owed, cut_owes s r good (pending_same t s r None shows is))
  cut_left (Some p) is sum = omega (arith, sum, shows.owed, cut_both_owes s r p.route good (pending_same t s r (Some p) shows is))

  pub cut_shown : IsCut t u r (length (removable_tail s.fleet r)) (end_of (withdrawn s.fleet (removable_tail s.fleet r)) r) (footprint_of s.fleet.site (end_of (withdrawn s.fleet (removable_tail s.fleet r)) r)) → Shows u cut_state
  cut_shown is = record {
    robots = is.setting.robots ∙ shows.robots;
    groups = is.setting.groups ∙ shows.groups;
    events =
        is.events
        ∙ ap (λ es. without_events es (tail_of r (length (removable_tail s.fleet r)) es)) shows.events
        ∙ ap (λ es. without_events (unfinished s.fleet) es) (tail_whole s.fleet r (removable_tail s.fleet r) (tail_is s.fleet r good.plan))
        ∙ sym (cut_whole s.fleet (removable_tail s.fleet r));
    next = is.next ∙ shows.next;
    known = is.known ∙ ap (λ (k : Robots). with_end k r (end_of (withdrawn s.fleet (removable_tail s.fleet r)) r)) shows.known ∙ sym robots_cut;
    deferrals =
        subst (λ b. deferrals.Shows b cut_state) (sym is.deferrals)
        (ended_shown cut_state (end_of (withdrawn s.fleet (removable_tail s.fleet r)) r) refl refl (ends-withdrawn s.fleet r good.plan));
    routes = routes_left u.deferrals None (footprint_of s.fleet.site (end_of (withdrawn s.fleet (removable_tail s.fleet r)) r)) is.deferrals;
    ends = ends_left u.deferrals None (footprint_of s.fleet.site (end_of (withdrawn s.fleet (removable_tail s.fleet r)) r)) is.deferrals;
    owed = cut_left (pending_of t.deferrals r) refl is.owed;
  }

-- a reported event
module _ (t u : Tables) (s : State) (e : Event) (shows : Shows t s) (good : IsGood s) (is_site : IsSite s.fleet.site) (counted : IsCounted s.fleet.site) (ready : IsReady (IsBehind s.fleet.site.groups) s.fleet.plan s.fleet.finished e) where
  abbrev pub reported_state : State
  reported_state = record s { fleet = reported s.fleet (Some e); count = s.count + 1 }

  pub reported_shown : IsReported t u e → Shows u reported_state
  reported_shown is = record {
    robots = is.setting.robots ∙ shows.robots;
    groups = is.setting.groups ∙ shows.groups;
    events = is.events ∙ ap (λ es. without_number es e.no) shows.events ∙ sym (finish_whole s.fleet e);
    next = is.next ∙ shows.next;
    known = is.known ∙ ap (λ (k : Robots). after_report k e.robot.0 e.kind) shows.known ∙ sym (report s.fleet e is_site counted good.plan ready);
    deferrals = subst (λ b. deferrals.Shows b reported_state) (sym is.deferrals) (record {
      groups = shows.deferrals.groups;
      routes = shows.deferrals.routes;
      needs = shows.deferrals.needs;
      ends = shows.deferrals.ends;
    });
    routes = ap (λ (b : Backlog). length b.pending) is.deferrals ∙ shows.routes;
    ends = ap (λ (b : Backlog). length b.ends) is.deferrals ∙ shows.ends;
    owed = omega (arith, is.owed, shows.owed, report_owes s e good ready);
  }
