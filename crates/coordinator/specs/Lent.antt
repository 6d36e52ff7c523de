-- What the graph of unfinished events answers, by the whole plan.
use Rattle.std.specs.Prelude.{◌≡◌, ◌↔◌, ℕ, not, List, length, slice_get}
use Rattle.std.specs.List.{filter, list_any}
use Rattle.fleet_base.specs.declared.numbers.Event.{Event}
use Rattle.fleet_model.specs.Lists.{In}
use Rattle.fleet_model.specs.Plans.{Fleet, IsBehind, IsReady, is_awaited, is_done, own, unfinished}
use Rattle.fleet_model.specs.Calls.{waits_on}
use Rattle.event_graph.specs.Graphs.{Graph, IsReadyAmong, greatest_after, has_waiting}

-- the events of robot r in the whole plan that aren't done
abbrev pub left_in_plan : Fleet → ℕ → List Event
left_in_plan m r = filter (λ e. not (is_done m.finished e)) (own r m.plan)

-- what the graph answers is what the whole plan gives: whether each earlier event of the robot and each release that the event stands behind is done, the robot's first event that isn't done, the greatest number of a release that an event waits for, whether another robot's event stands behind one, and how many events aren't done
pub record AnswersForPlan (g : Graph) (m : Fleet) : Type 0 where
  pub ready : (e : Event) → IsReadyAmong g.groups g.events e ↔ IsReady (IsBehind m.site.groups) m.plan m.finished e
  pub next : (r : ℕ) → slice_get (own r g.events) 0 ≡ slice_get (left_in_plan m r) 0
  pub greatest_before : (e : Event) → greatest_after g.groups g.events e ≡ waits_on m e
  pub awaited : (f : Event) → In f g.events → has_waiting g.groups g.events f ≡ list_any (λ e. is_awaited m.site.groups e f) m.plan
  pub kept : length g.events ≡ length (unfinished m)
