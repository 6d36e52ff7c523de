use Rattle.std.proofs.Common.{◌≡◌, ◌+◌, ◌∙◌, ap, refl, List, [], ◌++◌}
use Rattle.fleet_base.specs.declared.numbers.Event.{Event}
use Rattle.fleet_model.specs.Sites.{in_conflict}
use Rattle.fleet_model.specs.Plans.{numbered}
use Rattle.event_graph.specs.Example.{example_groups, over, behind, back}
use Rattle.event_graph.proofs.Deciding.{known_at, apart_at}
use Rattle.plan_tests.proofs.event_graph_calls.example.Goals as goal

groups_1 : (c : goal.After-over-2-1) → c.reserve.new.self.groups ≡ example_groups
groups_1 c = c.reserve.ensures.unchanged.groups ∙ (c.in_ok-graph.ensures.groups ∙ c.alone_groups.ensures)

pub append-requires-clause-known : goal.append-requires-clause-known
append-requires-clause-known c = known_at c.reserve.new.self.groups example_groups over (groups_1 c) refl

pub append-requires-clause-apart : goal.append-requires-clause-apart
unfolding in_conflict
append-requires-clause-apart c = apart_at c.reserve.new.self.groups example_groups c.reserve.new.self.events [] c.reserve.new.self.next 1 0 over (groups_1 c) (c.reserve.ensures.unchanged.events ∙ c.in_ok-graph.ensures.events) (c.reserve.ensures.unchanged.next ∙ c.in_ok-graph.ensures.next) refl

groups_2 : (c : goal.After-behind-2-1) → c.reserve-2.new.self.groups ≡ example_groups
groups_2 c = c.reserve-2.ensures.unchanged.groups ∙ (c.append.ensures.setting.groups ∙ (c.reserve.ensures.unchanged.groups ∙ (c.in_ok-graph.ensures.groups ∙ c.alone_groups.ensures)))

events_2 : (c : goal.After-behind-2-1) → c.reserve-2.new.self.events ≡ numbered 1 0 over
events_2 c =
    c.reserve-2.ensures.unchanged.events ∙ (c.append.ensures.events
    ∙ (ap (λ (es : List Event). es ++ numbered c.reserve.new.self.next 0 over) (c.reserve.ensures.unchanged.events ∙ c.in_ok-graph.ensures.events)
    ∙ ap (λ n. numbered n 0 over) (c.reserve.ensures.unchanged.next ∙ c.in_ok-graph.ensures.next)))

next_2 : (c : goal.After-behind-2-1) → c.reserve-2.new.self.next ≡ 7
next_2 c = c.reserve-2.ensures.unchanged.next ∙ (c.append.ensures.next ∙ ap (λ n. n + 6) (c.reserve.ensures.unchanged.next ∙ c.in_ok-graph.ensures.next))

pub append-requires-2-clause-known : goal.append-requires-2-clause-known
append-requires-2-clause-known c = known_at c.reserve-2.new.self.groups example_groups behind (groups_2 c) refl

pub append-requires-2-clause-apart : goal.append-requires-2-clause-apart
unfolding in_conflict
append-requires-2-clause-apart c = apart_at c.reserve-2.new.self.groups example_groups c.reserve-2.new.self.events (numbered 1 0 over) c.reserve-2.new.self.next 7 1 behind (groups_2 c) (events_2 c) (next_2 c) refl

groups_3 : (c : goal.After-back-2-1) → c.reserve-3.new.self.groups ≡ example_groups
groups_3 c = c.reserve-3.ensures.unchanged.groups ∙ (c.append-2.ensures.setting.groups ∙ (c.reserve-2.ensures.unchanged.groups ∙ (c.append.ensures.setting.groups ∙ (c.reserve.ensures.unchanged.groups ∙ (c.in_ok-graph.ensures.groups ∙ c.alone_groups.ensures)))))

pub append-requires-3-clause-known : goal.append-requires-3-clause-known
append-requires-3-clause-known c = known_at c.reserve-3.new.self.groups example_groups back (groups_3 c) refl

pub append-requires-3-clause-apart : goal.append-requires-3-clause-apart
unfolding in_conflict
append-requires-3-clause-apart c =
    let next : c.reserve-2.new.self.next ≡ 7 = c.reserve-2.ensures.unchanged.next ∙ (c.append.ensures.next ∙ ap (λ n. n + 6) (c.reserve.ensures.unchanged.next ∙ c.in_ok-graph.ensures.next)) in
    let events : c.reserve-2.new.self.events ≡ numbered 1 0 over =
    c.reserve-2.ensures.unchanged.events ∙ (c.append.ensures.events
    ∙ (ap (λ (es : List Event). es ++ numbered c.reserve.new.self.next 0 over) (c.reserve.ensures.unchanged.events ∙ c.in_ok-graph.ensures.events)
    ∙ ap (λ n. numbered n 0 over) (c.reserve.ensures.unchanged.next ∙ c.in_ok-graph.ensures.next))) in
    apart_at c.reserve-3.new.self.groups example_groups c.reserve-3.new.self.events (numbered 1 0 over ++ numbered 7 1 behind) c.reserve-3.new.self.next 10 2 back (groups_3 c)
    (c.reserve-3.ensures.unchanged.events ∙ (c.append-2.ensures.events
    ∙ (ap (λ (es : List Event). es ++ numbered c.reserve-2.new.self.next 1 behind) events ∙ ap (λ n. numbered 1 0 over ++ numbered n 1 behind) next)))
    (c.reserve-3.ensures.unchanged.next ∙ (c.append-2.ensures.next ∙ ap (λ n. n + 3) next))
    refl
