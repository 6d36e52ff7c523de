use Rattle.std.proofs.Common.{◌≡◌, ◌<◌, ◌-◌, ◌∙◌, Option, Some, None, List, [], ◌∷◌, ◌++◌, not, map, ap, sym, subst, refl, length, take, set, arith}
use Rattle.std.proofs.lemmas.List.{take_all, length-take, length-set}
use Rattle.std.specs.Prelude.{slice_get}
use Rattle.std.proofs.lemmas.Option.{none-some, same_Some}
use Rattle.fleet_base.specs.declared.numbers.EventNo.{EventNo}
use Rattle.fleet_base.specs.declared.numbers.Event.{Event}
use Rattle.fleet_model.specs.Plans.{own, is_done}
use Rattle.fleet_model.specs.Good.{IsAscending}
use Rattle.fleet_model.specs.Lists.{In, here}
use Rattle.fleet_model.proofs.Lists.{In-append_right}
use Rattle.fleet_model.proofs.Numbers.{IsAscending-filter, own_In}
use Rattle.number_queues.specs.Queues.{queue_of}
use Rattle.event_graph.specs.Graphs.{without_number, tail_of}
use Rattle.event_graph.specs.Stores.{events_of, AreNumbered, AreQueued}
use Rattle.event_graph.proofs.Owns.{number_of, split_last, queued_last, queue_cut}
use Rattle.event_graph.proofs.Slotted.{emptied, emptied_count, numbered_emptied}
use Rattle.event_graph.proofs.Storing.{cut, chained_emptied}
use Rattle.event_graph.proofs.Tails.{tail_none, events_less, owns_less}
use Rattle.event_graph.proofs.graph.EventGraph.cut_tail.Goals as goal
use Rattle.event_graph.proofs.graph.EventGraph.cut_tail.Goals.{In-loop-gone, In-Some}

pub loop-gone-init : goal.loop-gone-init
loop-gone-init c = record {
  groups = refl;
  reaches = refl;
  number = refl;
  keyed = c.self.invariant.keyed;
  numbered = c.self.invariant.numbered;
  robots = refl;
  claims = refl;
  counted = c.self.invariant.counted;
  events = tail_none c.args.robot.0 (events_of c.self.inside.slots.items);
  owns = sym (take_all (length (own c.args.robot.0 (events_of c.self.inside.slots.items)) - 0) (own c.args.robot.0 (events_of c.self.inside.slots.items)) (omega arith));
}

pub invariant_of-self : goal.invariant_of-self
invariant_of-self c =
    rw (c.loop-gone.invariant.groups, c.loop-gone.invariant.reaches, c.loop-gone.invariant.number)
    (cut _ _ _ _ _ _ _ c.self.invariant c.args.robot.0 c.loop-gone._gone c.loop-gone.self-inside.slots.items c.loop-gone.self-inside.robots c.loop-gone.self-inside.claims c.loop-gone.self-inside.kept c.loop-gone.invariant.keyed (subst (λ n. AreNumbered c.loop-gone.self-inside.slots.items n) c.loop-gone.invariant.number c.loop-gone.invariant.numbered) c.loop-gone.invariant.counted c.loop-gone.invariant.robots c.loop-gone.invariant.claims c.loop-gone.invariant.events)

enough : (c : In-loop-gone) → c.loop-gone._gone < length (own c.args.robot.0 (events_of c.self.inside.slots.items))
enough c = let a = rw (← c.self.view_is) at c.requires.unfinished in let b = c.loop-gone-test.true in omega arith

rises : (c : In-loop-gone) → IsAscending 0 (events_of c.loop-gone.self-inside.slots.items)
rises c = subst (λ es. IsAscending 0 es) (sym c.loop-gone.invariant.events) (IsAscending-filter (λ x. not (is_done (tail_of c.args.robot.0 c.loop-gone._gone (events_of c.self.inside.slots.items)) x)) 0 (events_of c.self.inside.slots.items) c.self.invariant.graph.ascends)

-- the robot's last event
the_last : (c : In-loop-gone) → (front : List Event) × (e : Event) × (own c.args.robot.0 (events_of c.loop-gone.self-inside.slots.items) ≡ front ++ e ∷ [])
the_last c = split_last (own c.args.robot.0 (events_of c.loop-gone.self-inside.slots.items)) (let a = ap length c.loop-gone.invariant.owns in let b = length-take (length (own c.args.robot.0 (events_of c.self.inside.slots.items)) - c.loop-gone._gone) (own c.args.robot.0 (events_of c.self.inside.slots.items)) in let d = enough c in omega arith)

within : (c : In-loop-gone) → c.args.robot.0 < length c.loop-gone.self-inside.robots.queues
within c = let a = rw (← c.self.view_is) at c.requires.robot in let b = c.loop-gone.invariant.robots in omega arith

last_is : (c : In-loop-gone) → slice_get (queue_of c.args.robot.0 c.loop-gone.self-inside.robots.queues) (length (queue_of c.args.robot.0 c.loop-gone.self-inside.robots.queues) - 1) ≡ Some (the_last c).1.no.0
last_is c = queued_last (queue_of c.args.robot.0 c.loop-gone.self-inside.robots.queues) (the_last c).0 (the_last c).1 (c.loop-gone.invariant.keyed.by_robot c.args.robot.0 (within c) ∙ ap (λ es. map number_of es) (the_last c).2)

last_in : (c : In-loop-gone) → In (the_last c).1 (events_of c.loop-gone.self-inside.slots.items) × ((the_last c).1.robot.0 ≡ c.args.robot.0)
last_in c = own_In c.args.robot.0 (events_of c.loop-gone.self-inside.slots.items) (subst (λ es. In (the_last c).1 es) (sym (the_last c).2) (In-append_right (the_last c).0 ((the_last c).1 ∷ []) (here refl)))

pub invariant_of-self-in_default : goal.invariant_of-self-in_default
invariant_of-self-in_default c = absurd (none-some _ (sym c.in_default.is ∙ (c.pop_back.ensures.last ∙ last_is (goal.at.invariant_of-self-in_default c).In-loop-gone)))

pub returns-in_default-clause-events : goal.returns-in_default-clause-events
returns-in_default-clause-events c = absurd (none-some _ (sym c.in_default.is ∙ (c.pop_back.ensures.last ∙ last_is (goal.at.returns-in_default-clause-events c).In-loop-gone)))

pub find-slot-requires-clause-has : goal.find-slot-requires-clause-has
find-slot-requires-clause-has c =
    let d = (goal.at.find-slot-requires-clause-has c).In-loop-gone in
    let number : c.in-Some.number ≡ (the_last d).1.no.0 = same_Some c.in-Some.number (the_last d).1.no.0 (sym c.in-Some.is ∙ (c.pop_back.ensures.last ∙ last_is d)) in
    rw c.deref.ensures.value ((the_last d).1, (last_in d).0, ap (λ k. let n : EventNo = record { 0 = k } in n) (sym number))

pub overflow_sub-self : goal.overflow_sub-self
overflow_sub-self c =
    let slot = rw c.deref.ensures.value at c.find-slot.ensures.slot in
    let one = emptied_count c.loop-gone.self-inside.slots.items 0 (rises (goal.at.overflow_sub-self c).In-loop-gone) c.find-slot.result.0 c.find-slot.result.1 slot in
    let counted = c.loop-gone.invariant.counted in
    omega arith

pub loop-gone-preserved : goal.loop-gone-preserved
loop-gone-preserved c =
    let d = (goal.at.loop-gone-preserved c).In-loop-gone in
    let slots : List (Option Event) = c.loop-gone.self-inside.slots.items in
    let old : List Event = events_of c.self.inside.slots.items in
    let front : List Event = (the_last d).0 in
    let e : Event = (the_last d).1 in
    let last : own c.args.robot.0 (events_of slots) ≡ front ++ e ∷ [] = (the_last d).2 in
    let up : IsAscending 0 (events_of slots) = rises d in
    let slot = rw c.deref.ensures.value at c.find-slot.ensures.slot in
    let number : c.in-Some.number ≡ e.no.0 = same_Some c.in-Some.number e.no.0 (sym c.in-Some.is ∙ (c.pop_back.ensures.last ∙ last_is d)) in
    let same : c.find-slot.result.1.no.0 ≡ e.no.0 = ap (λ (x : EventNo). x.0) c.find-slot.ensures.number ∙ number in
    let gone : events_of (set slots c.find-slot.result.0 None) ≡ without_number (events_of slots) e.no = emptied slots 0 up c.find-slot.result.0 c.find-slot.result.1 e.no slot same in
    let robot : c.args.robot.0 ≡ e.robot.0 = sym (last_in d).1 in
    record {
      groups = c.loop-gone.invariant.groups;
      reaches = c.loop-gone.invariant.reaches;
      number = c.loop-gone.invariant.number;
      keyed = record {
        by_robot = subst (λ es. AreQueued es c.pop_back.new.self.queues) (sym gone) (queue_cut (events_of slots) up e (last_in d).0 c.loop-gone.self-inside.robots.queues c.pop_back.new.self.queues c.loop-gone.invariant.keyed.by_robot
            (subst (λ r. r < length c.loop-gone.self-inside.robots.queues) robot (within d)) front (subst (λ r. own r (events_of slots) ≡ front ++ e ∷ []) robot last)
            (subst (λ r. c.pop_back.new.self.queues ≡ set c.loop-gone.self-inside.robots.queues r (take (length (queue_of r c.loop-gone.self-inside.robots.queues) - 1) (queue_of r c.loop-gone.self-inside.robots.queues))) robot c.pop_back.ensures.queues));
        by_claim = chained_emptied slots c.loop-gone.self-inside.claims c.remove.new.self c.find-slot.result.0 c.loop-gone.invariant.keyed.by_claim c.remove.ensures.keys;
      };
      numbered = numbered_emptied slots c.loop-gone.self-inside.next_no c.loop-gone.invariant.numbered c.find-slot.result.0 c.find-slot.result.1 slot;
      robots = ap length c.pop_back.ensures.queues ∙ (length-set _ _ _ ∙ c.loop-gone.invariant.robots);
      claims = c.remove.ensures.chains ∙ c.loop-gone.invariant.claims;
      counted = (let a = c.loop-gone.invariant.counted in omega (arith, emptied_count slots 0 up c.find-slot.result.0 c.find-slot.result.1 slot));
      events = gone ∙ events_less c.args.robot.0 old (events_of slots) c.self.invariant.graph.ascends c.loop-gone._gone c.loop-gone.invariant.events (enough d) c.loop-gone.invariant.owns front e last;
      owns = ap (λ es. own c.args.robot.0 es) gone ∙ owns_less c.args.robot.0 old (events_of slots) c.self.invariant.graph.ascends c.loop-gone._gone c.loop-gone.invariant.events (enough d) c.loop-gone.invariant.owns front e last;
    }
