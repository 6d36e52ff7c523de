use Rattle.std.proofs.Common.{◌≡◌, ◌+◌, ◌++◌, ◌<◌, ◌∙◌, map, ap, sym, subst, refl, length, take, arith, get_or, List, [], ◌∷◌, Option, Some}
use Rattle.std.proofs.lemmas.List.{append_assoc, take_all, length-set}
use Rattle.fleet_base.specs.declared.numbers.Event.{Event}
use Rattle.fleet_base.specs.declared.numbers.Kind.{Kind}
use Rattle.fleet_base.specs.declared.numbers.Kind.TheVariants.{Acquire}
use Rattle.fleet_model.specs.Plans.{numbered}
use Rattle.event_graph.specs.Stores.{events_of, claim_key, AreNumbered, AreQueued}
use Rattle.event_graph.proofs.Changes.{numbered_more}
use Rattle.event_graph.proofs.Slotted.{events-append, known_within, numbered_pushed}
use Rattle.event_graph.proofs.Scanning.{In_get_or}
use Rattle.event_graph.proofs.Storing.{appended, chained_pushed}
use Rattle.event_graph.proofs.Owns.{queue_pushed}
use Rattle.event_graph.proofs.graph.EventGraph.append.Goals as goal

pub push-requires-in-loop-kind-clause-chain : goal.push-requires-in-loop-kind-clause-chain
push-requires-in-loop-kind-clause-chain c =
    let known = rw (← c.self.view_is) at c.requires.known in
    rw (c.claim_of.ensures, c.loop-kind.invariant.claims, c.self.invariant.claim_count)
    (known_within _ _ (known _ (In_get_or c.args.kinds.now c.loop-kind.kind-index _ c.loop-kind-test.true)))

pub loop-kind-preserved : goal.loop-kind-preserved
loop-kind-preserved c =
    let blank : Kind = Acquire (record { 0 = 0 }) in
    let e : Event = record { no = record { 0 = c.loop-kind.self-inside.next_no }; robot = c.args.robot; kind = get_or c.args.kinds.now c.loop-kind.kind-index blank } in
    let old : List Event = events_of c.self.inside.slots.items in
    let new : List Event = numbered c.self.inside.next_no c.args.robot.0 (take c.loop-kind.kind-index c.args.kinds.now) in
    let more : events_of c.push_reserved.new.self.items ≡ events_of c.loop-kind.self-inside.slots.items ++ e ∷ [] = ap events_of c.push_reserved.ensures.items ∙ events-append c.loop-kind.self-inside.slots.items (Some e ∷ []) in
    let robots = rw (← c.self.view_is) at c.requires.robot in
    let robot : c.args.robot.0 < length c.loop-kind.self-inside.robots.queues = omega (arith, c.loop-kind.invariant.robots) in
    record {
      groups = c.loop-kind.invariant.groups;
      reaches = c.loop-kind.invariant.reaches;
      keyed = record {
        by_robot = subst (λ es. AreQueued es c.push.new.self.queues) (sym more) (queue_pushed (events_of c.loop-kind.self-inside.slots.items) c.loop-kind.self-inside.robots.queues c.push.new.self.queues e c.loop-kind.invariant.keyed.by_robot robot c.push.ensures.queues);
        by_claim = subst (λ (slots : List (Option Event)). c.push-in-loop-kind.new.self.keys ≡ map claim_key slots) (sym c.push_reserved.ensures.items)
            (chained_pushed c.loop-kind.self-inside.slots.items c.loop-kind.self-inside.claims c.push-in-loop-kind.new.self (Some e) c.loop-kind.invariant.keyed.by_claim (c.push-in-loop-kind.ensures.keys ∙ ap (λ o. c.loop-kind.self-inside.claims.keys ++ o ∷ []) c.claim_of.ensures));
      };
      placed = subst (λ (slots : List (Option Event)). AreNumbered slots (c.loop-kind.self-inside.next_no + 1)) (sym c.push_reserved.ensures.items) (numbered_pushed c.loop-kind.self-inside.slots.items c.loop-kind.self-inside.next_no c.loop-kind.invariant.placed e refl);
      events = ap events_of c.push_reserved.ensures.items ∙ (events-append c.loop-kind.self-inside.slots.items (Some e ∷ []) ∙ (ap (λ es. es ++ e ∷ []) c.loop-kind.invariant.events
          ∙ (append_assoc old new (e ∷ []) ∙ ap (λ es. old ++ es) (sym (numbered_more c.self.inside.next_no c.args.robot.0 c.args.kinds.now c.loop-kind.kind-index blank c.loop-kind.self-inside.next_no c.loop-kind-test.true c.loop-kind.invariant.number)))));
      robots = ap length c.push.ensures.queues ∙ (length-set _ _ _ ∙ c.loop-kind.invariant.robots);
      claims = c.push-in-loop-kind.ensures.chains ∙ c.loop-kind.invariant.claims;
      kept = c.loop-kind.invariant.kept;
      number = omega (arith, c.loop-kind.invariant.number);
      room = c.push_reserved.ensures.capacity ∙ c.loop-kind.invariant.room;
      len = omega (arith, c.push_reserved.ensures.len, c.loop-kind.invariant.len);
      robots_spare = omega (arith, c.push.ensures.spare, c.loop-kind.invariant.robots_spare);
      claims_spare = omega (arith, c.push-in-loop-kind.ensures.spare, c.loop-kind.invariant.claims_spare);
    }

pub invariant_of-self : goal.invariant_of-self
invariant_of-self c =
    let all : take c.loop-kind.kind-index c.args.kinds.now ≡ c.args.kinds.now = take_all c.loop-kind.kind-index c.args.kinds.now (omega (arith, c.loop-kind-test.false)) in
    let last : c.loop-kind.kind-index ≡ length c.args.kinds.now = (let a = c.loop-kind.auto in let b = c.loop-kind-test.false in omega arith) in
    let few = rw (← c.self.view_is) at c.requires.few in
    let robot = rw (← c.self.view_is) at c.requires.robot in
    let known = rw (← c.self.view_is) at c.requires.known in
    let apart = rw (← c.self.view_is) at c.requires.apart in
    rw (c.loop-kind.invariant.groups, c.loop-kind.invariant.reaches)
    (appended _ _ _ _ _ _ _ c.self.invariant c.args.robot.0 c.args.kinds.now few robot known apart
    c.loop-kind.self-inside.slots.items c.loop-kind.self-inside.robots c.loop-kind.self-inside.claims c.loop-kind.self-inside.kept c.loop-kind.self-inside.next_no c.loop-kind.invariant.keyed c.loop-kind.invariant.placed
    (c.loop-kind.invariant.events ∙ ap (λ ks. events_of c.self.inside.slots.items ++ numbered c.self.inside.next_no c.args.robot.0 ks) all)
    c.loop-kind.invariant.robots c.loop-kind.invariant.claims c.loop-kind.invariant.kept (c.loop-kind.invariant.number ∙ ap (λ n. c.self.inside.next_no + n) last))
