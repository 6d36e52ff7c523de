use Rattle.std.proofs.Common.{◌≡◌, ◌++◌, ◌∙◌, ap, sym, length, take, arith, get_or, List, [], ◌∷◌}
use Rattle.std.proofs.lemmas.List.{append_assoc, take_all}
use Rattle.fleet_base.specs.declared.numbers.Event.{Event}
use Rattle.fleet_base.specs.declared.numbers.Kind.{Kind}
use Rattle.fleet_base.specs.declared.numbers.Kind.TheVariants.{Acquire}
use Rattle.fleet_model.specs.Plans.{numbered}
use Rattle.event_graph.proofs.Changes.{append_good, numbered_more}
use Rattle.plain_graph.proofs.graph.PlainGraph.append.Goals as goal

pub invariant_of-self : goal.invariant_of-self
invariant_of-self c =
    let all : take c.loop-kind.kind-index c.args.kinds.now ≡ c.args.kinds.now = take_all c.loop-kind.kind-index c.args.kinds.now (omega arith) in
    let last : c.loop-kind.kind-index ≡ length c.args.kinds.now = omega arith in
    let few = rw (← c.self.view_is) at c.requires.few in
    let robot = rw (← c.self.view_is) at c.requires.robot in
    let known = rw (← c.self.view_is) at c.requires.known in
    let apart = rw (← c.self.view_is) at c.requires.apart in
    rw (c.loop-kind.invariant.robots, c.loop-kind.invariant.groups, c.loop-kind.invariant.items, all, c.loop-kind.invariant.number, last)
    (append_good _ _ _ _ c.self.invariant c.args.robot.0 c.args.kinds.now few robot known apart)

pub loop-kind-preserved : goal.loop-kind-preserved
loop-kind-preserved c =
    let blank : Kind = Acquire (record { 0 = 0 }) in
    let e : Event = record { no = record { 0 = c.loop-kind.self-inside.next_no }; robot = c.args.robot; kind = get_or c.args.kinds.now c.loop-kind.kind-index blank } in
    let old : List Event = c.self.inside.kept.items in
    let new : List Event = numbered c.self.inside.next_no c.args.robot.0 (take c.loop-kind.kind-index c.args.kinds.now) in
    let first : c.push_reserved.new.self.items ≡ (old ++ new) ++ e ∷ [] = c.push_reserved.ensures.items ∙ ap (λ es. es ++ e ∷ []) c.loop-kind.invariant.items in
    record {
      robots = c.loop-kind.invariant.robots;
      groups = c.loop-kind.invariant.groups;
      items = first ∙ (append_assoc old new (e ∷ []) ∙ ap (λ es. old ++ es) (sym (numbered_more c.self.inside.next_no c.args.robot.0 c.args.kinds.now c.loop-kind.kind-index blank c.loop-kind.self-inside.next_no c.loop-kind-test.true c.loop-kind.invariant.number)));
      number = omega arith;
      room = c.push_reserved.ensures.capacity ∙ c.loop-kind.invariant.room;
      len = omega arith;
    }
