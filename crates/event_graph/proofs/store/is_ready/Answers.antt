use Rattle.std.proofs.Common.{false, refl, sym, ◌∙◌}
use Rattle.std.proofs.lemmas.Bool.{both_ways, true_from_ne_false}
use Rattle.fleet_model.specs.Plans.{own}
use Rattle.event_graph.specs.Stores.{events_of}
use Rattle.event_graph.proofs.Owns.{queued_at, queued_none, has_first, not_first, first_ready, not_free}
use Rattle.event_graph.proofs.store.is_ready.Goals as goal

pub returns-in_default : goal.returns-in_default
returns-in_default c =
    let none = queued_none (own c.args.event.robot.0 (events_of c.args.slots.now)) _ 0 (c.requires.keyed.by_robot c.args.event.robot.0 c.requires.robot) (sym c.get.ensures ∙ c.in_default.is) in
    absurd (has_first (events_of c.args.slots.now) c.requires.rises c.args.event.robot.0 c.args.groups.now c.args.event c.requires.event refl (sym none))

pub returns-then-first-event : goal.returns-then-first-event
returns-then-first-event c =
    let h = queued_at (own c.args.event.robot.0 (events_of c.args.slots.now)) _ 0 c.in-Some.first (c.requires.keyed.by_robot c.args.event.robot.0 c.requires.robot) (sym c.get.ensures ∙ c.in-Some.is) in (
      λ g. absurd (both_ways false refl g),
      λ ready. absurd (not_first (events_of c.args.slots.now) c.requires.rises c.args.event.robot.0 c.args.groups.now c.args.event c.requires.event refl h.0 h.1 (λ q. c.if-first-event.true (sym h.2 ∙ q)) ready),
    )

pub returns : goal.returns
returns c =
    let h = queued_at (own c.args.event.robot.0 (events_of c.args.slots.now)) _ 0 c.in-Some.first (c.requires.keyed.by_robot c.args.event.robot.0 c.requires.robot) (sym c.get.ensures ∙ c.in-Some.is) in (
      λ g. first_ready (events_of c.args.slots.now) c.requires.rises c.args.event.robot.0 c.args.groups.now c.args.event c.requires.event refl h.0 h.1 (h.2 ∙ c.if-first-event.false) (c.is_free.ensures.none g),
      λ ready. true_from_ne_false c.is_free.result (λ g. let f = c.is_free.ensures.some g in not_free (events_of c.args.slots.now) c.requires.rises c.args.event.robot.0 c.args.groups.now c.args.event c.requires.event refl f.0 f.1 f.2 ready),
    )
