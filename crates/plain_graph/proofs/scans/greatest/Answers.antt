use Rattle.std.proofs.Common.{sym, ap, ◌∙◌, arith, List}
use Rattle.std.proofs.lemmas.List.{take_all}
use Rattle.fleet_base.specs.declared.numbers.Event.{Event}
use Rattle.event_graph.specs.Graphs.{greatest_after}
use Rattle.event_graph.proofs.Scanning.{greatest_skip, greatest_new}
use Rattle.plain_graph.proofs.scans.greatest.Goals as goal
use Rattle.plain_graph.proofs.scans.greatest.Goals.{then-is_awaited, else-is_awaited}

pub loop-f-preserved : goal.loop-f-preserved
loop-f-preserved c =
    elim c.if-is_awaited.branch [
      | then-is_awaited w ↦ w.last-is ∙ sym (greatest_new c.args.groups.now c.args.events.now c.args.e c.loop-f.f-index _ c.requires c.loop-f-test.true (sym c.is_awaited.ensures ∙ w.if-is_awaited.true))
      | else-is_awaited w ↦ w.last-is ∙ (c.loop-f.invariant ∙ sym (greatest_skip c.args.groups.now c.args.events.now c.args.e c.loop-f.f-index _ c.loop-f-test.true (sym c.is_awaited.ensures ∙ w.if-is_awaited.false)))
    ]

pub returns : goal.returns
returns c = c.loop-f.invariant ∙ ap (λ (es : List Event). greatest_after c.args.groups.now es c.args.e) (take_all c.loop-f.f-index c.args.events.now (omega arith))
