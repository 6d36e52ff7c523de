use Rattle.std.proofs.Common.{◌++◌, ℕ, ap, ◌∙◌}
use Rattle.fleet_base.specs.declared.numbers.CellNo.{CellNo}
use Rattle.route_plan.specs.Labels.{label_at}
use Rattle.scenario.proofs.Prints.{then_more}
use Rattle.fleet_route.specs.Texts.{label_line}
use Rattle.fleet_route.proofs.telling.push_route.Goals as goal

pub loop-number-preserved : goal.loop-number-preserved
loop-number-preserved c =
    let labels = c.args.route.now.labels in
    let cell_of = λ (n : ℕ). let cell : CellNo = record { 0 = n } in cell in
    let line = λ (n : ℕ). label_line c.args.names.now (cell_of n) (label_at labels (cell_of n)) in
    then_more c.push_route_line.new.text.items c.loop-number.text.items c.push_label_line.new.text.items line c.loop-number.number c.loop-number.invariant
    (c.in_ok-push_label_line.ensures.ok ∙ ap (λ label. c.loop-number.text.items ++ label_line c.args.names.now (cell_of c.loop-number.number) label) c.label.ensures)
