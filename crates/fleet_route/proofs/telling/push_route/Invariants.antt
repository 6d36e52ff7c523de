use Rattle.std.proofs.Common.{◌≡◌, ◌++◌}
use Rattle.route_plan.specs.Labels.{label_at}
use Rattle.fleet_route.specs.Texts.{label_lines}
use Rattle.fleet_route.proofs.telling.push_route.Given as goal

abbrev pub invariant-loop-number : goal.invariant-loop-number
invariant-loop-number l = l.text.items ≡ l.initial.text.items ++ label_lines l.names l.number (label_at l.route.labels)
