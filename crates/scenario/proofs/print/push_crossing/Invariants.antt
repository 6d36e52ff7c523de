use Rattle.std.proofs.Common.{◌≡◌, ◌++◌}
use Rattle.site_map.specs.Built.{crossing_at}
use Rattle.scenario.specs.Canonical.{each, flow_text}
use Rattle.scenario.proofs.print.push_crossing.Given as goal

abbrev pub invariant-loop-flow : goal.invariant-loop-flow
invariant-loop-flow l = l.text.items ≡ l.initial.text.items ++ each (flow_text l.names l.crossing (crossing_at l.site l.crossing)) l.flow
