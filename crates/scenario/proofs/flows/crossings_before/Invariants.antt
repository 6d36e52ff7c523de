use Rattle.std.proofs.Common.{◌≡◌, ◌≤◌, take}
use Rattle.site_map.specs.Built.{crossings_with}
use Rattle.scenario.proofs.flows.crossings_before.Given as goal

abbrev pub invariant-loop-earlier : goal.invariant-loop-earlier
invariant-loop-earlier l = record {
  count : l.count ≡ crossings_with (take l.earlier l.site.crossings) l.cell;
  small : l.count ≤ l.earlier;
}
