use Rattle.std.proofs.Common.{◌≡◌, ◌++◌, ◌+◌, take}
use Rattle.scenario.specs.Canonical.{each, crossing_text}
use Rattle.site_map.specs.Crossings.{crossing_claims}
use Rattle.scenario.proofs.print.push_crossings.Given as goal

abbrev pub invariant-loop-crossing : goal.invariant-loop-crossing
invariant-loop-crossing l = record {
  text : l.text.items ≡ l.initial.text.items ++ each (crossing_text l.names l.site) l.crossing;
  first : l.first ≡ l.site.cells + crossing_claims (take l.crossing l.site.crossings);
}
