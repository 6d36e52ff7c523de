use Rattle.std.proofs.Common.{◌≡◌, ◌==◌, length, drop}
use Rattle.std.specs.List.{list_all}
use Rattle.scenario.proofs.print.push_header.Given as goal

abbrev pub invariant-loop-crossing : goal.invariant-loop-crossing
invariant-loop-crossing l = record {
  same : l.text.items ≡ l.initial.text.items;
  none : list_all (λ x. length x.flows == 0) (drop l.crossing l.site.crossings) ≡ list_all (λ x. length x.flows == 0) l.site.crossings;
}
