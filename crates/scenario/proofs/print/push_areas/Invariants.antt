use Rattle.std.proofs.Common.{◌≡◌, ◌++◌}
use Rattle.scenario.specs.Canonical.{each, area_text}
use Rattle.scenario.proofs.print.push_areas.Given as goal

abbrev pub invariant-loop-area : goal.invariant-loop-area
invariant-loop-area l = l.text.items ≡ l.initial.text.items ++ each (area_text l.names l.site) l.area
