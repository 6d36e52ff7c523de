use Rattle.std.proofs.Common.{◌≡◌, ◌++◌}
use Rattle.fleet_names.specs.Names.{count_of}
use Rattle.fleet_names.specs.Things.{same_kind}
use Rattle.scenario_gen.specs.Generated.{numbered}
use Rattle.scenario_gen.proofs.naming.add_numbered.Given as goal

abbrev pub invariant-loop-number : goal.invariant-loop-number
invariant-loop-number l = record {
  named : l.names ≡ l.fn.names ++ numbered l.letter l.kind l.number;
  count : count_of (same_kind l.kind) l.names ≡ l.number;
}
