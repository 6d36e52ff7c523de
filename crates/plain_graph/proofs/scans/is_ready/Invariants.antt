use Rattle.std.proofs.Common.{take}
use Rattle.fleet_base.specs.declared.numbers.Event.{Event}
use Rattle.fleet_model.specs.Lists.{In}
use Rattle.fleet_model.specs.Plans.{IsBehind}
use Rattle.plain_graph.proofs.scans.is_ready.Given as goal

abbrev pub invariant-loop-f : goal.invariant-loop-f
invariant-loop-f l = (f : Event) → In f (take l.f-index l.events) → IsBehind l.groups l.e f → ⊥
