use Rattle.std.proofs.Common.{◌≡◌, take}
use Rattle.fleet_base.specs.declared.numbers.Event.{Event}
use Rattle.fleet_model.specs.Lists.{In}
use Rattle.plain_graph.proofs.scans.event_at.Given as goal

abbrev pub invariant-loop-e : goal.invariant-loop-e
invariant-loop-e l = (x : Event) → In x (take l.e-index l.events) → x.no ≡ l.n → ⊥
