use Rattle.std.proofs.Common.{◌≡◌, take}
use Rattle.event_graph.specs.Graphs.{greatest_after}
use Rattle.plain_graph.proofs.scans.greatest.Given as goal

abbrev pub invariant-loop-f : goal.invariant-loop-f
invariant-loop-f l = l.last ≡ greatest_after l.groups (take l.f-index l.events) l.e
