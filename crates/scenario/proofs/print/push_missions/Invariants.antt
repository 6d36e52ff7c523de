use Rattle.std.proofs.Common.{◌≡◌, ◌++◌}
use Rattle.scenario.specs.Canonical.{each, mission_text}
use Rattle.scenario.proofs.print.push_missions.Given as goal

abbrev pub invariant-loop-robot : goal.invariant-loop-robot
invariant-loop-robot l = l.text.items ≡ l.initial.text.items ++ each (mission_text l.names l.missions) l.robot
