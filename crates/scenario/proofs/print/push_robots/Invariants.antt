use Rattle.std.proofs.Common.{◌≡◌, ◌++◌}
use Rattle.scenario.specs.Canonical.{each, robot_text}
use Rattle.scenario.proofs.print.push_robots.Given as goal

abbrev pub invariant-loop-robot : goal.invariant-loop-robot
invariant-loop-robot l = l.text.items ≡ l.initial.text.items ++ each (robot_text l.names l.starts) l.robot
