use Rattle.std.proofs.Common.{◌≡◌, ◌++◌, drop, map}
use Rattle.fleet_texts.specs.Words.{behind, robot_text}
use Rattle.fleet_texts.proofs.words.push_robots.Given as goal

abbrev pub invariant-loop-place : goal.invariant-loop-place
invariant-loop-place l = l.text.items ++ behind (map (robot_text l.names) (drop l.place l.robots)) ≡ l.initial.text.items ++ behind (map (robot_text l.names) l.robots)
