use Rattle.std.proofs.Common.{◌≡◌, take, drop, map}
use Rattle.std.specs.List.{list_all}
use Rattle.plan_journal.specs.Entries.{is_robot, robot_in}
use Rattle.plan_journal.proofs.lines.robots_named.Given as goal

abbrev pub invariant-loop-word : goal.invariant-loop-word
invariant-loop-word l = record {
  taken : l.robots ≡ map (robot_in l.names) (map (λ w. w.now) (take l.word-index l.words));
  left : list_all (is_robot l.names) (map (λ w. w.now) (drop l.word-index l.words)) ≡ list_all (is_robot l.names) (map (λ w. w.now) l.words);
}
