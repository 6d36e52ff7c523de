use Rattle.std.proofs.Common.{◌≡◌, ◌-◌, ◌++◌}
use Rattle.scenario_reader.specs.MissionLines.{repeated}
use Rattle.scenario_reader.proofs.mission.append_times.Given as goal

abbrev pub invariant-loop : goal.invariant-loop
invariant-loop l = l.legs ++ repeated (l.times - l.counter) l.more ≡ l.initial.legs ++ repeated l.times l.more
