use Rattle.std.proofs.Common.{◌≡◌, ◌++◌, drop}
use Rattle.std.specs.Prelude.{flat_map}
use Rattle.scenario.specs.Canonical.{leg_text}
use Rattle.scenario.proofs.print.push_mission.Given as goal

abbrev pub invariant-loop-leg : goal.invariant-loop-leg
invariant-loop-leg l = l.text.items ++ flat_map (leg_text l.names) (drop l.leg-index l.legs) ≡ l.initial.text.items ++ flat_map (leg_text l.names) l.legs
