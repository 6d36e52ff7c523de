use Rattle.std.proofs.Common.{◌-◌, length}
use Rattle.plan_journal.specs.Left.{IsWithin}
use Rattle.fleet_replay.proofs.Runs.{Stands}
use Rattle.fleet_replay.proofs.journal.replay_journal.Given as goal

abbrev pub invariant-loop-fleet : goal.invariant-loop-fleet
invariant-loop-fleet l = record {
  stands : Stands l.names l.text l.fn.site l.starts l.fleet l.end;
  within : IsWithin l.text l.end;
}

abbrev pub decreases-loop-fleet : goal.decreases-loop-fleet
decreases-loop-fleet l = length l.text - l.end.used
