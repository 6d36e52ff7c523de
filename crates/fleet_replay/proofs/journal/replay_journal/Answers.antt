use Rattle.fleet_replay.specs.Stops.{of_journal}
use Rattle.fleet_replay.proofs.Runs.{entry_fails, line_fails, rest_fails, run_ends, stands_on}
use Rattle.fleet_replay.proofs.Stops.{handed_on}
use Rattle.fleet_replay.proofs.journal.replay_journal.Goals as goal

pub returns-in_err-entry-clause-is : goal.returns-in_err-entry-clause-is
returns-in_err-entry-clause-is c =
    let cause = c.in_err-entry.field-0.0 in
    handed_on _ _ _ (of_journal cause) c.from_residual-in_err-entry.ensures.1 (line_fails c.read_entry.new.place c.loop-fleet.invariant.stands cause c.in_err-entry.ensures.is)

pub returns-in_err-read_rest-in-Err-clause-is : goal.returns-in_err-read_rest-in-Err-clause-is
returns-in_err-read_rest-in-Err-clause-is c =
    let cause = c.in_err-read_rest-in-Err.field-0.0 in
    handed_on _ _ _ (of_journal cause) c.from_residual-in_err-read_rest-in-Err.ensures.1
    (rest_fails c.read_entry.new.place c.loop-fleet.invariant.stands c.in-Some.is c.in_ok-entry.ensures.is c.in_ok-entry.ensures.moved.1 cause c.in_err-read_rest-in-Err.ensures.is)

pub returns-in-Err-clause-is : goal.returns-in-Err-clause-is
returns-in-Err-clause-is c =
    rw c.from.ensures
    (entry_fails c.read_entry.new.place c.loop-fleet.invariant.stands c.in-Some.is c.in_ok-entry.ensures.is c.in_ok-entry.ensures.moved.1 c.in-Err.refused c.in-Err.ensures c.in_ok-read_rest-in-Err.ensures.is)

pub loop-fleet-preserved-in-Ok-replay_entry : goal.loop-fleet-preserved-in-Ok-replay_entry
loop-fleet-preserved-in-Ok-replay_entry c = record {
  stands = stands_on c.read_entry.new.place c.loop-fleet.invariant.stands c.in-Some.is c.in_ok-entry.ensures.is c.in_ok-entry.ensures.moved.1 c.in-Ok-replay_entry.ensures;
  within = c.read_entry.ensures.within;
}

pub loop-fleet-preserved-in-Ok-replay_entry-2 : goal.loop-fleet-preserved-in-Ok-replay_entry-2
loop-fleet-preserved-in-Ok-replay_entry-2 c = record {
  stands = stands_on c.read_entry.new.place c.loop-fleet.invariant.stands c.in-Some.is c.in_ok-entry.ensures.is c.in_ok-entry.ensures.moved.1 c.in-Ok-replay_entry.ensures;
  within = c.read_entry.ensures.within;
}

pub loop-fleet-preserved-in-Ok-replay_entry-3 : goal.loop-fleet-preserved-in-Ok-replay_entry-3
loop-fleet-preserved-in-Ok-replay_entry-3 c = record {
  stands = stands_on c.read_entry.new.place c.loop-fleet.invariant.stands c.in-Some.is c.in_ok-entry.ensures.is c.in_ok-entry.ensures.moved.1 c.in-Ok-replay_entry.ensures;
  within = c.read_entry.ensures.within;
}

pub loop-fleet-preserved : goal.loop-fleet-preserved
loop-fleet-preserved c = record {
  stands = stands_on c.read_entry.new.place c.loop-fleet.invariant.stands c.in-Some.is c.in_ok-entry.ensures.is c.in_ok-entry.ensures.moved.1 c.in-Ok-replay_entry.ensures;
  within = c.read_entry.ensures.within;
}

pub returns-clause-is : goal.returns-clause-is
returns-clause-is c = run_ends c.read_entry.new.place c.loop-fleet.invariant.stands c.in_default-2.is c.in_ok-entry.ensures.is
