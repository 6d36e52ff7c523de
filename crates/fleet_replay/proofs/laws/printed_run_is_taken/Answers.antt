use Rattle.fleet_replay.proofs.Again.{run_taken}
use Rattle.fleet_replay.proofs.laws.printed_run_is_taken.Goals as goal

pub returns : goal.returns
returns c = λ input run. run_taken input run
