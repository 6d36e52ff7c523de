use Rattle.mission_model.proofs.Serial.{run_found, one_run}
use Rattle.mission_model.proofs.Truth.{serial_true}
use Rattle.mission_model.proofs.laws.serial_run_is_one.Goals as goal

pub returns : goal.returns
returns c = record {
  found = λ missions opening journal site good legal. run_found missions opening site good journal legal;
  one = one_run;
  legal = λ missions opening journal entries site good legal h. (serial_true missions opening journal entries site good legal h).0;
  mission = λ missions opening journal entries site good legal h. (serial_true missions opening journal entries site good legal h).1;
}
