use Rattle.fleet_model.specs.Calls.{Cancel, Propose, Report, Retry, Withdraw}
use Rattle.coordinator.proofs.Leaving.{leaves, replan_leaves}
use Rattle.coordinator.proofs.laws.journals_reach_what_calls_leave.Goals as goal

pub returns : goal.returns
returns c = record {
  propose = λ book r cells legal. leaves book legal r (Propose cells);
  retry = λ book r legal. leaves book legal r Retry;
  cancel = λ book r legal. leaves book legal r Cancel;
  withdraw = λ book r legal. leaves book legal r Withdraw;
  replan = λ book r goal legal. replan_leaves book legal r goal;
  report = λ book r event legal. leaves book legal r (Report event);
}
