use Rattle.std.proofs.Common.{[]}
use Rattle.mission_model.proofs.PolicyCalls.{goes_on_is}
use Rattle.mission_model.proofs.Truth.{true_more}
use Rattle.mission_model.proofs.laws.acts_keep_journals.Goals as goal

pub returns : goal.returns
returns c = record {
  robot = λ missions opening journal r entry site good legal h. (goes_on_is missions opening journal r entry site good legal h).robot;
  legal = λ missions opening journal r entry site good legal h. (goes_on_is missions opening journal r entry site good legal h).legal;
  mission = λ missions opening journal r entry site good legal h. (goes_on_is missions opening journal r entry site good legal h).mission;
  keeps = λ missions opening journal r entry site good legal true_so_far h. true_more missions opening [] journal entry true_so_far (goes_on_is missions opening journal r entry site good legal h).mission;
}
