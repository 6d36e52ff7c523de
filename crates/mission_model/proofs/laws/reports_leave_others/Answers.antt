use Rattle.mission_model.proofs.Standing.{rests_on, waits_on_more}
use Rattle.mission_model.proofs.laws.reports_leave_others.Goals as goal

pub returns : goal.returns
returns c = record {
  resting = λ missions opening journal entry n q site good legal is apart left cannot none. rests_on missions opening journal entry n q site good legal is apart left cannot none;
  waiting = λ missions opening journal entry n on q site good legal is apart left cannot other waits. waits_on_more missions opening journal entry n q site good legal is apart left cannot on other waits;
}
