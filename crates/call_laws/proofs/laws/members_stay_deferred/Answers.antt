use Rattle.call_laws.proofs.Members.{members_still}
use Rattle.call_laws.proofs.laws.members_stay_deferred.Goals as goal

pub returns : goal.returns
returns c = λ s members journal r site good cycle legal true_to member. members_still s members journal r site good cycle legal true_to member
