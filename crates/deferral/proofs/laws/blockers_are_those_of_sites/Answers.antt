use Rattle.deferral.proofs.SiteBlockers.{least_shown}
use Rattle.deferral.proofs.laws.blockers_are_those_of_sites.Goals as goal

pub returns : goal.returns
returns c = λ b site cells r needs claims blocker shows set. least_shown b site cells r needs claims shows set blocker
