use Rattle.scenario.proofs.Openings.{may_open}
use Rattle.scenario.proofs.scenario.Scenario.starts.Goals as goal

pub returns-clause-opening : goal.returns-clause-opening
returns-clause-opening c = λ cap. may_open _ (rw c.self.view_is at c.self.invariant) cap
