use Rattle.deferral.proofs.FleetStates.{deferred_shown, blockers_shown}
use Rattle.deferral.proofs.laws.deferrals_are_those_of_states.Goals as goal

pub returns-clause-deferred : goal.returns-clause-deferred
returns-clause-deferred c = deferred_shown

pub returns-clause-counted : goal.returns-clause-counted
returns-clause-counted c = blockers_shown
