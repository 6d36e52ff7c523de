use Rattle.fleet_model.proofs.Blockers.{none_unblocked, unblocked_none, found_blocks, found_least}
use Rattle.fleet_model.proofs.cycle_laws.least_blocker_is_least.Goals as goal

pub returns-clause-absent : goal.returns-clause-absent
returns-clause-absent c m r route = (none_unblocked m r route, unblocked_none m r route)

pub returns-clause-blocks : goal.returns-clause-blocks
returns-clause-blocks c m r route b h = found_blocks m r route b h

pub returns-clause-least : goal.returns-clause-least
returns-clause-least c m r route b claim q h k = found_least m r route b h claim q k
