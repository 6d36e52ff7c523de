use Rattle.fleet_base.proofs.Equal.{are_equal-places}
use Rattle.fleet_base.proofs.robot_list.RobotListPartialEq.eq.Goals as goal

pub returns : goal.returns
returns c =
    are_equal-places c.t1-1.inside c.t2-1.inside c.args.self.now c.args.other.now c.eq.result c.and_eq.result c.t1-1.invariant c.t2-1.invariant c.t1-1.view_is c.t2-1.view_is c.eq.ensures c.and_eq.ensures
