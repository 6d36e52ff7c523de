use Rattle.std.proofs.Common.{◌<◌, length, arith, ap}
use Rattle.std.proofs.lemmas.List.{length-map}
use Rattle.fleet_base.specs.RobotLists.{IsKept-push}
use Rattle.fleet_base.proofs.robot_list.RobotList.push.Goals as goal

pub invariant_of-self : goal.invariant_of-self
invariant_of-self c =
    let used = simp length-map at (ap length c.self.view_is) in
    let room : c.self.inside.len < 64 = omega (arith, c.self.invariant.used) in
    IsKept-push c.self.inside _ c.self.invariant c.self.told room (omega arith)
