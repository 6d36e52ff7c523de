use Rattle.std.proofs.Common.{rules, ◌≡◌, ◌+◌, ◌≤◌, ◌++◌, ◌∷◌, [], arith}
use Rattle.shared_fleet.specs.Resting.{token_of}
use Rattle.shared_fleet.proofs.Passes.{has_room, made_more, one_more, start_number, start_own}
use Rattle.shared_fleet.proofs.shared.hand_out.Goals as goal

pub split-seat-requires-clause-own : goal.split-seat-requires-clause-own
split-seat-requires-clause-own c = let some : 1 ≤ c.loop-robot._robot = omega arith in start_own c.args.lock.now c.loop-robot._robot some c.loop-robot.first c.loop-robot.invariant.first

pub split-seat-requires-clause-first : goal.split-seat-requires-clause-first
split-seat-requires-clause-first c = let some : 1 ≤ c.loop-robot._robot = omega arith in start_number c.args.lock.now c.loop-robot._robot some c.loop-robot.first c.loop-robot.invariant.first

pub split-seat-requires-clause-room : goal.split-seat-requires-clause-room
split-seat-requires-clause-room c =
    let some : 1 ≤ c.loop-robot._robot = omega arith in
    let made : c.loop-robot.first.made + 1 ≡ c.loop-robot._robot = has_room c.args.lock.now c.loop-robot._robot some c.loop-robot.first c.loop-robot.invariant.first in
    omega arith

pub loop-robot-preserved : goal.loop-robot-preserved
loop-robot-preserved c =
    let some : 1 ≤ c.loop-robot._robot = omega arith in
    let inv = c.loop-robot.invariant in
    let longer : c.push.new.self.items ≡ c.loop-robot.passes.items ++ token_of c.split-seat.result ∷ [] = search rules in
    record {
      first = made_more c.args.lock.now c.loop-robot._robot some c.loop-robot.first inv.first c.split-seat.new.seat c.split-seat.ensures.counted;
      items = one_more c.args.lock.now c.loop-robot._robot some c.loop-robot.first inv.first c.split-seat.result c.split-seat.ensures.made c.loop-robot.passes.items c.push.new.self.items inv.items longer;
      count = search rules;
      room = search rules;
    }
