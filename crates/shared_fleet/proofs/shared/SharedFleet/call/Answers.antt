use Rattle.fleet_calls.specs.Calls.{call_of}
use Rattle.shared_fleet.specs.Turning.{Does}
use Rattle.shared_fleet.proofs.Through.{Did, did_request, known_answer, known_here, may_finish, rests_again, same_robot, seen_now, site_is, still_own, turned}
use Rattle.shared_fleet.proofs.shared.SharedFleet.call.Goals as goal

pub finish-pass-inside-requires-clause-grown : goal.finish-pass-inside-requires-clause-grown
finish-pass-inside-requires-clause-grown g c =
    let did : Did c.begin-fleet.result c.call-answer.new.self c.args.pass.now.robot (Does c.args.pass.now.robot (call_of c.args.self.now.opening.site c.args.request.now) c.call-answer.result) =
    did_request c.begin-fleet.result c.call-answer.new.self c.robot-robot.result.0 c.args.pass.now.robot c.args.self.now.opening.site c.args.request.now c.call-answer.result c.robot-robot.ensures
    (site_is c.self.inside.lock c.self.inside.opened c.args.self.now c.begin-fleet.result c.self.view_is c.begin-fleet.ensures.found.same) c.call-answer.ensures.answer c.call-answer.ensures.book c.call-answer.ensures.unchanged
    in
    may_finish c.self.inside.lock c.self.inside.opened c.pass.inside.seat c.begin-fleet.new.seat c.args.self.now c.args.pass.now c.self.view_is c.pass.view_is c.requires.own c.begin-fleet.result c.begin-fleet.ensures.turn c.call-answer.new.self (Does c.args.pass.now.robot (call_of c.args.self.now.opening.site c.args.request.now) c.call-answer.result) did

pub invariant_of-pass : goal.invariant_of-pass
invariant_of-pass g c =
    let did : Did c.begin-fleet.result c.call-answer.new.self c.args.pass.now.robot (Does c.args.pass.now.robot (call_of c.args.self.now.opening.site c.args.request.now) c.call-answer.result) =
    did_request c.begin-fleet.result c.call-answer.new.self c.robot-robot.result.0 c.args.pass.now.robot c.args.self.now.opening.site c.args.request.now c.call-answer.result c.robot-robot.ensures
    (site_is c.self.inside.lock c.self.inside.opened c.args.self.now c.begin-fleet.result c.self.view_is c.begin-fleet.ensures.found.same) c.call-answer.ensures.answer c.call-answer.ensures.book c.call-answer.ensures.unchanged
    in
    (rests_again c.self.inside.lock c.self.inside.opened c.pass.inside.seat c.begin-fleet.new.seat c.args.self.now c.args.pass.now c.self.view_is c.pass.view_is c.requires.own c.begin-fleet.result c.begin-fleet.ensures.turn c.call-answer.new.self (Does c.args.pass.now.robot (call_of c.args.self.now.opening.site c.args.request.now) c.call-answer.result) did c.finish-pass-inside.new.seat c.pass.invariant.0 c.begin-fleet.ensures.found c.finish-pass-inside.ensures.seat, seen_now c.self.inside.lock c.self.inside.opened c.pass.inside.seat c.begin-fleet.new.seat c.args.self.now c.args.pass.now c.self.view_is c.pass.view_is c.requires.own c.begin-fleet.result c.begin-fleet.ensures.turn c.call-answer.new.self (Does c.args.pass.now.robot (call_of c.args.self.now.opening.site c.args.request.now) c.call-answer.result) did c.finish-pass-inside.new.seat c.pass.invariant.0 c.begin-fleet.ensures.found c.finish-pass-inside.ensures.seat c.finish-pass-inside.result c.finish-pass-inside.ensures.count)

pub returns-clause-own : goal.returns-clause-own
returns-clause-own g c =
    let did : Did c.begin-fleet.result c.call-answer.new.self c.args.pass.now.robot (Does c.args.pass.now.robot (call_of c.args.self.now.opening.site c.args.request.now) c.call-answer.result) =
    did_request c.begin-fleet.result c.call-answer.new.self c.robot-robot.result.0 c.args.pass.now.robot c.args.self.now.opening.site c.args.request.now c.call-answer.result c.robot-robot.ensures
    (site_is c.self.inside.lock c.self.inside.opened c.args.self.now c.begin-fleet.result c.self.view_is c.begin-fleet.ensures.found.same) c.call-answer.ensures.answer c.call-answer.ensures.book c.call-answer.ensures.unchanged
    in
    still_own c.self.inside.lock c.self.inside.opened c.pass.inside.seat c.begin-fleet.new.seat c.args.self.now c.args.pass.now c.self.view_is c.pass.view_is c.requires.own c.begin-fleet.result c.begin-fleet.ensures.turn c.call-answer.new.self (Does c.args.pass.now.robot (call_of c.args.self.now.opening.site c.args.request.now) c.call-answer.result) did c.finish-pass-inside.new.seat c.pass.invariant.0 c.begin-fleet.ensures.found c.finish-pass-inside.ensures.seat

pub returns-clause-robot : goal.returns-clause-robot
returns-clause-robot g c =
    let did : Did c.begin-fleet.result c.call-answer.new.self c.args.pass.now.robot (Does c.args.pass.now.robot (call_of c.args.self.now.opening.site c.args.request.now) c.call-answer.result) =
    did_request c.begin-fleet.result c.call-answer.new.self c.robot-robot.result.0 c.args.pass.now.robot c.args.self.now.opening.site c.args.request.now c.call-answer.result c.robot-robot.ensures
    (site_is c.self.inside.lock c.self.inside.opened c.args.self.now c.begin-fleet.result c.self.view_is c.begin-fleet.ensures.found.same) c.call-answer.ensures.answer c.call-answer.ensures.book c.call-answer.ensures.unchanged
    in
    same_robot c.self.inside.lock c.self.inside.opened c.pass.inside.seat c.begin-fleet.new.seat c.args.self.now c.args.pass.now c.self.view_is c.pass.view_is c.requires.own c.begin-fleet.result c.begin-fleet.ensures.turn c.call-answer.new.self (Does c.args.pass.now.robot (call_of c.args.self.now.opening.site c.args.request.now) c.call-answer.result) did c.finish-pass-inside.new.seat c.pass.invariant.0 c.begin-fleet.ensures.found c.finish-pass-inside.ensures.seat

pub returns-clause-turn : goal.returns-clause-turn
returns-clause-turn g c =
    let did : Did c.begin-fleet.result c.call-answer.new.self c.args.pass.now.robot (Does c.args.pass.now.robot (call_of c.args.self.now.opening.site c.args.request.now) c.call-answer.result) =
    did_request c.begin-fleet.result c.call-answer.new.self c.robot-robot.result.0 c.args.pass.now.robot c.args.self.now.opening.site c.args.request.now c.call-answer.result c.robot-robot.ensures
    (site_is c.self.inside.lock c.self.inside.opened c.args.self.now c.begin-fleet.result c.self.view_is c.begin-fleet.ensures.found.same) c.call-answer.ensures.answer c.call-answer.ensures.book c.call-answer.ensures.unchanged
    in
    turned c.self.inside.lock c.self.inside.opened c.pass.inside.seat c.begin-fleet.new.seat c.args.self.now c.args.pass.now c.self.view_is c.pass.view_is c.requires.own c.begin-fleet.result c.begin-fleet.ensures.turn c.call-answer.new.self (Does c.args.pass.now.robot (call_of c.args.self.now.opening.site c.args.request.now) c.call-answer.result) did c.finish-pass-inside.new.seat c.pass.invariant.0 c.begin-fleet.ensures.found c.finish-pass-inside.ensures.seat

pub returns-clause-known : goal.returns-clause-known
returns-clause-known g c = known_answer c.begin-fleet.result c.robot-robot.result.0 (call_of c.begin-fleet.result.site c.args.request.now) c.call-answer.result (known_here c.pass.inside.seat c.args.pass.now c.begin-fleet.result c.robot-robot.result.0 c.pass.view_is c.robot-robot.ensures c.begin-fleet.ensures.found.known) c.call-answer.ensures.answer
