use Rattle.std.proofs.Common.{◌≡◌, Ok}
use Rattle.fleet_model.specs.Calls.{look, look_of}
use Rattle.coordinator.specs.Books.{state_of}
use Rattle.shared_fleet.specs.Turning.{DoesStep}
use Rattle.shared_fleet.proofs.Through.{Did, did_look, look_is_ok, looked, known_here, may_finish, rests_again, same_robot, seen_now, still_own, turned}
use Rattle.shared_fleet.proofs.shared.SharedFleet.look.Goals as goal

pub finish-pass-inside-requires-clause-grown : goal.finish-pass-inside-requires-clause-grown
finish-pass-inside-requires-clause-grown g c =
    let did : Did c.begin-fleet.result c.begin-fleet.result c.args.pass.now.robot (DoesStep (λ told due. told ≡ due) (λ s. look s c.args.pass.now.robot) (Ok (look_of (state_of c.begin-fleet.result) c.robot-robot.result.0))) =
    did_look c.begin-fleet.result c.robot-robot.result.0 c.args.pass.now.robot c.look-answer.result (look_of (state_of c.begin-fleet.result) c.robot-robot.result.0) c.robot-robot.ensures c.look-answer.ensures (looked (state_of c.begin-fleet.result) c.robot-robot.result.0 c.look-answer.result (known_here c.pass.inside.seat c.args.pass.now c.begin-fleet.result c.robot-robot.result.0 c.pass.view_is c.robot-robot.ensures c.begin-fleet.ensures.found.known) c.look-answer.ensures)
    in
    may_finish c.self.inside.lock c.self.inside.opened c.pass.inside.seat c.begin-fleet.new.seat c.args.self.now c.args.pass.now c.self.view_is c.pass.view_is c.requires c.begin-fleet.result c.begin-fleet.ensures.turn c.begin-fleet.result (DoesStep (λ told due. told ≡ due) (λ s. look s c.args.pass.now.robot) (Ok (look_of (state_of c.begin-fleet.result) c.robot-robot.result.0))) did

pub unwrap-requires : goal.unwrap-requires
unwrap-requires g c = look_is_ok (state_of c.begin-fleet.result) c.robot-robot.result.0 c.look-answer.result (known_here c.pass.inside.seat c.args.pass.now c.begin-fleet.result c.robot-robot.result.0 c.pass.view_is c.robot-robot.ensures c.begin-fleet.ensures.found.known) c.look-answer.ensures

pub invariant_of-pass : goal.invariant_of-pass
invariant_of-pass g c =
    let did : Did c.begin-fleet.result c.begin-fleet.result c.args.pass.now.robot (DoesStep (λ told due. told ≡ due) (λ s. look s c.args.pass.now.robot) (Ok c.unwrap.result)) =
    did_look c.begin-fleet.result c.robot-robot.result.0 c.args.pass.now.robot c.look-answer.result c.unwrap.result c.robot-robot.ensures c.look-answer.ensures c.unwrap.ensures
    in
    (rests_again c.self.inside.lock c.self.inside.opened c.pass.inside.seat c.begin-fleet.new.seat c.args.self.now c.args.pass.now c.self.view_is c.pass.view_is c.requires c.begin-fleet.result c.begin-fleet.ensures.turn c.begin-fleet.result (DoesStep (λ told due. told ≡ due) (λ s. look s c.args.pass.now.robot) (Ok c.unwrap.result)) did c.finish-pass-inside.new.seat c.pass.invariant.0 c.begin-fleet.ensures.found c.finish-pass-inside.ensures.seat, seen_now c.self.inside.lock c.self.inside.opened c.pass.inside.seat c.begin-fleet.new.seat c.args.self.now c.args.pass.now c.self.view_is c.pass.view_is c.requires c.begin-fleet.result c.begin-fleet.ensures.turn c.begin-fleet.result (DoesStep (λ told due. told ≡ due) (λ s. look s c.args.pass.now.robot) (Ok c.unwrap.result)) did c.finish-pass-inside.new.seat c.pass.invariant.0 c.begin-fleet.ensures.found c.finish-pass-inside.ensures.seat c.finish-pass-inside.result c.finish-pass-inside.ensures.count)

pub returns-clause-own : goal.returns-clause-own
returns-clause-own g c =
    let did : Did c.begin-fleet.result c.begin-fleet.result c.args.pass.now.robot (DoesStep (λ told due. told ≡ due) (λ s. look s c.args.pass.now.robot) (Ok c.unwrap.result)) =
    did_look c.begin-fleet.result c.robot-robot.result.0 c.args.pass.now.robot c.look-answer.result c.unwrap.result c.robot-robot.ensures c.look-answer.ensures c.unwrap.ensures
    in
    still_own c.self.inside.lock c.self.inside.opened c.pass.inside.seat c.begin-fleet.new.seat c.args.self.now c.args.pass.now c.self.view_is c.pass.view_is c.requires c.begin-fleet.result c.begin-fleet.ensures.turn c.begin-fleet.result (DoesStep (λ told due. told ≡ due) (λ s. look s c.args.pass.now.robot) (Ok c.unwrap.result)) did c.finish-pass-inside.new.seat c.pass.invariant.0 c.begin-fleet.ensures.found c.finish-pass-inside.ensures.seat

pub returns-clause-robot : goal.returns-clause-robot
returns-clause-robot g c =
    let did : Did c.begin-fleet.result c.begin-fleet.result c.args.pass.now.robot (DoesStep (λ told due. told ≡ due) (λ s. look s c.args.pass.now.robot) (Ok c.unwrap.result)) =
    did_look c.begin-fleet.result c.robot-robot.result.0 c.args.pass.now.robot c.look-answer.result c.unwrap.result c.robot-robot.ensures c.look-answer.ensures c.unwrap.ensures
    in
    same_robot c.self.inside.lock c.self.inside.opened c.pass.inside.seat c.begin-fleet.new.seat c.args.self.now c.args.pass.now c.self.view_is c.pass.view_is c.requires c.begin-fleet.result c.begin-fleet.ensures.turn c.begin-fleet.result (DoesStep (λ told due. told ≡ due) (λ s. look s c.args.pass.now.robot) (Ok c.unwrap.result)) did c.finish-pass-inside.new.seat c.pass.invariant.0 c.begin-fleet.ensures.found c.finish-pass-inside.ensures.seat

pub returns-clause-turn : goal.returns-clause-turn
returns-clause-turn g c =
    let did : Did c.begin-fleet.result c.begin-fleet.result c.args.pass.now.robot (DoesStep (λ told due. told ≡ due) (λ s. look s c.args.pass.now.robot) (Ok c.unwrap.result)) =
    did_look c.begin-fleet.result c.robot-robot.result.0 c.args.pass.now.robot c.look-answer.result c.unwrap.result c.robot-robot.ensures c.look-answer.ensures c.unwrap.ensures
    in
    turned c.self.inside.lock c.self.inside.opened c.pass.inside.seat c.begin-fleet.new.seat c.args.self.now c.args.pass.now c.self.view_is c.pass.view_is c.requires c.begin-fleet.result c.begin-fleet.ensures.turn c.begin-fleet.result (DoesStep (λ told due. told ≡ due) (λ s. look s c.args.pass.now.robot) (Ok c.unwrap.result)) did c.finish-pass-inside.new.seat c.pass.invariant.0 c.begin-fleet.ensures.found c.finish-pass-inside.ensures.seat
