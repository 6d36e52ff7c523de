use Rattle.fleet_base.specs.declared.answers.RetryRefused.TheVariants as retry_refused
use Rattle.fleet_model.specs.Calls.{retry}
use Rattle.coordinator.specs.Books.{IsAnswer, state_of}
use Rattle.shared_fleet.specs.Turning.{DoesStep}
use Rattle.shared_fleet.proofs.Own.{own_retry}
use Rattle.shared_fleet.proofs.Known.{known_retry}
use Rattle.shared_fleet.proofs.Through.{Did, did_step, known_here, known_told, may_finish, rests_again, same_robot, seen_now, still_own, turned}
use Rattle.shared_fleet.proofs.shared.SharedFleet.retry.Goals as goal

pub finish-pass-inside-requires-clause-grown : goal.finish-pass-inside-requires-clause-grown
finish-pass-inside-requires-clause-grown g c =
    let did : Did c.begin-fleet.result c.retry-answer.new.self c.args.pass.now.robot (DoesStep (IsAnswer retry_refused.NoMemory) (λ s. retry s c.args.pass.now.robot) c.retry-answer.result) =
    did_step c.begin-fleet.result c.retry-answer.new.self (IsAnswer retry_refused.NoMemory) (λ r s. retry s r) c.retry-answer.result c.robot-robot.result.0 c.args.pass.now.robot c.robot-robot.ensures (own_retry (state_of c.begin-fleet.result) c.robot-robot.result.0) c.retry-answer.ensures.answer c.retry-answer.ensures.book
    in
    may_finish c.self.inside.lock c.self.inside.opened c.pass.inside.seat c.begin-fleet.new.seat c.args.self.now c.args.pass.now c.self.view_is c.pass.view_is c.requires c.begin-fleet.result c.begin-fleet.ensures.turn c.retry-answer.new.self (DoesStep (IsAnswer retry_refused.NoMemory) (λ s. retry s c.args.pass.now.robot) c.retry-answer.result) did

pub invariant_of-pass : goal.invariant_of-pass
invariant_of-pass g c =
    let did : Did c.begin-fleet.result c.retry-answer.new.self c.args.pass.now.robot (DoesStep (IsAnswer retry_refused.NoMemory) (λ s. retry s c.args.pass.now.robot) c.retry-answer.result) =
    did_step c.begin-fleet.result c.retry-answer.new.self (IsAnswer retry_refused.NoMemory) (λ r s. retry s r) c.retry-answer.result c.robot-robot.result.0 c.args.pass.now.robot c.robot-robot.ensures (own_retry (state_of c.begin-fleet.result) c.robot-robot.result.0) c.retry-answer.ensures.answer c.retry-answer.ensures.book
    in
    (rests_again c.self.inside.lock c.self.inside.opened c.pass.inside.seat c.begin-fleet.new.seat c.args.self.now c.args.pass.now c.self.view_is c.pass.view_is c.requires c.begin-fleet.result c.begin-fleet.ensures.turn c.retry-answer.new.self (DoesStep (IsAnswer retry_refused.NoMemory) (λ s. retry s c.args.pass.now.robot) c.retry-answer.result) did c.finish-pass-inside.new.seat c.pass.invariant.0 c.begin-fleet.ensures.found c.finish-pass-inside.ensures.seat, seen_now c.self.inside.lock c.self.inside.opened c.pass.inside.seat c.begin-fleet.new.seat c.args.self.now c.args.pass.now c.self.view_is c.pass.view_is c.requires c.begin-fleet.result c.begin-fleet.ensures.turn c.retry-answer.new.self (DoesStep (IsAnswer retry_refused.NoMemory) (λ s. retry s c.args.pass.now.robot) c.retry-answer.result) did c.finish-pass-inside.new.seat c.pass.invariant.0 c.begin-fleet.ensures.found c.finish-pass-inside.ensures.seat c.finish-pass-inside.result c.finish-pass-inside.ensures.count)

pub returns-clause-own : goal.returns-clause-own
returns-clause-own g c =
    let did : Did c.begin-fleet.result c.retry-answer.new.self c.args.pass.now.robot (DoesStep (IsAnswer retry_refused.NoMemory) (λ s. retry s c.args.pass.now.robot) c.retry-answer.result) =
    did_step c.begin-fleet.result c.retry-answer.new.self (IsAnswer retry_refused.NoMemory) (λ r s. retry s r) c.retry-answer.result c.robot-robot.result.0 c.args.pass.now.robot c.robot-robot.ensures (own_retry (state_of c.begin-fleet.result) c.robot-robot.result.0) c.retry-answer.ensures.answer c.retry-answer.ensures.book
    in
    still_own c.self.inside.lock c.self.inside.opened c.pass.inside.seat c.begin-fleet.new.seat c.args.self.now c.args.pass.now c.self.view_is c.pass.view_is c.requires c.begin-fleet.result c.begin-fleet.ensures.turn c.retry-answer.new.self (DoesStep (IsAnswer retry_refused.NoMemory) (λ s. retry s c.args.pass.now.robot) c.retry-answer.result) did c.finish-pass-inside.new.seat c.pass.invariant.0 c.begin-fleet.ensures.found c.finish-pass-inside.ensures.seat

pub returns-clause-robot : goal.returns-clause-robot
returns-clause-robot g c =
    let did : Did c.begin-fleet.result c.retry-answer.new.self c.args.pass.now.robot (DoesStep (IsAnswer retry_refused.NoMemory) (λ s. retry s c.args.pass.now.robot) c.retry-answer.result) =
    did_step c.begin-fleet.result c.retry-answer.new.self (IsAnswer retry_refused.NoMemory) (λ r s. retry s r) c.retry-answer.result c.robot-robot.result.0 c.args.pass.now.robot c.robot-robot.ensures (own_retry (state_of c.begin-fleet.result) c.robot-robot.result.0) c.retry-answer.ensures.answer c.retry-answer.ensures.book
    in
    same_robot c.self.inside.lock c.self.inside.opened c.pass.inside.seat c.begin-fleet.new.seat c.args.self.now c.args.pass.now c.self.view_is c.pass.view_is c.requires c.begin-fleet.result c.begin-fleet.ensures.turn c.retry-answer.new.self (DoesStep (IsAnswer retry_refused.NoMemory) (λ s. retry s c.args.pass.now.robot) c.retry-answer.result) did c.finish-pass-inside.new.seat c.pass.invariant.0 c.begin-fleet.ensures.found c.finish-pass-inside.ensures.seat

pub returns-clause-turn : goal.returns-clause-turn
returns-clause-turn g c =
    let did : Did c.begin-fleet.result c.retry-answer.new.self c.args.pass.now.robot (DoesStep (IsAnswer retry_refused.NoMemory) (λ s. retry s c.args.pass.now.robot) c.retry-answer.result) =
    did_step c.begin-fleet.result c.retry-answer.new.self (IsAnswer retry_refused.NoMemory) (λ r s. retry s r) c.retry-answer.result c.robot-robot.result.0 c.args.pass.now.robot c.robot-robot.ensures (own_retry (state_of c.begin-fleet.result) c.robot-robot.result.0) c.retry-answer.ensures.answer c.retry-answer.ensures.book
    in
    turned c.self.inside.lock c.self.inside.opened c.pass.inside.seat c.begin-fleet.new.seat c.args.self.now c.args.pass.now c.self.view_is c.pass.view_is c.requires c.begin-fleet.result c.begin-fleet.ensures.turn c.retry-answer.new.self (DoesStep (IsAnswer retry_refused.NoMemory) (λ s. retry s c.args.pass.now.robot) c.retry-answer.result) did c.finish-pass-inside.new.seat c.pass.invariant.0 c.begin-fleet.ensures.found c.finish-pass-inside.ensures.seat

pub returns-clause-known : goal.returns-clause-known
returns-clause-known g c = known_told retry_refused.NoMemory retry_refused.UnknownRobot c.retry-answer.result (retry (state_of c.begin-fleet.result) c.robot-robot.result.0).answer (λ e. cc) c.retry-answer.ensures.answer (known_retry (state_of c.begin-fleet.result) c.robot-robot.result.0 (known_here c.pass.inside.seat c.args.pass.now c.begin-fleet.result c.robot-robot.result.0 c.pass.view_is c.robot-robot.ensures c.begin-fleet.ensures.found.known))
