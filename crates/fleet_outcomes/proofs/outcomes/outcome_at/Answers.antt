use Rattle.std.proofs.Common.{◌∙◌, ap, sym}
use Rattle.fleet_base.specs.declared.answers.Look.{Look}
use Rattle.fleet_model.specs.States.{block_of, pending_of, pending_route}
use Rattle.coordinator.specs.Books.{state_of}
use Rattle.robot_worker.specs.Legs.{leg_cells}
use Rattle.fleet_outcomes.specs.Standing.{IsAtRest}
use Rattle.fleet_outcomes.proofs.Judging.{is_active, is_free_full, is_waiting, shows_free, shows_held, shows_none, some_moving}
use Rattle.fleet_outcomes.proofs.outcomes.outcome_at.Goals as goal

pub returns-then-goes : goal.returns-then-goes
returns-then-goes c =
    is_active (state_of c.args.fleet.now) c.args.robot.0 (leg_cells c.args.fleet.now.site c.args.leg) (sym c.in_ok-goes.ensures ∙ c.if-goes.true)

pub returns-then-moving : goal.returns-then-moving
returns-then-moving c =
    is_waiting (state_of c.args.fleet.now) c.args.robot.0 (leg_cells c.args.fleet.now.site c.args.leg) (sym c.in_ok-goes.ensures ∙ c.if-goes.false)
    (some_moving _ (λ z. c.if-moving.true (ap (λ (l : Look). l.left) c.look_at-look.ensures ∙ z)))

pub idle-requires-clause-rests : goal.idle-requires-clause-rests
idle-requires-clause-rests c = record {
  stuck = sym c.in_ok-goes.ensures ∙ c.if-goes.false;
  finished = sym (ap (λ (l : Look). l.left) c.look_at-look.ensures) ∙ c.if-moving.false;
}

pub idle-requires-clause-pending : goal.idle-requires-clause-pending
idle-requires-clause-pending c =
    let s = state_of c.args.fleet.now in
    shows_none (pending_of s c.args.robot.0) (block_of s c.args.robot.0 (pending_route s c.args.robot.0)) (sym (ap (λ (l : Look). l.pending) c.look_at-look.ensures) ∙ c.in-Nothing.is)

pub returns-in-Free : goal.returns-in-Free
returns-in-Free c =
    let s = state_of c.args.fleet.now in
    let leg = leg_cells c.args.fleet.now.site c.args.leg in
    let rests : IsAtRest s c.args.robot.0 leg = record {
      stuck = sym c.in_ok-goes.ensures ∙ c.if-goes.false;
      finished = sym (ap (λ (l : Look). l.left) c.look_at-look.ensures) ∙ c.if-moving.false;
    } in
    let shown = shows_free (pending_of s c.args.robot.0) (block_of s c.args.robot.0 (pending_route s c.args.robot.0)) (sym (ap (λ (l : Look). l.pending) c.look_at-look.ensures) ∙ c.in-Free.is) in
    is_free_full s c.args.robot.0 leg rests shown.0 shown.1

pub blocked-requires-clause-rests : goal.blocked-requires-clause-rests
blocked-requires-clause-rests c = record {
  stuck = sym c.in_ok-goes.ensures ∙ c.if-goes.false;
  finished = sym (ap (λ (l : Look). l.left) c.look_at-look.ensures) ∙ c.if-moving.false;
}

pub blocked-requires-clause-pending : goal.blocked-requires-clause-pending
blocked-requires-clause-pending c =
    let s = state_of c.args.fleet.now in
    (shows_held (pending_of s c.args.robot.0) (block_of s c.args.robot.0 (pending_route s c.args.robot.0)) _ (sym (ap (λ (l : Look). l.pending) c.look_at-look.ensures) ∙ c.in-Blocked.is)).0

pub blocked-requires-clause-held : goal.blocked-requires-clause-held
blocked-requires-clause-held c =
    let s = state_of c.args.fleet.now in
    (shows_held (pending_of s c.args.robot.0) (block_of s c.args.robot.0 (pending_route s c.args.robot.0)) _ (sym (ap (λ (l : Look). l.pending) c.look_at-look.ensures) ∙ c.in-Blocked.is)).1
