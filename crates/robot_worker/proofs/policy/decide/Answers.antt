use Rattle.std.proofs.Common.{sym, ap, ◌∙◌}
use Rattle.fleet_base.specs.declared.answers.Look.{Look}
use Rattle.robot_worker.proofs.Looks.{pick, picked_by_look, picked_nothing}
use Rattle.robot_worker.proofs.policy.decide.Goals as goal

pub returns-in-Nothing : goal.returns-in-Nothing
returns-in-Nothing c s r h =
    sym (picked_nothing c.args.look.now.event c.args.look.now.pending c.args.leg_left c.in_default.not-Ready c.in-Nothing.is c.if-leg_left-2.true)
    ∙ (ap (λ (l : Look). pick l.event l.pending c.args.leg_left) h ∙ picked_by_look s r c.args.leg_left)
