use Rattle.std.proofs.Common.{◌∙◌, sym}
use Rattle.robot_worker.proofs.Counts.{served_more, served_here}
use Rattle.robot_worker.proofs.serving.serve_on.Goals as goal

pub loop-served-preserved : goal.loop-served-preserved
loop-served-preserved c =
    sym (served_more c.args.site.now c.args.legs.now c.args.cell c.loop-served.served _ c.loop-served-test.true (sym c.goal_holds.ensures ∙ c.if-goal_holds.true)) ∙ c.loop-served.invariant

pub returns-else-goal_holds : goal.returns-else-goal_holds
returns-else-goal_holds c =
    sym (served_here c.args.site.now c.args.legs.now c.args.cell c.loop-served.served _ c.loop-served-test.true (sym c.goal_holds.ensures ∙ c.if-goal_holds.false)) ∙ c.loop-served.invariant
