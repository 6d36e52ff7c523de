use Rattle.std.proofs.Common.{◌≡◌, ◌++◌, ◌∷◌, Option, ap, codes, ◌∙◌}
use Rattle.std.specs.Prelude.{slice_get}
use Rattle.scenario.proofs.Prints.{then_more}
use Rattle.site_map.specs.declared.goal.Goal.{Goal}
use Rattle.task_assign.specs.Assignments.{column_at}
use Rattle.fleet_assign.specs.Tasks.{task_at, tasks_of}
use Rattle.fleet_assign.specs.Texts.{job_words, line, robot_line, robot_name}
use Rattle.fleet_assign.proofs.telling.push_robots.Goals as goal

pub loop-robot-preserved : goal.loop-robot-preserved
loop-robot-preserved c =
    let s = c.args.scenario.now in
    let robot = c.loop-robot.robot in
    let task : c.task_at-task.result ≡ task_at s (column_at c.args.found.now robot) =
    c.task_at-task.ensures.is ∙ ap (λ tasks. slice_get tasks c.column-column.result) c.requires.tasks ∙ ap (λ n. slice_get (tasks_of s.missions) n) c.column-column.ensures in
    then_more c.args.text.now.items c.loop-robot.text.items c.push_job.new.text.items (robot_line s c.args.found.now) robot c.loop-robot.invariant
    (c.in_ok-push_job.ensures ∙ ap (λ (t : Option Goal). c.loop-robot.text.items ++ line (codes "robot" ∷ robot_name s robot ∷ job_words s robot t)) task)
