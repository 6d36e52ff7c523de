use Rattle.std.proofs.Common.{◌≡◌, ◌+◌, ◌<◌, length, List, Some, None, sym, ap, subst, ◌∙◌}
use Rattle.std.specs.Prelude.{slice_get}
use Rattle.fleet_base.specs.declared.numbers.CellNo.{CellNo}
use Rattle.task_assign.specs.Squares.{Square}
use Rattle.fleet_assign.specs.Tasks.{task_at}
use Rattle.fleet_assign.proofs.Columns.{AreDone, AreLeft, done_idle, done_task, left_more, left_task}
use Rattle.fleet_assign.proofs.costs.costs_of.Goals as goal
use Rattle.fleet_assign.proofs.costs.costs_of.Goals.{in-Some+in_ok-fill, in_default}

pub loop-column-preserved : goal.loop-column-preserved
loop-column-preserved c =
    let s = c.args.scenario.now in
    let column = c.loop-column.column in
    let before = c.loop-column.costs in
    let within : column < length s.starts = subst (λ (cs : List CellNo). column < length cs) c.starts-starts.ensures.is c.loop-column-test.true in
    let task = c.task_at.ensures.is ∙ ap (λ tasks. slice_get tasks column) c.requires.tasks in
    elim c.match-task_at.branch [
      | in-Some+in_ok-fill w ↦
          let after = w.fill.new.costs in
          let is : task_at s column ≡ Some w.in-Some.goal = sym task ∙ w.in-Some.is in
          let fill = w.in_ok-fill.ensures.costs in
          record {
            sized = ap (λ (q : Square). q.size) w.costs-is ∙ w.in_ok-fill.ensures.sized ∙ c.loop-column.invariant.sized;
            done = subst (AreDone s (column + 1)) (sym w.costs-is)
                (done_task s column before after w.in-Some.goal c.site-site.result.now c.starts-starts.result.now c.site-site.ensures c.starts-starts.ensures.is is within fill c.loop-column.invariant.done);
            left = subst (AreLeft s (column + 1)) (sym w.costs-is)
                (left_task s column before after w.in-Some.goal c.site-site.result.now c.starts-starts.result.now c.site-site.ensures c.starts-starts.ensures.is is within fill c.loop-column.invariant.left);
          }
      | in_default w ↦
          let none : task_at s column ≡ None = sym task ∙ w.in_default.is in
          record {
            sized = ap (λ (q : Square). q.size) w.costs-is ∙ c.loop-column.invariant.sized;
            done = subst (AreDone s (column + 1)) (sym w.costs-is) (done_idle s column before none within c.loop-column.invariant.left c.loop-column.invariant.done);
            left = subst (AreLeft s (column + 1)) (sym w.costs-is) (left_more s column before c.loop-column.invariant.left);
          }
    ]
