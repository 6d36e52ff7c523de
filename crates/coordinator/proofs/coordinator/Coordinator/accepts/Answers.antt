use Rattle.std.proofs.Common.{◌≡◌, IfOk, ap, subst, ◌∙◌}
use Rattle.std.specs.Option.{is_some}
use Rattle.fleet_model.specs.Calls.{Turn}
use Rattle.fleet_model.specs.Lists.{has_cell}
use Rattle.route_plan.specs.Labels.{has}
use Rattle.site_map.specs.Goals.{goal_cells}
use Rattle.coordinator.specs.Books.{Book, state_of}
use Rattle.coordinator.proofs.Goals.{replan_is}
use Rattle.coordinator.proofs.coordinator.Coordinator.accepts.Goals as goal

pub returns-in-Replan : goal.returns-in-Replan
returns-in-Replan c =
    let now = c.args.self.now in
    let same = replan_is (state_of now) c.args.robot.0 now.site c.args.request.now c.in-Replan.goal (has c.goal_set-cells.result) c.in-Replan.is
    (λ a. c.goal_set-cells.ensures a ∙ ap (λ (b : Book). has_cell (goal_cells b.site c.in-Replan.goal) a) c.self.view_is) in
    subst (λ (t : Turn). IfOk c.accepts_replan.result (λ yes. yes ≡ is_some t.entry)) same c.accepts_replan.ensures
