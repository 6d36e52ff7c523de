use Rattle.std.proofs.Common.{◌≡◌, IfOk, OnOk, ap, subst, ◌∙◌}
use Rattle.std.specs.Option.{option_to_list}
use Rattle.fleet_calls.specs.Calls.{answer_of}
use Rattle.fleet_model.specs.Calls.{Turn}
use Rattle.fleet_model.specs.Lists.{has_cell}
use Rattle.route_plan.specs.Labels.{has}
use Rattle.site_map.specs.Goals.{goal_cells}
use Rattle.coordinator.specs.Books.{Book, state_of, with_entries}
use Rattle.coordinator.proofs.Goals.{replan_is}
use Rattle.coordinator.proofs.coordinator.Coordinator.call.Goals as goal

pub returns-in-Replan-clause-answer : goal.returns-in-Replan-clause-answer
returns-in-Replan-clause-answer c =
    let now = c.args.self.now in
    let same = replan_is (state_of now) c.args.robot.0 now.site c.args.request.now c.in-Replan.goal (has c.goal_set-cells.result) c.in-Replan.is
    (λ a. c.goal_set-cells.ensures a ∙ ap (λ (b : Book). has_cell (goal_cells b.site c.in-Replan.goal) a) c.self.view_is) in
    subst (λ (t : Turn). IfOk c.call_replan.result (λ answer. answer_of answer ≡ t.answer)) same c.call_replan.ensures.answer

pub returns-in-Replan-clause-book : goal.returns-in-Replan-clause-book
returns-in-Replan-clause-book c =
    let now = c.args.self.now in
    let same = replan_is (state_of now) c.args.robot.0 now.site c.args.request.now c.in-Replan.goal (has c.goal_set-cells.result) c.in-Replan.is
    (λ a. c.goal_set-cells.ensures a ∙ ap (λ (b : Book). has_cell (goal_cells b.site c.in-Replan.goal) a) c.self.view_is) in
    subst (λ (t : Turn). OnOk c.call_replan.result (c.call_replan.new.self ≡ with_entries now (option_to_list t.entry))) same c.call_replan.ensures.book
