use Rattle.std.proofs.Common.{◌≡◌, ◌<◌, ◌∙◌, ap, length, subst, sym}
use Rattle.std.specs.Prelude.{IfOk}
use Rattle.std.specs.Option.{is_some}
use Rattle.mission_model.specs.Policies.{detour_to}
use Rattle.coordinator.specs.Books.{state_of}
use Rattle.robot_worker.specs.Legs.{leg_cells}
use Rattle.route_plan.specs.Labels.{has}
use Rattle.fleet_outcomes.specs.Standing.{found_by}
use Rattle.fleet_outcomes.proofs.Detours.{detour_is}
use Rattle.fleet_outcomes.proofs.outcomes.has_detour.Goals as goal

pub returns : goal.returns
returns c =
    let book = c.args.fleet.now in
    let s = state_of book in
    let known = subst (λ xs. c.args.robot.0 < length xs) (sym c.journal-kept.ensures.same_starts) c.requires.known in
    subst (λ x. IfOk x (λ yes. yes ≡ is_some (detour_to s.fleet c.args.robot.0 (leg_cells book.site c.args.leg)))) (sym (c.is_found.ensures ∙ ap found_by c.err.ensures.value))
    (detour_is s c.args.robot.0 book.site c.site.result.now c.args.leg c.in-Some.goal (has c.goal_set.result) c.in-Some.is c.site.ensures c.goal_set.ensures known c.requires.pending c.requires.on c.detour.result c.detour.ensures.refused c.detour.ensures.detour)
