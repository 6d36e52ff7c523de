use Rattle.std.proofs.Common.{sym, ◌∙◌}
use Rattle.site_map.specs.Claims.{site_of}
use Rattle.site_map.specs.Goals.{goal_cells}
use Rattle.robot_worker.proofs.FreeRoutes.{free_route, free_search}
use Rattle.robot_worker.proofs.routes.route_to.Goals as goal

pub returns-in_ok-copy_of-in-Ok : goal.returns-in_ok-copy_of-in-Ok
returns-in_ok-copy_of-in-Ok c =
    free_route (site_of c.args.site.now) c.goal_set-cells.result c.new.result (goal_cells c.args.site.now c.args.goal) c.args.from c.in-Ok.route c.in_ok-copy_of-in-Ok.field-0
    c.goal_set-cells.ensures c.new.ensures c.in-Ok.ensures.found (c.in_ok-copy_of-in-Ok.ensures ∙ c.cells.ensures)

pub returns-in-Err-Unreachable : goal.returns-in-Err-Unreachable
returns-in-Err-Unreachable c =
    sym (c.in-Err-Unreachable.ensures.unreachable c.in-Err-Unreachable.field-0-is) ∙ free_search (site_of c.args.site.now) c.goal_set-cells.result c.new.result (goal_cells c.args.site.now c.args.goal) c.args.from c.goal_set-cells.ensures c.new.ensures
