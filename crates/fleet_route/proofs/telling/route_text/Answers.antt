use Rattle.std.proofs.Common.{◌≡◌, ℕ, ap, refl, subst, ◌∙◌}
use Rattle.std.specs.Prelude.{Vec}
use Rattle.std.specs.Global.{Global}
use Rattle.fleet_model.specs.Lists.{has_cell}
use Rattle.fleet_base.specs.declared.numbers.CellNo.{CellNo}
use Rattle.site_map.specs.Built.{BuiltSite}
use Rattle.site_map.specs.Goals.{goal_cells}
use Rattle.route_plan.specs.Labels.{has}
use Rattle.fleet_route.proofs.Told.{found_told, unreachable_told}
use Rattle.fleet_route.proofs.telling.route_text.Goals as goal
use Rattle.fleet_route.proofs.telling.route_text.Goals.{in-Ok+in_ok-push_route-in-Ok, in-Err-Unreachable+in_ok-push_text-in-Err-Unreachable}

pub returns : goal.returns
returns c =
    let scenario = c.args.scenario.now in
    let site = c.site-site.result.now in
    let due = has_cell (goal_cells scenario.site c.args.goal) in
    let cells : (cell : CellNo) → has c.goal_set.result cell ≡ due cell =
    subst (λ (s : BuiltSite). (cell : CellNo) → has c.goal_set.result cell ≡ has_cell (goal_cells s c.args.goal) cell) c.site-site.ensures c.goal_set.ensures in
    elim c.match-least_route.branch [
      | in-Ok+in_ok-push_route-in-Ok w ↦
          ap (λ (v : Vec ℕ Global). v.items) w.text-is
          ∙ found_told scenario.names w.names.result.now scenario.site site c.goal_set.result c.new.result due c.args.from w.names.ensures.is c.site-site.ensures cells c.new.ensures
          w.in-Ok.route w.cell_count.result c.new-text.result.items w.push_route.new.text.items w.in-Ok.ensures.found w.cell_count.ensures.count c.new-text.ensures.items w.in_ok-push_route-in-Ok.ensures.ok
      | in-Err-Unreachable+in_ok-push_text-in-Err-Unreachable w ↦
          ap (λ (v : Vec ℕ Global). v.items) w.text-is
          ∙ unreachable_told scenario.names scenario.names scenario.site site c.goal_set.result c.new.result due c.args.from refl c.site-site.ensures cells c.new.ensures
          c.new-text.result.items w.push_text.new.text.items (w.in-Err-Unreachable.ensures.unreachable w.in-Err-Unreachable.field-0-is) c.new-text.ensures.items w.in_ok-push_text-in-Err-Unreachable.ensures.ok
    ]
