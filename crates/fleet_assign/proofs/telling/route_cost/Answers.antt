use Rattle.std.proofs.Common.{ℕ, ◌<◌, subst}
use Rattle.std.specs.Prelude.{IfSome}
use Rattle.site_map.specs.Built.{BuiltSite}
use Rattle.fleet_assign.specs.Tasks.{route_cost, start_of}
use Rattle.fleet_assign.proofs.RouteCosts.{route_low}
use Rattle.fleet_assign.proofs.telling.route_cost.Goals as goal

pub returns : goal.returns
returns c =
    let start = start_of c.args.scenario.now.starts c.args.robot in
    c.reached.ensures (route_cost c.args.scenario.now.site c.args.goal start)
    (subst (λ (b : BuiltSite). IfSome (route_cost b c.args.goal start) (λ n. n < 1000000000000)) c.site-site.ensures
    (route_low c.site-site.result.now c.cell_count-count.ensures.valid c.cell_count-count.ensures.site c.args.goal start))
    c.requires
