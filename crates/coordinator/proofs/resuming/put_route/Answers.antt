use Rattle.std.proofs.Common.{sym, subst, ◌∙◌}
use Rattle.fleet_model.specs.Sites.{needs}
use Rattle.fleet_base.specs.ClaimSets.{IsSetOf}
use Rattle.site_map.specs.Claims.{site_of}
use Rattle.coordinator.specs.Changes.{IsDeferred}
use Rattle.coordinator.specs.Resuming.{IsPut}
use Rattle.coordinator.proofs.resuming.put_route.Goals as goal

pub returns-in_ok-kept : goal.returns-in_ok-kept
returns-in_ok-kept c =
    subst (IsPut (site_of c.args.site.now) c.args.tables.now c.defer.new.self c.args.robot.0) (sym c.in-Some.is) (
      c.needs-needed.result,
      subst (λ w. IsSetOf c.needs-needed.result (needs (site_of c.args.site.now) w)) c.cells.ensures c.needs-needed.ensures,
      subst (λ w. IsDeferred c.args.tables.now c.defer.new.self c.args.robot.0 (record { route = w; needs = c.needs-needed.result })) (c.in_ok-kept.ensures ∙ c.cells-in-Some.ensures) c.defer.ensures,
    )
