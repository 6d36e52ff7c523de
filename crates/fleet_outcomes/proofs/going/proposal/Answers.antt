use Rattle.std.proofs.Common.{◌∙◌, sym, ap}
use Rattle.std.specs.Option.{option_map}
use Rattle.fleet_model.specs.Calls.{Propose}
use Rattle.coordinator.specs.Books.{state_of}
use Rattle.fleet_outcomes.proofs.Acting.{way_here}
use Rattle.fleet_outcomes.proofs.going.proposal.Goals as goal

pub returns-in-Some-clause-act : goal.returns-in-Some-clause-act
returns-in-Some-clause-act c =
    ap (option_map (λ route. Propose route)) (sym c.in-Some.is ∙ way_here (state_of c.args.fleet.now) c.args.robot.0 c.args.goal c.site.result.now c.args.fleet.now.site c.end.result _ c.journal-kept.ensures.same_site c.site.ensures c.end.ensures.value c.in_ok-route.ensures)

pub returns-in-None-clause-act : goal.returns-in-None-clause-act
returns-in-None-clause-act c =
    ap (option_map (λ route. Propose route)) (sym c.in-None.is ∙ way_here (state_of c.args.fleet.now) c.args.robot.0 c.args.goal c.site.result.now c.args.fleet.now.site c.end.result _ c.journal-kept.ensures.same_site c.site.ensures c.end.ensures.value c.in_ok-route.ensures)
