use Rattle.std.proofs.Common.{length, sym, subst, arith}
use Rattle.site_map.specs.Built.{BuiltSite}
use Rattle.site_map.specs.Inside.{IsPlace}
use Rattle.site_map.proofs.BuilderLemmas.{claim_small}
use Rattle.site_map.proofs.builder.SiteBuilder.claim_at.Goals as goal

pub overflow_add-result-2 : goal.overflow_add-result-2
overflow_add-result-2 c =
    let place = subst (λ (s : BuiltSite). IsPlace s c.args.place) (sym c.self.view_is) c.requires in
    let small = claim_small _ _ _ _ _ _ _ c.self.invariant c.args.place.crossing c.index-2.result.now c.flow_number-flow.result c.index.result.now c.args.place.line place.known c.index.ensures c.index-2.ensures c.flow_number-flow.ensures place.line in
    omega (arith, small, c.len.ensures)

pub overflow_cast-result-2 : goal.overflow_cast-result-2
overflow_cast-result-2 c =
    let place = subst (λ (s : BuiltSite). IsPlace s c.args.place) (sym c.self.view_is) c.requires in
    let small = claim_small _ _ _ _ _ _ _ c.self.invariant c.args.place.crossing c.index-2.result.now c.flow_number-flow.result c.index.result.now c.args.place.line place.known c.index.ensures c.index-2.ensures c.flow_number-flow.ensures place.line in
    omega (arith, small, c.len.ensures)
