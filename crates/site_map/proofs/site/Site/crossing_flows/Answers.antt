use Rattle.std.proofs.Common.{◌≡◌, ◌<◌, length, arith, ap, ◌∙◌}
use Rattle.site_map.specs.Built.{BuiltSite, completed_site, no_crossing}
use Rattle.site_map.specs.Crossings.{completed}
use Rattle.std.proofs.lemmas.List.{length-map}
use Rattle.site_map.proofs.BuilderLemmas.{claim_count_within}
use Rattle.site_map.proofs.CellLemmas.{read_at}
use Rattle.site_map.proofs.SiteLemmas.{whole}
use Rattle.site_map.proofs.site.Site.crossing_flows.Goals as goal

pub overflow_cast-result : goal.overflow_cast-result
overflow_cast-result c =
    let is : whole c.built.inside.links.items c.built.inside.crossings.items c.built.inside.areas.items ≡ c.args.self.now = ap completed_site c.built.view_is ∙ c.self.view_is in
    let within : c.args.crossing < length c.built.inside.crossings.items = omega (arith, ap (λ (s : BuiltSite). length s.crossings) is, length-map c.built.inside.crossings.items completed, c.requires) in
    let flows = c.flow_count.ensures ∙ ap (λ x. length (completed x).flows) (read_at c.built.inside.crossings.items c.args.crossing c.index.result.now no_crossing within c.index.ensures) in
    let most = claim_count_within c.built.inside.links.items c.built.inside.link_count c.built.inside.places.items c.built.inside.crossings.items c.built.inside.areas.items c.built.inside.firsts.items c.built.inside.owners.items c.args.crossing within in
    omega (arith, flows, most, c.built.invariant.few_claims)
