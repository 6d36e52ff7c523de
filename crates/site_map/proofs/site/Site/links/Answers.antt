use Rattle.std.proofs.Common.{◌≡◌, ◌<◌, [], length, arith, ap, sym, subst, ◌∙◌}
use Rattle.fleet_model.specs.Sites.{links_from}
use Rattle.site_map.specs.Built.{BuiltSite, completed_site}
use Rattle.site_map.specs.Claims.{site_of}
use Rattle.site_map.proofs.CellLemmas.{read_at}
use Rattle.site_map.proofs.SiteLemmas.{links_at_cell, whole}
use Rattle.site_map.proofs.site.Site.links.Goals as goal

pub returns-clause-links : goal.returns-clause-links
returns-clause-links c =
    let is : whole c.built.inside.links.items c.built.inside.crossings.items c.built.inside.areas.items ≡ c.args.self.now = ap completed_site c.built.view_is ∙ c.self.view_is in
    let within : c.args.from.0 < length c.built.inside.links.items = omega (arith, ap (λ (s : BuiltSite). s.cells) is, c.requires) in
    subst (λ s. c.as_slice.result.now ≡ links_from (site_of s) c.args.from) is
    (c.as_slice.ensures.links
    ∙ read_at c.built.inside.links.items c.args.from.0 c.index.result.now [] within c.index.ensures
    ∙ sym (links_at_cell (whole c.built.inside.links.items c.built.inside.crossings.items c.built.inside.areas.items) c.args.from))
