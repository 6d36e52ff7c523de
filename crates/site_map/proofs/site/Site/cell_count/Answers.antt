use Rattle.std.proofs.Common.{◌≡◌, ap, subst, ◌∙◌}
use Rattle.fleet_model.specs.Sites.{IsSite}
use Rattle.fleet_model.specs.Tables.{IsCounted}
use Rattle.site_map.specs.Built.{BuiltSite, completed_site}
use Rattle.site_map.specs.Claims.{site_of}
use Rattle.site_map.proofs.CountLemmas.{is_counted}
use Rattle.site_map.specs.Valid.{IsValidSite}
use Rattle.site_map.proofs.SiteLemmas.{is_site, whole}
use Rattle.site_map.proofs.ValidLemmas.{is_valid}
use Rattle.site_map.proofs.site.Site.cell_count.Goals as goal

pub returns-clause-site : goal.returns-clause-site
returns-clause-site c =
    let is : whole c.built.inside.links.items c.built.inside.crossings.items c.built.inside.areas.items ≡ c.args.self.now = ap completed_site c.built.view_is ∙ c.self.view_is in
    subst (λ (s : BuiltSite). IsSite (site_of s)) is (is_site c.built.inside.links.items c.built.inside.link_count c.built.inside.places.items c.built.inside.crossings.items c.built.inside.areas.items c.built.inside.firsts.items c.built.inside.owners.items c.built.invariant)

pub returns-clause-counted : goal.returns-clause-counted
returns-clause-counted c = subst (λ (s : BuiltSite). IsCounted (site_of s)) c.self.view_is (is_counted c.self.inside.built)

pub returns-clause-valid : goal.returns-clause-valid
returns-clause-valid c =
    let is : whole c.built.inside.links.items c.built.inside.crossings.items c.built.inside.areas.items ≡ c.args.self.now = ap completed_site c.built.view_is ∙ c.self.view_is in
    subst IsValidSite is (is_valid c.built.inside.links.items c.built.inside.link_count c.built.inside.places.items c.built.inside.crossings.items c.built.inside.areas.items c.built.inside.firsts.items c.built.inside.owners.items c.built.invariant)
