use Rattle.std.proofs.Common.{◌≡◌, ◌+◌, length, arith, ap, subst, ◌∙◌}
use Rattle.site_map.specs.Built.{BuiltSite, completed_site}
use Rattle.site_map.specs.Claims.{groups_of}
use Rattle.site_map.proofs.SiteLemmas.{length-groups, whole}
use Rattle.site_map.proofs.site.Site.claim_count.Goals as goal

pub returns-clause-groups : goal.returns-clause-groups
returns-clause-groups c =
    let is : whole c.built.inside.links.items c.built.inside.crossings.items c.built.inside.areas.items ≡ c.args.self.now = ap completed_site c.built.view_is ∙ c.self.view_is in
    let all = length-groups (whole c.built.inside.links.items c.built.inside.crossings.items c.built.inside.areas.items) in
    subst (λ (s : BuiltSite). c.len.result + c.len-2.result ≡ length (groups_of s)) is (omega (arith, all, c.built.invariant.numbered.owners_are_all))
