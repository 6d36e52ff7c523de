use Rattle.std.proofs.Common.{◌≡◌, ◌<◌, [], eqb, length, arith, ap, sym, subst, ◌∙◌}
use Rattle.std.specs.List.{find}
use Rattle.std.specs.Option.{option_map}
use Rattle.fleet_base.specs.declared.numbers.Link.{Link}
use Rattle.std.proofs.Common.{List}
use Rattle.fleet_model.specs.Sites.{link_cost}
use Rattle.site_map.specs.Built.{BuiltSite, completed_site}
use Rattle.site_map.specs.Claims.{site_of}
use Rattle.site_map.proofs.CellLemmas.{read_at}
use Rattle.site_map.proofs.SiteLemmas.{cost_at, whole}
use Rattle.site_map.proofs.site.Site.cost.Goals as goal

pub returns : goal.returns
returns c =
    let is : whole c.built.inside.links.items c.built.inside.crossings.items c.built.inside.areas.items ≡ c.args.self.now = ap completed_site c.built.view_is ∙ c.self.view_is in
    let within : c.args.from.0 < length c.built.inside.links.items = omega (arith, ap (λ (s : BuiltSite). s.cells) is, c.requires) in
    subst (λ s. c.cost.result ≡ link_cost (site_of s) c.args.from c.args.to) is
    (c.cost.ensures
    ∙ ap (λ (row : List Link). option_map (λ l. l.cost) (find (λ l. eqb l.to.0 c.args.to.0) row)) (read_at c.built.inside.links.items c.args.from.0 c.index.result.now [] within c.index.ensures)
    ∙ sym (cost_at (whole c.built.inside.links.items c.built.inside.crossings.items c.built.inside.areas.items) c.args.from c.args.to))
