use Rattle.std.proofs.Common.{◌≡◌, ◌<◌, length, get_or, [], eqb, sym, ap, ◌∙◌, arith}
use Rattle.std.specs.List.{list_any}
use Rattle.std.proofs.lemmas.Bool.{ne_eqb}
use Rattle.site_map.specs.Cells.{with_one_more}
use Rattle.site_map.proofs.BuilderLemmas.{kept_link}
use Rattle.site_map.proofs.CellLemmas.{read_at}
use Rattle.site_map.proofs.builder.SiteBuilder.link.Goals as goal

pub invariant_of-self-2 : goal.invariant_of-self-2
invariant_of-self-2 c =
    let from_known : c.args.from.0 < length c.self.inside.links.items = omega arith in
    let row : c.index_mut-row.result.now ≡ get_or c.self.inside.links.items c.args.from.0 [] = read_at c.self.inside.links.items c.args.from.0 c.index_mut-row.result.now [] from_known c.index_mut-row.ensures.value in
    kept_link c.self.inside.links.items c.self.inside.link_count c.self.inside.places.items c.self.inside.crossings.items c.self.inside.areas.items c.self.inside.firsts.items c.self.inside.owners.items
    c.args.from.0 (record { to = c.args.to; cost = c.args.cost }) c.insert.new.self c.self.invariant (omega arith) from_known (omega arith) (ne_eqb c.args.to.0 c.args.from.0 (omega arith)) c.requires.costs c.requires.cheap
    (ap (list_any (λ l. eqb l.to.0 c.args.to.0)) (sym row) ∙ sym c.has.ensures ∙ c.if-has.false)
    (c.in_ok-insert.ensures.ok ∙ ap (λ r. with_one_more r (record { to = c.args.to; cost = c.args.cost })) row)
