use Rattle.std.proofs.Common.{◌≡◌, ◌++◌, ◌∷◌, [], true, cond, ap, ◌∙◌, arith}
use Rattle.std.specs.Result.{is_ok}
use Rattle.site_map.specs.declared.places.Places.TheVariants.{Free}
use Rattle.site_map.proofs.BuilderLemmas.{kept_cell}
use Rattle.site_map.proofs.builder.SiteBuilder.cell.Goals as goal

pub invariant_of-self-2 : goal.invariant_of-self-2
invariant_of-self-2 c =
    let ok : is_ok c.push-2.result ≡ true = c.push-2.ensures.succeeds (omega (arith, c.in_ok-reserve.ensures.ok)) in
    kept_cell c.self.inside.links.items c.self.inside.link_count c.self.inside.places.items c.self.inside.crossings.items c.self.inside.areas.items c.self.inside.firsts.items c.self.inside.owners.items
    c.push.new.self.items c.push-2.new.self.items c.self.invariant (omega arith)
    (c.in_ok-push.ensures.items ∙ ap (λ row. c.self.inside.links.items ++ row ∷ []) c.new.ensures)
    (c.push-2.ensures.items ∙ ap (λ b. cond b (c.reserve.new.self.items ++ Free ∷ []) c.reserve.new.self.items) ok ∙ ap (λ l. l ++ Free ∷ []) c.reserve.ensures.items)
