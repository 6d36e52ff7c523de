use Rattle.std.proofs.Common.{◌≡◌, ℕ, true, length, sym, subst, ◌∙◌, arith}
use Rattle.site_map.specs.Cells.{are_known, in_order}
use Rattle.site_map.specs.Inside.{AreCells}
use Rattle.site_map.proofs.CellLemmas.{AreCells-in_order, in_order_kept}
use Rattle.site_map.proofs.BuilderLemmas.{kept_area}
use Rattle.site_map.proofs.builder.SiteBuilder.area.Goals as goal

pub invariant_of-self-2 : goal.invariant_of-self-2
invariant_of-self-2 c =
    let n : ℕ = length c.self.inside.links.items in
    let count : c.len-count.result ≡ n = omega arith in
    let known : are_known n c.args.cells.now ≡ true = subst (λ m. are_known m c.args.cells.now ≡ true) count (sym c.are_known.ensures ∙ c.if-not-are_known.false) in
    let is : c.in_ok-kept.kept ≡ in_order n c.args.cells.now = in_order_kept c.in-Some.members c.args.cells.now c.in_ok-kept.kept n c.len-count.result c.in-Some.ensures.numbers count c.in_ok-kept.ensures in
    kept_area c.self.inside.links.items c.self.inside.link_count c.self.inside.places.items c.self.inside.crossings.items c.self.inside.areas.items c.self.inside.firsts.items c.self.inside.owners.items
    c.push.new.self.items c.in_ok-kept.kept c.self.invariant (omega arith)
    (subst (λ cs. AreCells n cs) (sym is) (AreCells-in_order n c.args.cells.now known c.requires)) c.in_ok-push.ensures.items
