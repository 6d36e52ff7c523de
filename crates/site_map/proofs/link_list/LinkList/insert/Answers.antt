use Rattle.std.proofs.Common.{◌≡◌, eqb, false, length, sym, ap, subst, ◌∙◌, arith}
use Rattle.std.specs.List.{insert, list_any, take_while}
use Rattle.site_map.specs.Cells.{with_one_more, LinksRise}
use Rattle.site_map.proofs.LinkLemmas.{insert-with_one_more, is_before, LinksRise-with_one_more}
use Rattle.site_map.proofs.link_list.LinkList.insert.Goals as goal

pub invariant_of-self-2 : goal.invariant_of-self-2
invariant_of-self-2 c =
    let new : list_any (λ l. eqb l.to.0 c.args.link.to.0) c.self.inside.links.items ≡ false = subst (λ l. list_any (λ m. eqb m.to.0 c.args.link.to.0) l ≡ false) (sym c.self.view_is) c.requires in
    subst (LinksRise 0)
    (sym (c.in_ok-insert.ensures.items
    ∙ ap (λ i. insert c.self.inside.links.items i c.args.link) (c.place_among-place.ensures.counted ∙ ap (λ l. length (take_while (is_before c.args.link.to) l)) c.as_slice.ensures.value)
    ∙ insert-with_one_more c.self.inside.links.items c.args.link))
    (LinksRise-with_one_more 0 c.self.inside.links.items c.args.link c.self.invariant (omega arith) new)

pub returns-clause-ok : goal.returns-clause-ok
returns-clause-ok c =
    c.in_ok-insert.ensures.items
    ∙ ap (λ i. insert c.self.inside.links.items i c.args.link) (c.place_among-place.ensures.counted ∙ ap (λ l. length (take_while (is_before c.args.link.to) l)) c.as_slice.ensures.value)
    ∙ insert-with_one_more c.self.inside.links.items c.args.link
    ∙ ap (λ l. with_one_more l c.args.link) c.self.view_is
