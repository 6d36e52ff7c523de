use Rattle.std.proofs.Common.{length, sym, ap, ◌∙◌, arith}
use Rattle.std.proofs.lemmas.Bool.{eqb-true, eqb-false}
use Rattle.std.specs.Vec.{vec_len}
use Rattle.site_map.specs.Crossings.{claim_count_of, completed}
use Rattle.site_map.proofs.CrossingLemmas.{flows_none, flows_some}
use Rattle.site_map.proofs.crossing.Crossing.flow_count.Goals as goal

pub returns-then-is_empty : goal.returns-then-is_empty
returns-then-is_empty c =
    let none = eqb-true (vec_len c.self.inside.lines) 0 (sym c.is_empty.ensures ∙ c.if-is_empty.true) in
    sym (flows_none c.self.inside.cells c.self.inside.lines.items (omega arith)) ∙ ap (λ x. length (completed x).flows) c.self.view_is

pub returns-else-is_empty : goal.returns-else-is_empty
returns-else-is_empty c =
    let some = eqb-false (vec_len c.self.inside.lines) 0 (sym c.is_empty.ensures ∙ c.if-is_empty.false) in
    c.claim_count.ensures
    ∙ ap (λ x. claim_count_of (completed x)) (sym c.self.view_is)
    ∙ flows_some c.self.inside.cells c.self.inside.lines.items (omega arith) ∙ ap (λ x. length (completed x).flows) c.self.view_is
