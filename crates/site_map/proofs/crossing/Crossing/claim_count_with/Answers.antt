use Rattle.std.proofs.Common.{◌≡◌, ◌+◌, cond, length, sym, ap, ◌∙◌, arith}
use Rattle.site_map.specs.Crossings.{claim_count_of, completed, with_line}
use Rattle.site_map.proofs.CrossingLemmas.{claims_by_rest}
use Rattle.site_map.proofs.crossing.Crossing.claim_count_with.Goals as goal

pub returns-then-leaves_rest : goal.returns-then-leaves_rest
returns-then-leaves_rest c = λ line members.
    let count : c.len.result + 2 ≡ length c.self.inside.lines.items + 2 = omega arith in
    count
    ∙ ap (λ b. cond b (length c.self.inside.lines.items + 2) (length c.self.inside.lines.items + 1)) (sym c.if-leaves_rest.true)
    ∙ sym (claims_by_rest c.self.inside.cells c.cells.result.now line c.self.inside.lines.items c.self.inside.free c.args.line.now c.self.inside.has_rest c.leaves_rest.result c.self.invariant members c.cells.ensures c.leaves_rest.ensures)
    ∙ ap (λ x. claim_count_of (completed (with_line x line))) c.self.view_is

pub returns-else-leaves_rest : goal.returns-else-leaves_rest
returns-else-leaves_rest c = λ line members.
    let count : c.len-else-leaves_rest.result + 1 ≡ length c.self.inside.lines.items + 1 = omega arith in
    count
    ∙ ap (λ b. cond b (length c.self.inside.lines.items + 2) (length c.self.inside.lines.items + 1)) (sym c.if-leaves_rest.false)
    ∙ sym (claims_by_rest c.self.inside.cells c.cells.result.now line c.self.inside.lines.items c.self.inside.free c.args.line.now c.self.inside.has_rest c.leaves_rest.result c.self.invariant members c.cells.ensures c.leaves_rest.ensures)
    ∙ ap (λ x. claim_count_of (completed (with_line x line))) c.self.view_is
