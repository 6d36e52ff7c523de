use Rattle.std.proofs.Common.{◌+◌, [], sym, subst, ◌∙◌, get_or, take}
use Rattle.site_map.proofs.CellLemmas.{IsSeen, IsSeen_more, IsSeen_none, has_repeat_at, no_cell}
use Rattle.site_map.proofs.cells.set_of.Goals as goal

pub loop-cell-init : goal.loop-cell-init
loop-cell-init c = subst (λ s. IsSeen s []) (sym c.new-seen.ensures) IsSeen_none

pub loop-cell-preserved : goal.loop-cell-preserved
loop-cell-preserved c =
    subst (λ s. IsSeen s (take (c.loop-cell.cell-index + 1) c.args.cells.now)) (sym c.insert.ensures)
    (IsSeen_more c.loop-cell.seen c.args.cells.now c.loop-cell.cell-index c.loop-cell-test.true
    (sym c.contains.ensures.found ∙ c.if-contains.false) c.loop-cell.invariant)

pub returns-then-contains-clause-repeated : goal.returns-then-contains-clause-repeated
returns-then-contains-clause-repeated c =
    has_repeat_at c.args.cells.now c.loop-cell.cell-index c.loop-cell-test.true
    (sym (c.loop-cell.invariant.numbers (get_or c.args.cells.now c.loop-cell.cell-index no_cell)) ∙ sym c.contains.ensures.found ∙ c.if-contains.true)
