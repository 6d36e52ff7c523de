use Rattle.std.proofs.Common.{◌≡◌, ◌≤◌, sym, subst, ap, ◌∙◌}
use Rattle.std.specs.FinSet.{insert}
use Rattle.fleet_model.specs.Lists.{has_cell}
use Rattle.fleet_base.specs.declared.numbers.CellNo.{CellNo}
use Rattle.journal_replay.proofs.Replans.{last_is, only_cell}
use Rattle.journal_replay.proofs.entry.last_of.Goals as goal

pub returns-then-cell-ge-MAX_CELLS-clause-none : goal.returns-then-cell-ge-MAX_CELLS-clause-none
returns-then-cell-ge-MAX_CELLS-clause-none c = λ none cell is.
    let last = last_is c.args.cells.now c.in_ok-cell.field-0.now (sym c.in_ok-cell.ensures.value) in
    let same : cell ≡ c.in_ok-cell.field-0.now = (let both = sym is ∙ last in cc) in
    subst (λ (a : CellNo). 1024 ≤ a.0) (sym same) c.if-cell-ge-MAX_CELLS.true

pub returns-clause-some : goal.returns-clause-some
returns-clause-some c = λ cell.
    only_cell c.put.new.self c.in_ok-cell.field-0.now (c.put.ensures ∙ ap (λ s. insert s c.in_ok-cell.field-0.now.0) c.new-goal.ensures) cell
    ∙ ap (λ cells. has_cell cells cell) (sym (last_is c.args.cells.now c.in_ok-cell.field-0.now (sym c.in_ok-cell.ensures.value)))
