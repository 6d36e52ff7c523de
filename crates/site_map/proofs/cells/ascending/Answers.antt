use Rattle.std.proofs.Common.{sym, ◌∙◌}
use Rattle.std.specs.FinSet as set
use Rattle.fleet_base.specs.declared.numbers.CellNo.{CellNo}
use Rattle.site_map.proofs.CellLemmas.{kept_true, kept_false}
use Rattle.site_map.proofs.cells.ascending.Goals as goal
use Rattle.site_map.proofs.cells.ascending.Goals.{then-contains+in_ok-push, else-contains}

pub loop-number-preserved : goal.loop-number-preserved
loop-number-preserved c = elim c.if-contains.branch [
  | then-contains+in_ok-push w ↦ rw w.cells-is (kept_true (λ (d : CellNo). set.contains c.args.members.now d.0) c.loop-number.number c.loop-number.cells.items _ (sym c.contains.ensures.found ∙ w.if-contains.true) c.loop-number.invariant w.in_ok-push.ensures.items)
  | else-contains w ↦ rw w.cells-is (kept_false (λ (d : CellNo). set.contains c.args.members.now d.0) c.loop-number.number c.loop-number.cells.items (sym c.contains.ensures.found ∙ w.if-contains.false) c.loop-number.invariant)
]
