use Rattle.std.proofs.Common.{◌≡◌, ◌<◌, ◌+◌, ℤ, pos, ◌+ℤ◌, sym, ap, ◌∙◌, subst, length, set, slice_index_or, to_z, of_z, w64, ◌-ℤ◌, arith, length-set}
use Rattle.std.proofs.lemmas.Int.{ints}
use Rattle.task_assign.specs.Squares.{cost_at}
use Rattle.task_assign.specs.Bounds.{column_in}
use Rattle.task_assign.specs.Finished.{int_at, AreLeftOver}
use Rattle.task_assign.proofs.Finishing.{left_over_more}
use Rattle.task_assign.proofs.search.column_numbers.Goals as goal

pub loop-row-preserved : goal.loop-row-preserved
loop-row-preserved c =
    let square = c.args.costs.now in
    let p = column_in c.args.pairing.now in
    let at = c.loop-row.row in
    let j = c.column-column.result in
    let is : j ≡ p at = c.column-column.ensures in
    let known : at < square.size = let s = c.size-row-end.ensures.sized in let l = c.loop-row-test.true in omega arith in
    let inside : p at < square.size = c.requires.pairing.below at known in
    let few = c.size-row-end.ensures.few in
    let sized = c.size-row-end.ensures.sized in
    let long = c.loop-row.invariant.2 in
    let room : p at < length c.loop-row.columns = omega arith in
    let cost : c.get.result ≡ cost_at square at (p at) = c.get.ensures.found ∙ ap (λ k. cost_at square at k) is in
    let bounded = c.get.ensures.bounded in
    let low = (c.requires.small at known).low in
    let high = (c.requires.small at known).high in
    let left : ℤ = to_z w64 (of_z w64 (to_z w64 c.get.result -ℤ to_z w64 (of_z w64 (slice_index_or c.args.rows.now c.loop-row.row (pos 0))))) in
    let leaves : int_at c.args.rows.now at +ℤ left ≡ pos (cost_at square at (p at)) = omega (arith, ints) in (
      c.loop-row.invariant.0,
      c.loop-row.invariant.1,
      length-set {A = ℤ} c.loop-row.columns j left ∙ long,
      subst (λ k. AreLeftOver square p c.args.rows.now (set c.loop-row.columns k left) (at + 1)) (sym is)
          (left_over_more square p c.args.rows.now c.loop-row.columns at left c.requires.pairing known room leaves c.loop-row.invariant.3),
    )
