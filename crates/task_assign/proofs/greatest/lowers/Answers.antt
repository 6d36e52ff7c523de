use Rattle.std.proofs.Common.{◌≡◌, ◌+◌, ◌<◌, ℕ, true, sym, ◌∙◌, subst, List, length, set, slice_index, arith, length-set, get_or-set_same, get_or-set_other}
use Rattle.task_assign.specs.Bounds.{column_in}
use Rattle.task_assign.proofs.Limiting.{IsAllowed, IsLowering, lowering_same, lowering_more}
use Rattle.task_assign.proofs.greatest.lowers.Goals as goal
use Rattle.task_assign.proofs.greatest.lowers.Goals.{then-value-values, else-value-values}

pub loop-row-preserved : goal.loop-row-preserved
loop-row-preserved c =
    let square = c.args.costs.now in
    let numbers = c.args.numbers.now in
    let p = column_in c.args.pairing.now in
    let before : ℕ → ℕ = slice_index c.args.values.now in
    let old : List ℕ = c.loop-row.values in
    let at = c.loop-row.row in
    let x = c.allowed-value.result in
    let h = c.loop-row.invariant.3 in
    let known : at < square.size = let s = c.size-row-end.ensures.sized in let l = c.loop-row-test.true in omega arith in
    let room : at < length old = let f = c.size-row-end.ensures.few in let l = c.loop-row-test.true in omega (arith, c.loop-row.invariant.2) in
    let allowed : IsAllowed square numbers p (slice_index old) at x square.size = record { upto = c.allowed-value.ensures.upto; above = c.allowed-value.ensures.above; attained = c.allowed-value.ensures.attained; stable = c.allowed-value.ensures.stable } in (
      c.loop-row.invariant.0,
      c.loop-row.invariant.1,
      elim c.if-value-values.branch [
        | then-value-values w ↦ subst (λ (xs : List ℕ). length xs ≡ 64) (sym w.values-is) (length-set old at x ∙ c.loop-row.invariant.2)
        | else-value-values w ↦ subst (λ (xs : List ℕ). length xs ≡ 64) (sym w.values-is) c.loop-row.invariant.2
      ],
      elim c.if-value-values.branch [
        | then-value-values w ↦
            subst (λ b. IsLowering square numbers p before (slice_index c.if-value-values.values) b (at + 1)) (sym w.changed-is)
            (subst (λ (xs : List ℕ). IsLowering square numbers p before (slice_index xs) true (at + 1)) (sym w.values-is)
            (lowering_more square numbers p c.requires.sound c.requires.placed before (slice_index old) (slice_index (set old at x)) c.loop-row.changed at x known allowed w.if-value-values.true (get_or-set_same old at x 0 room) (λ i o. get_or-set_other old at i x 0 o) h))
        | else-value-values w ↦
            subst (λ b. IsLowering square numbers p before (slice_index c.if-value-values.values) b (at + 1)) (sym w.changed-is)
            (subst (λ (xs : List ℕ). IsLowering square numbers p before (slice_index xs) c.loop-row.changed (at + 1)) (sym w.values-is)
            (lowering_same square numbers p c.requires.sound c.requires.placed before (slice_index old) c.loop-row.changed at x allowed w.if-value-values.false h))
      ],
    )
