use Rattle.std.proofs.Common.{◌≡◌, ◌+◌, ◌<◌, true, sym, ap, ◌∙◌, subst, refl, arith}
use Rattle.std.proofs.lemmas.Bool.{both_ways}
use Rattle.task_assign.specs.Bounds.{column_in, meets}
use Rattle.task_assign.specs.Trees.{row_in}
use Rattle.task_assign.proofs.TreeLemmas.{count_upto}
use Rattle.task_assign.proofs.Exploring.{IsExploring, exploring_more, exploring_same}
use Rattle.task_assign.proofs.tree.Tree.explore.Goals as goal
use Rattle.task_assign.proofs.tree.Tree.explore.Goals.{then-meet+else-row-self+then-not-self-row, then-meet+else-row-self+else-not-self-row, else-meet}

pub bounds-self-place : goal.bounds-self-place
bounds-self-place c =
    let upto = count_upto c.args.self.now c.requires.tree in
    let few = c.requires.tree.few in
    let known = c.requires.place_known in
    omega arith

pub loop-row-preserved : goal.loop-row-preserved
loop-row-preserved c =
    let tight = meets c.args.costs.now c.args.numbers.now in
    let column = column_in c.args.pairing.now in
    let from = row_in c.args.self.now c.args.place in
    let start = c.args.self.now in
    let now = c.loop-row.self in
    let at = c.loop-row.row in
    let h = c.loop-row.invariant.1 in
    let is : c.meet.result ≡ tight from (column at) = c.meet.ensures ∙ ap (λ x. tight from x) c.column.ensures in (
      refl,
      elim c.if-meet.branch [
        | then-meet+else-row-self+then-not-self-row w ↦
            let behind : now.last < at = omega (arith, w.if-row-self.false) in
            subst (λ t. IsExploring tight column start t from (at + 1)) (sym w.self-is)
            (exploring_more tight column start now w.push.new.self from at h w.push.ensures.tree w.push.ensures.grown
            (w.push.ensures.linked tight column h.linked (subst (λ r. tight r (column at) ≡ true) (sym (h.grown.rows_kept c.args.place c.requires.place_known)) (sym is ∙ w.if-meet.true)))
            (λ m. (let last = w.push.ensures.grown.last_kept in omega arith, w.push.ensures.reached)))
        | then-meet+else-row-self+else-not-self-row w ↦
            let behind : now.last < at = omega (arith, w.if-row-self.false) in
            subst (λ t. IsExploring tight column start t from (at + 1)) (sym w.self-is)
            (exploring_same tight column start now from at h (λ m. (behind, w.if-not-self-row.false)))
        | else-meet w ↦
            subst (λ t. IsExploring tight column start t from (at + 1)) (sym w.self-is)
            (exploring_same tight column start now from at h (λ m. absurd (both_ways c.meet.result w.if-meet.false (is ∙ m))))
      ],
    )
