use Rattle.std.proofs.Common.{◌≡◌, ◌+◌, ◌<◌, sym, ◌∙◌, subst, arith}
use Rattle.task_assign.specs.Pairings.{IsPairing}
use Rattle.task_assign.specs.Bounds.{column_in, raised_in, meets, ArePlaced}
use Rattle.task_assign.specs.Trees.{row_in}
use Rattle.task_assign.proofs.Lifting.{placed_more, raised_upto}
use Rattle.task_assign.proofs.least_total.place.Goals as goal

pub returns-in-Some-clause-placed : goal.returns-in-Some-clause-placed
returns-in-Some-clause-placed c =
    let t = c.grow.new.self in
    let square = c.args.costs.now in
    let numbers = c.loop-end.numbers in
    let p = column_in c.loop-end.pairing in
    let q = column_in c.turn.new.pairing in
    let grown = c.in-Some.ensures.grown in
    let end = c.in-Some.ensures.ended in
    let last : t.last ≡ c.args.row = grown.last_kept ∙ c.new-tree.ensures.ends in
    let size : t.size ≡ square.size = grown.size_kept ∙ c.new-tree.ensures.sized ∙ c.size.ensures.sized in
    let root : row_in t 0 ≡ c.args.row = grown.rows_kept 0 (let one = c.new-tree.ensures.alone in omega arith) ∙ c.new-tree.ensures.root in
    placed_more square numbers p q t c.in-Some.end c.args.row last root c.requires.known end
    (c.turn.ensures.turned (meets square numbers) c.in-Some.ensures.linked end.met)
    (subst (λ n. IsPairing n q) size (c.turn.ensures.pairing (subst (λ n. IsPairing n p) (sym size) c.loop-end.invariant.1.pairing)))
    c.loop-end.invariant.1

pub loop-end-smaller : goal.loop-end-smaller
loop-end-smaller c =
    let last = c.in_default.ensures.grown.last_kept ∙ c.new-tree.ensures.ends in
    let more : raised_in c.loop-end.numbers c.args.row < raised_in c.lift.new.numbers c.args.row = subst (λ r. raised_in c.loop-end.numbers r < raised_in c.lift.new.numbers r) last c.lift.ensures.raised in
    let upto = raised_upto c.args.costs.now c.lift.new.numbers (column_in c.loop-end.pairing) c.args.row c.requires.known c.lift.ensures.sound (subst (λ r. ArePlaced c.args.costs.now c.lift.new.numbers (column_in c.loop-end.pairing) (r + 1)) last c.lift.ensures.placed) in
    omega arith
