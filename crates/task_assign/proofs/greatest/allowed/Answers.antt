use Rattle.std.proofs.Common.{◌≡◌, ◌+◌, ◌-◌, ◌<◌, min, ℕ, sym, ap, ◌∙◌, subst, slice_index, arith}
use Rattle.task_assign.specs.Squares.{cost_at}
use Rattle.task_assign.specs.Bounds.{column_in}
use Rattle.task_assign.proofs.Limiting.{IsAllowed, raised_fits, allowed_more}
use Rattle.task_assign.proofs.greatest.allowed.Goals as goal

pub loop-other-preserved : goal.loop-other-preserved
loop-other-preserved c =
    let square = c.args.costs.now in
    let numbers = c.args.numbers.now in
    let p = column_in c.args.pairing.now in
    let value : ℕ → ℕ = slice_index c.args.values.now in
    let at = c.loop-other.other in
    let x : ℕ = value at + c.get.result - c.get-in-loop-other.result in
    let known : at < square.size = let s = c.size-size.ensures.sized in let l = c.loop-other-test.true in omega arith in
    let first : c.get.result ≡ cost_at square c.args.row (p at) = c.get.ensures.found ∙ ap (λ j. cost_at square c.args.row j) c.column-column.ensures in
    let second : c.get-in-loop-other.result ≡ cost_at square at (p at) = c.get-in-loop-other.ensures.found ∙ ap (λ j. cost_at square at j) c.column-column.ensures in
    let fits = raised_fits square numbers p c.requires.sound c.requires.placed value c.requires.limits c.args.row at c.requires.known known in
    let above = c.loop-other.invariant.above in
    let is : x + cost_at square at (p at) ≡ value at + cost_at square c.args.row (p at) = omega arith in
    let least : c.min-least.result ≡ min c.loop-other.least x = c.min-least.ensures in
    subst (λ y. IsAllowed square numbers p value c.args.row y (at + 1)) (sym least)
    (allowed_more square numbers p c.requires.sound c.requires.placed value c.requires.limits c.args.row c.loop-other.least at x c.requires.known known is c.loop-other.invariant)
