use Rattle.std.proofs.Common.{◌≡◌, true, sym, ap, ◌∙◌, subst, arith}
use Rattle.task_assign.specs.Pairings.{IsPairing}
use Rattle.task_assign.specs.Bounds.{column_in, meets}
use Rattle.task_assign.specs.Trees.{row_in}
use Rattle.task_assign.proofs.Settling.{closed_refuses, turned_placed}
use Rattle.task_assign.proofs.least_list.gives.Goals as goal

pub returns-in_default-clause-refused : goal.returns-in_default-clause-refused
returns-in_default-clause-refused c = λ f q a all same.
    let t = c.grow.new.self in
    let grown = c.in_default.ensures.grown in
    let first : t.first ≡ c.args.row = grown.first_kept ∙ c.new-tree.ensures.begins in
    let last : t.last ≡ c.args.row = grown.last_kept ∙ c.new-tree.ensures.ends in
    let size : t.size ≡ c.args.costs.now.size = grown.size_kept ∙ c.new-tree.ensures.sized ∙ c.size-size.ensures.sized in
    let root : row_in t 0 ≡ c.args.holder = grown.rows_kept 0 (let one = c.new-tree.ensures.alone in omega arith) ∙ c.new-tree.ensures.root in
    closed_refuses c.args.costs.now c.args.numbers.now (column_in c.args.pairing.now) t c.args.row c.args.holder c.in_default.ensures.tree size first last root c.requires.before c.requires.placed c.in_default.ensures.closed q a all same c.requires.known

pub returns-clause-placed : goal.returns-clause-placed
returns-clause-placed c =
    let t = c.grow.new.self in
    let square = c.args.costs.now in
    let numbers = c.args.numbers.now in
    let p = column_in c.args.pairing.now in
    let q = column_in c.turn.new.pairing in
    let grown = c.in-Some.ensures.grown in
    let end = c.in-Some.ensures.ended in
    let first : t.first ≡ c.args.row = grown.first_kept ∙ c.new-tree.ensures.begins in
    let last : t.last ≡ c.args.row = grown.last_kept ∙ c.new-tree.ensures.ends in
    let size : t.size ≡ square.size = grown.size_kept ∙ c.new-tree.ensures.sized ∙ c.size-size.ensures.sized in
    let root : row_in t 0 ≡ c.args.holder = grown.rows_kept 0 (let one = c.new-tree.ensures.alone in omega arith) ∙ c.new-tree.ensures.root in
    let met : meets square numbers c.args.row (p c.args.holder) ≡ true = ap (λ j. meets square numbers c.args.row j) (sym c.column.ensures) ∙ sym c.meet.ensures ∙ c.if-not-meet.false in
    turned_placed square numbers p t c.args.row c.args.holder c.in-Some.ensures.tree size first last root c.requires.before c.in-Some.end end q
    (c.turn.ensures.turned (meets square numbers) c.in-Some.ensures.linked end.met)
    met
    (subst (λ n. IsPairing n q) size (c.turn.ensures.pairing (subst (λ n. IsPairing n p) (sym size) c.requires.placed.pairing)))
    c.requires.placed
