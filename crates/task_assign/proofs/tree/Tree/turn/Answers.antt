use Rattle.std.proofs.Common.{◌<◌, arith}
use Rattle.task_assign.specs.Bounds.{column_in}
use Rattle.task_assign.specs.Trees.{row_in, from_in}
use Rattle.task_assign.proofs.TreeLemmas.{count_upto}
use Rattle.task_assign.proofs.Turns.{exchanged_pairing, turning_more, turning_last}
use Rattle.task_assign.proofs.tree.Tree.turn.Goals as goal

pub bounds-self-place : goal.bounds-self-place
bounds-self-place c =
    let upto = count_upto c.args.self.now c.requires.tree in
    let few = c.requires.tree.few in
    let known = c.loop-place.invariant.0 in
    omega arith

pub loop-place-preserved : goal.loop-place-preserved
loop-place-preserved c =
    let t = c.args.self.now in
    let a = c.requires.tree in
    let row = c.args.end.now.row in
    let place = c.loop-place.place in
    let some = c.loop-place-test.true in
    let known = c.loop-place.invariant.0 in
    let earlier : from_in t place < place = a.before place some known in
    let inside : row < t.size = let x = c.requires.ends in let y = a.last_known in omega arith in (
      omega arith,
      λ h. exchanged_pairing row (row_in t place) t.size (column_in c.loop-place.pairing) (column_in c.exchange.new.self) inside (a.known place known) c.exchange.ensures (c.loop-place.invariant.1 h),
      λ tight linked begins. turning_more tight t row (column_in c.args.pairing.now) place (column_in c.loop-place.pairing) (column_in c.exchange.new.self) a linked c.requires.ends some known c.exchange.ensures (c.loop-place.invariant.2 tight linked begins),
    )

pub returns-clause-turned : goal.returns-clause-turned
returns-clause-turned c = λ tight linked begins.
    turning_last tight c.args.self.now c.args.end.now.row (column_in c.args.pairing.now) c.loop-place.place (column_in c.loop-place.pairing) (column_in c.exchange-2.new.self) (let x = c.loop-place-test.false in omega arith) c.exchange-2.ensures (c.loop-place.invariant.2 tight linked begins)
