use Rattle.std.proofs.Common.{arith}
use Rattle.task_assign.proofs.TreeLemmas.{room, pushed_tree, pushed_linked}
use Rattle.task_assign.proofs.tree.Tree.push.Goals as goal

pub bounds-self-self : goal.bounds-self-self
bounds-self-self c = room c.args.self.now c.requires.tree c.args.place c.args.row c.requires.known c.requires.behind c.requires.free c.requires.place_known

pub bounds-self-self-2 : goal.bounds-self-self-2
bounds-self-self-2 c = room c.args.self.now c.requires.tree c.args.place c.args.row c.requires.known c.requires.behind c.requires.free c.requires.place_known

pub overflow_add-self : goal.overflow_add-self
overflow_add-self c =
    let small = room c.args.self.now c.requires.tree c.args.place c.args.row c.requires.known c.requires.behind c.requires.free c.requires.place_known in
    omega arith

pub returns-clause-tree : goal.returns-clause-tree
returns-clause-tree c = pushed_tree c.args.self.now c.requires.tree c.args.place c.args.row c.requires.known c.requires.behind c.requires.free c.requires.place_known

pub returns-clause-linked : goal.returns-clause-linked
returns-clause-linked c = λ tight column. pushed_linked c.args.self.now c.requires.tree c.args.place c.args.row c.requires.known c.requires.behind c.requires.free c.requires.place_known tight column
