use Rattle.std.proofs.Common.{Bool, true, false, ℕ, arith, set, replicate, length-set, get_or-set_same, ◌∙◌, ◌<◌}
use Rattle.std.proofs.lemmas.List.{get_or-replicate, length-replicate}
use Rattle.task_assign.proofs.TreeLemmas.{tree_alone, one_marked}
use Rattle.task_assign.proofs.tree.Tree.new.Goals as goal

pub returns-clause-tree : goal.returns-clause-tree
returns-clause-tree c =
    let known : c.args.row < 64 = let a = c.requires.known in let b = c.requires.few in omega arith in
    tree_alone c.args.size c.args.first c.args.last c.args.row (replicate 64 c.args.row) (replicate 64 0) (set (replicate 64 false) c.args.row true)
    (length-replicate {A = ℕ} 64 c.args.row)
    (length-replicate {A = ℕ} 64 0)
    (length-set {A = Bool} (replicate 64 false) c.args.row true ∙ length-replicate {A = Bool} 64 false)
    c.requires.few
    c.requires.known
    c.requires.last_known
    (get_or-replicate {A = ℕ} 64 0 c.args.row 0 (omega arith))
    (get_or-set_same {A = Bool} (replicate 64 false) c.args.row true false (omega (arith, length-replicate {A = Bool} 64 false)))
    (λ b h. one_marked 64 c.args.row b h)
