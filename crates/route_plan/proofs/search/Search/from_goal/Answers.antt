use Rattle.std.proofs.Common.{◌≡◌, ◌+◌, [], ◌∷◌, ◌++◌, Some, None, sym, ◌∙◌, subst}
use Rattle.std.specs.BinaryHeap.{heap_items}
use Rattle.fleet_base.specs.declared.numbers.CellNo.{CellNo}
use Rattle.route_plan.specs.Labels.{has}
use Rattle.route_plan.specs.Search.{IsBegun}
use Rattle.route_plan.proofs.Searching.{begun_goal, begun_other}
use Rattle.route_plan.proofs.search.Search.from_goal.Goals as goal
use Rattle.route_plan.proofs.search.Search.from_goal.Goals.{then-is_free_goal+in_ok-push+in_ok-push-2, else-is_free_goal+in_ok-push-3}

pub loop-number-preserved : goal.loop-number-preserved
loop-number-preserved c =
    let cell : CellNo = record { 0 = c.loop-number.number } in
    let goals = has c.args.goal.now in
    let avoid = has c.args.avoid.now in
    let labels = c.loop-number.labels.items in
    let open_cells = heap_items c.loop-number.queue in
    elim c.if-is_free_goal.branch [
      | then-is_free_goal+in_ok-push+in_ok-push-2 w ↦
          let begun = begun_goal goals avoid cell labels open_cells c.loop-number.invariant (sym c.is_free_goal.ensures ∙ w.if-is_free_goal.true) (heap_items w.push.new.self) w.in_ok-push.ensures.permutation in
          let items : c.if-is_free_goal.labels.items ≡ labels ++ Some 0 ∷ [] = cc (w.labels-is, w.in_ok-push-2.ensures.items) in
          let opened : heap_items c.if-is_free_goal.queue ≡ heap_items w.push.new.self = cc w.queue-is in
          subst (λ ls. IsBegun (c.loop-number.number + 1) goals avoid ls (heap_items c.if-is_free_goal.queue)) (sym items) (subst (λ os. IsBegun (c.loop-number.number + 1) goals avoid (labels ++ Some 0 ∷ []) os) (sym opened) begun)
      | else-is_free_goal+in_ok-push-3 w ↦
          let begun = begun_other goals avoid cell labels open_cells c.loop-number.invariant (sym c.is_free_goal.ensures ∙ w.if-is_free_goal.false) in
          let items : c.if-is_free_goal.labels.items ≡ labels ++ None ∷ [] = cc (w.labels-is, w.in_ok-push-3.ensures.items) in
          let opened : heap_items c.if-is_free_goal.queue ≡ open_cells = cc w.queue-is in
          subst (λ ls. IsBegun (c.loop-number.number + 1) goals avoid ls (heap_items c.if-is_free_goal.queue)) (sym items) (subst (λ os. IsBegun (c.loop-number.number + 1) goals avoid (labels ++ None ∷ []) os) (sym opened) begun)
    ]
