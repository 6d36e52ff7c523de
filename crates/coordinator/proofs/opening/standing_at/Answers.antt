use Rattle.std.proofs.Common.{◌≡◌, ◌+◌, ◌++◌, ◌∷◌, [], List, map, take, get_or, Option, None, ap, sym, ◌∙◌, arith}
use Rattle.std.proofs.lemmas.List.{map-append, take_all, take_more}
use Rattle.fleet_base.specs.declared.numbers.CellNo.{CellNo}
use Rattle.coordinator.proofs.opening.standing_at.Goals as goal

pub loop-start-preserved : goal.loop-start-preserved
loop-start-preserved c =
    let none : CellNo → Option (List CellNo) = λ a. None in
    let starts = c.args.starts.now in
    let i = c.loop-start._start-index in
    let d : CellNo = record { 0 = 0 } in
    let more : map none (take (i + 1) starts) ≡ map none (take i starts) ++ None ∷ [] = ap (map none) (take_more starts i d c.loop-start-test.true) ∙ map-append none (take i starts) (get_or starts i d ∷ []) in (
      c.push_reserved.ensures.items ∙ (ap (λ xs. xs ++ None ∷ []) c.loop-start.invariant.0 ∙ sym more),
      omega (arith, c.push_reserved.ensures.len, c.loop-start.invariant.1),
      omega (arith, c.push_reserved.ensures.capacity, c.loop-start.invariant.2),
    )

pub returns-clause-pending : goal.returns-clause-pending
returns-clause-pending c = c.loop-start.invariant.0 ∙ ap (map (λ a. None)) (take_all c.loop-start._start-index c.args.starts.now c.loop-start-test.false)
