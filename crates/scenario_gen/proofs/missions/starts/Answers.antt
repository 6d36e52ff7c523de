use Rattle.std.proofs.Common.{◌++◌, ◌∷◌, [], ◌∙◌, sym, ap, arith}
use Rattle.std.proofs.lemmas.List.FromFn.{map-range_with_len_more}
use Rattle.fleet_model.specs.Lists.{numbers_below}
use Rattle.std.proofs.Common.{map}
use Rattle.scenario_gen.specs.Generated.{start}
use Rattle.scenario_gen.proofs.missions.starts.Goals as goal

pub loop-robot-preserved : goal.loop-robot-preserved
loop-robot-preserved c =
    let width = c.args.grid.width in
    let robot = c.loop-robot.robot in
    c.in_ok-extend_from_slice.ensures.items
    ∙ ((λ i. c.loop-robot.invariant i ++ c.start.ensures i ∷ [])
    ∙ sym (map-range_with_len_more (start width) 0 robot robot (omega arith)))
