use Rattle.std.proofs.Common.{◌∙◌, ◌*◌, ap, arith, length, [], ◌∷◌, ◌++◌}
use Rattle.std.proofs.lemmas.List.FromFn.{length-map-range_with_len}
use Rattle.scenario_gen.specs.Draws.{after_draws, drawn}
use Rattle.scenario_gen.specs.Generated.{leg}
use Rattle.scenario_gen.proofs.Filling.{drawn_more, leg_more, number_more}
use Rattle.scenario_gen.proofs.missions.add_mission.Goals as goal

pub add-requires-clause-room : goal.add-requires-clause-room
add-requires-clause-room c =
    let long = ap length c.loop.invariant.legs ∙ length-map-range_with_len (λ i. leg (c.args.grid.width * c.args.grid.height) (after_draws (2 * i) (drawn c.args.draws.now.number))) 0 c.loop.counter in
    omega arith

pub loop-preserved : goal.loop-preserved
loop-preserved c =
    let cells = c.args.grid.width * c.args.grid.height in
    let x = drawn c.args.draws.now.number in
    let goal = c.draw_leg-goal.result in
    let number = c.loop.draws.number in
    let next = c.draw_leg-goal.new.draws.number in
    let more = leg_more c.args.missions.now c.loop.missions c.add.new.self c.args.robot.0 goal c.requires.known c.loop.invariant.same c.in_ok-add.ensures.ok in
    record {
      same = more.same;
      legs = more.legs ∙ drawn_more cells x c.loop.counter number next _ goal c.loop.invariant.legs c.loop.invariant.number c.draw_leg-goal.ensures.goal;
      number = number_more x c.loop.counter number next c.loop.invariant.number c.draw_leg-goal.ensures.number;
    }
