use Rattle.std.proofs.Common.{◌≡◌, ◌+◌, ◌-◌, ap, sym, ◌∙◌, arith}
use Rattle.std.specs.Option.{unwrap_or}
use Rattle.fleet_model.specs.Sites.{last_cell, moved_to}
use Rattle.fleet_model.specs.Plans.{cell_of, own, unfinished}
use Rattle.coordinator.specs.Books.{state_of}
use Rattle.coordinator.specs.Endings.{first_kinds}
use Rattle.coordinator.proofs.WholeWalks.{moved_step}
use Rattle.coordinator.proofs.coordinator.Coordinator.end_before.Goals as goal

pub returns-in-Some : goal.returns-in-Some
returns-in-Some c =
    let m = (state_of c.args.self.now).fleet in
    let r = c.args.robot.0 in
    let es = own r (unfinished m) in
    let n = c.loop-place.place - 1 in
    let back : n + 1 ≡ c.loop-place.place = omega (arith, c.loop-place-test.true) in
    let step = moved_step (cell_of m r) es n c.unfinished.result (sym c.unfinished.ensures) in
    let here = c.loop-place.invariant ∙ ap (λ k. last_cell (cell_of m r) (moved_to (first_kinds k es))) (sym back) ∙ step in
    sym (here ∙ ap (λ o. unwrap_or o (last_cell (cell_of m r) (moved_to (first_kinds n es)))) (sym c.target_of.ensures ∙ c.in-Some.is))

pub loop-place-preserved : goal.loop-place-preserved
loop-place-preserved c =
    let m = (state_of c.args.self.now).fleet in
    let r = c.args.robot.0 in
    let es = own r (unfinished m) in
    let n = c.loop-place.place - 1 in
    let back : n + 1 ≡ c.loop-place.place = omega (arith, c.loop-place-test.true) in
    let step = moved_step (cell_of m r) es n c.unfinished.result (sym c.unfinished.ensures) in
    let here = c.loop-place.invariant ∙ ap (λ k. last_cell (cell_of m r) (moved_to (first_kinds k es))) (sym back) ∙ step in
    here ∙ ap (λ o. unwrap_or o (last_cell (cell_of m r) (moved_to (first_kinds n es)))) (sym c.target_of.ensures ∙ c.in_default.is)
