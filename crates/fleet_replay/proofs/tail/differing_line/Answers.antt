use Rattle.std.proofs.Common.{◌≤◌, List, ℕ, length, arith}
use Rattle.fleet_replay.proofs.Lines.{behind_one, none_behind}
use Rattle.fleet_replay.proofs.tail.differing_line.Goals as goal

pub returns-clause-is : goal.returns-clause-is
returns-clause-is c =
    let text : List ℕ = c.args.text.now in
    let other : List ℕ = c.args.other.now in
    let at = c.loop-place.place in
    let past : c.min-place-end.result ≤ at = omega (arith, c.loop-place-test.false) in
    let none = none_behind text other at (behind_one (length text) (length other) c.min-place-end.result at c.min-place-end.ensures past) in
    let counted = c.loop-place.invariant.counted in
    omega (arith, counted, none)
