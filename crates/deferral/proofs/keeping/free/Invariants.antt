use Rattle.std.proofs.Common.{◌≡◌, ◌==◌, ◌&&◌, false}
use Rattle.std.specs.Prelude.{nat_lt}
use Rattle.fleet_model.specs.Sites.{in_conflict}
use Rattle.deferral.specs.Tallies.{IsRemarked}
use Rattle.deferral.proofs.keeping.free.Given as goal

abbrev pub invariant-loop-number : goal.invariant-loop-number
invariant-loop-number l =
    (l.tally.needed ≡ l.fn.tally.needed)
    × IsRemarked l.fn.tally.kept l.tally.kept (λ c r. (r == l.robot.0) && (nat_lt c l.number && in_conflict l.groups (record { 0 = c }) l.claim)) false
