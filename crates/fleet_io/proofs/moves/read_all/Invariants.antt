use Rattle.std.proofs.Common.{◌≡◌, ◌+◌, ◌-◌, ◌≤◌, take, vec_len}
use Rattle.std.specs.Io.KnownBytes.{Consumes}
use Rattle.fleet_io.proofs.moves.read_all.Given as goal

abbrev pub invariant-loop-filled : goal.invariant-loop-filled
invariant-loop-filled g l =
    let s = g.S.Source in
    record {
      most : l.most ≡ l.limit + 1;
      within : l.filled ≤ l.most;
      held : l.filled ≤ vec_len l.bytes;
      taken : Consumes (s.left l.fn.source) (s.left l.source) (take l.filled l.bytes.items);
      later : s.faults l.fn.source ≤ s.faults l.source;
    }

abbrev pub decreases-loop-filled : goal.decreases-loop-filled
decreases-loop-filled g l = l.most - l.filled
