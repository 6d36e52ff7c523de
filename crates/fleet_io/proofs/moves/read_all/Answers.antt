use Rattle.std.proofs.Common.{◌≡◌, ◌+◌, ◌≤◌, length, take, rules, arith}
use Rattle.std.proofs.lemmas.List.{length-take, length-drop, length-take-le}
use Rattle.fleet_io.specs.Bytes.{TakesAtMost}
use Rattle.fleet_io.proofs.Pieces.{at_error, consumes_more, consumes_same, first_more, first_stay}
use Rattle.fleet_io.proofs.moves.read_all.Goals as goal

pub returns-in_err-count-clause-part : goal.returns-in_err-count-clause-part
returns-in_err-count-clause-part g c =
    let items = c.loop-filled.bytes.items in
    let held : c.loop-filled.filled ≤ length items = omega arith in
    let came = take c.loop-filled.filled items in
    let count : length came ≡ c.loop-filled.filled = length-take-le c.loop-filled.filled items held in
    let left = g.S.Source.left in
    let part : TakesAtMost (left c.args.source.now) (left c.read.new.self) (c.args.limit + 1) = (came, omega arith, consumes_same _ _ _ came c.loop-filled.invariant.taken c.in_err-count.ensures.bytes) in
    at_error _ _ part

pub loop-filled-preserved : goal.loop-filled-preserved
loop-filled-preserved g c =
    let items = c.loop-filled.bytes.items in
    let now = c.as_mut_slice.result.now in
    let filled = c.loop-filled.filled in
    let count = c.in_ok-count.count in
    let part = c.read.new.buffer in
    let held : filled ≤ length items = omega arith in
    let same : take filled now ≡ take filled items =
    first_stay items now c.resize.new.self.items _ filled c.min-room.result c.as_mut_slice.ensures.value c.in_ok-resize.ensures.items held in
    let got : count ≤ length part = c.in_ok-count.ensures.bound.0 in
    let len : c.resize.new.self.len ≡ filled + c.min-room.result = c.in_ok-resize.ensures.len in
    let room : length part ≤ c.min-room.result = rw c.read.auto.buffer (simp (length-take, length-drop) (omega (arith, c.as_mut_slice.ensures.len))) in
    let fits : filled + count ≤ c.resize.new.self.len = omega arith in
    record {
      most = search rules;
      within = omega arith;
      held = fits;
      taken = rw (first_more items now part _ _ filled count c.resize.new.self.len same held fits got) (consumes_more _ _ _ (take filled items) (take count part) c.loop-filled.invariant.taken c.in_ok-count.ensures.bytes.0);
      later = search rules;
    }
