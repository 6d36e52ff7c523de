use Rattle.std.proofs.Common.{arith}
use Rattle.scenario_reader.specs.Readers.{front_value}
use Rattle.scenario_reader.proofs.FrontSizes.{front_within}
use Rattle.fleet_replay.specs.declared.refused.ReplayFault.TheVariants.{Line}
use Rattle.fleet_replay.specs.declared.refused.TextRefused.TheVariants.{Fault}
use Rattle.fleet_replay.proofs.Stops.{handed_on}
use Rattle.fleet_replay.proofs.Told.{more_segments, refused_for, run_fails, soundly, taken}
use Rattle.fleet_replay.proofs.replay.replayed.Goals as goal

pub split_at-requires : goal.split_at-requires
split_at-requires c = (front_within c.args.input.now (front_value c.in_ok-front.front) c.in_ok-front.ensures).0

pub replay_behind-requires-clause-short : goal.replay_behind-requires-clause-short
replay_behind-requires-clause-short c =
    let lines = (front_within c.args.input.now (front_value c.in_ok-front.front) c.in_ok-front.ensures).1 in
    let rest = c.split_at.ensures.back_len in
    omega (arith, lines, rest, c.requires)

pub returns-in_err-fleet-clause-is : goal.returns-in_err-fleet-clause-is
returns-in_err-fleet-clause-is c =
    let refused = c.in_err-fleet.field-0.0 in
    handed_on _ _ _ refused c.from_residual-in_err-fleet.ensures.1
    (run_fails c.args.input.now (front_value c.in_ok-front.front) c.in_ok-front.ensures c.into_parts-site.ensures.is c.cells.ensures c.split_at.ensures.back refused c.in_err-fleet.ensures.is)

pub check_header-requires : goal.check_header-requires
check_header-requires c =
    let fits = front_within c.args.input.now (front_value c.in_ok-front.front) c.in_ok-front.ensures in
    omega (arith, fits.0, fits.1, c.requires)

pub returns-in_err-check_header-clause-is : goal.returns-in_err-check_header-clause-is
returns-in_err-check_header-clause-is c =
    let at = c.in_err-check_header.field-0.0 in
    handed_on _ _ _ (Fault (Line at)) c.from_residual-in_err-check_header.ensures.1
    (more_segments c.args.input.now (front_value c.in_ok-front.front) c.in_ok-front.ensures c.into_parts-site.ensures.is c.cells.ensures c.split_at.ensures.back c.in_ok-fleet.field-0 c.in_ok-fleet.ensures.is c.in_ok-fleet.ensures.book c.marks.ensures.marks at c.in_err-check_header.ensures)

pub overflow_add-front : goal.overflow_add-front
overflow_add-front c =
    let lines = (front_within c.args.input.now (front_value c.in_ok-front.front) c.in_ok-front.ensures).1 in
    let journal = c.in_ok-fleet.ensures.within.0 in
    let used = c.in_ok-fleet.ensures.within.1 in
    let rest = c.split_at.ensures.back_len in
    omega (arith, lines, journal, used, rest, c.requires)

pub check_tail-requires : goal.check_tail-requires
check_tail-requires c =
    let lines = (front_within c.args.input.now (front_value c.in_ok-front.front) c.in_ok-front.ensures).1 in
    let journal = c.in_ok-fleet.ensures.within.0 in
    let used = c.in_ok-fleet.ensures.within.1 in
    let rest = c.split_at.ensures.back_len in
    let tail = c.split_at-2.ensures.back_len in
    omega (arith, lines, journal, used, rest, tail, c.requires)

pub returns-in_err-check_tail-clause-is : goal.returns-in_err-check_tail-clause-is
returns-in_err-check_tail-clause-is c =
    let at = c.in_err-check_tail.field-0.0 in
    handed_on _ _ _ (Fault (Line at)) c.from_residual-in_err-check_tail.ensures.1
    (refused_for c.args.input.now (front_value c.in_ok-front.front) c.in_ok-front.ensures c.into_parts-site.ensures.is c.cells.ensures c.split_at.ensures.back c.in_ok-fleet.field-0 c.in_ok-fleet.ensures.is c.in_ok-fleet.ensures.book c.marks.ensures.marks c.in_ok-check_header.ensures c.in_ok-text.ensures c.split_at-2.ensures.back c.deref.ensures.value at c.in_err-check_tail.ensures)

pub returns-clause-is : goal.returns-clause-is
returns-clause-is c =
    taken c.args.input.now (front_value c.in_ok-front.front) c.in_ok-front.ensures c.into_parts-site.ensures.is c.cells.ensures c.split_at.ensures.back c.in_ok-fleet.field-0 c.in_ok-fleet.ensures.is c.in_ok-fleet.ensures.book c.marks.ensures.marks c.in_ok-check_header.ensures c.in_ok-text.ensures c.split_at-2.ensures.back c.deref.ensures.value c.in_ok-check_tail.ensures

pub returns-clause-sound : goal.returns-clause-sound
returns-clause-sound c =
    soundly c.args.input.now (front_value c.in_ok-front.front) c.in_ok-front.ensures c.into_parts-site.ensures.is c.cells.ensures c.split_at.ensures.back c.in_ok-fleet.field-0 c.in_ok-fleet.ensures.is c.in_ok-fleet.ensures.book c.in_ok-text.ensures c.journal-kept.ensures.site c.journal-kept.ensures.opening c.journal-kept.ensures.legal
