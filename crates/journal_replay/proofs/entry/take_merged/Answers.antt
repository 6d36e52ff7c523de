use Rattle.std.proofs.Common.{List, ap, sym}
use Rattle.fleet_base.specs.declared.entries.Act.TheVariants.{Merged}
use Rattle.fleet_base.specs.declared.numbers.CellNo.{CellNo}
use Rattle.coordinator.specs.Books.{state_of}
use Rattle.fleet_model.specs.Calls.{propose}
use Rattle.journal_replay.proofs.Gives.{entry_of}
use Rattle.journal_replay.proofs.Proposals.{refused_taken}
use Rattle.journal_replay.proofs.Replans.{handed_on}
use Rattle.journal_replay.proofs.entry.take_merged.Goals as goal

pub returns-in_err-span : goal.returns-in_err-span
returns-in_err-span c =
    let old = c.args.fleet.now in
    let new = c.propose.new.self in
    let entry = entry_of c.args.robot.0 (Merged c.args.route.now c.args.first) in
    let told = ap (λ (cs : List CellNo). (propose (state_of old) c.args.robot.0 cs).entry) (sym c.cells.ensures) in
    handed_on entry old new c.from_residual.result _ c.from_residual.ensures.1
    (refused_taken old new c.args.robot.0 c.cells.result.now entry told c.in_err-span.field-0.0 c.in_err-span.ensures.answer)
