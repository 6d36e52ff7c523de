use Rattle.std.proofs.Common.{◌≡◌, Some, List, Ok, ap, subst, sym, ◌∙◌}
use Rattle.std.specs.Option.{option_to_list}
use Rattle.fleet_base.specs.declared.answers.Proposed.{Proposed}
use Rattle.fleet_base.specs.declared.answers.Proposed.TheVariants as proposed
use Rattle.fleet_base.specs.declared.answers.ProposeRefused.TheVariants as propose_refused
use Rattle.fleet_base.specs.declared.entries.Act.TheVariants.{Deferred}
use Rattle.fleet_base.specs.declared.numbers.CellNo.{CellNo}
use Rattle.fleet_base.specs.declared.numbers.RobotNo.{RobotNo}
use Rattle.coordinator.specs.Books.{IsAnswer, state_of, with_entries}
use Rattle.fleet_model.specs.Calls.{propose}
use Rattle.journal_replay.proofs.Gives.{answer_is, entry_of, taken}
use Rattle.journal_replay.proofs.Proposals.{proposal_gives, refused_taken}
use Rattle.journal_replay.proofs.Replans.{handed_on}
use Rattle.journal_replay.proofs.entry.take_deferred.Goals as goal

pub returns-in-Deferred : goal.returns-in-Deferred
returns-in-Deferred c =
    let old = c.args.fleet.now in
    let new = c.propose.new.self in
    let s = state_of old in
    let r = c.args.robot.0 in
    let cells : List CellNo = c.cells.result.now in
    let route : List CellNo = c.args.route.now in
    let block = c.in-Deferred.block in
    let cycle : List RobotNo = c.args.cycle.now in
    let same_route : cells ≡ route = c.cells.ensures in
    let same_cycle : block.cycle ≡ cycle = c.same_robots.ensures.same c.if-same_robots.true in
    let answer : IsAnswer propose_refused.NoMemory (Ok (proposed.Deferred block)) (propose s r cells).answer =
    subst (λ (a : Proposed). IsAnswer propose_refused.NoMemory (Ok a) (propose s r cells).answer) c.in-Deferred.is c.in_ok-block.ensures.answer in
    let given : (propose s r cells).entry ≡ Some (entry_of r (Deferred cells block.cycle)) = proposal_gives s r cells (proposed.Deferred block) (answer_is propose_refused.NoMemory (proposed.Deferred block) (propose s r cells).answer answer) in
    let told : (propose s r route).entry ≡ Some (entry_of r (Deferred route cycle)) =
    subst (λ (cs : List CellNo). (propose s r cs).entry ≡ Some (entry_of r (Deferred cs cycle))) same_route (given ∙ ap (λ (k : List RobotNo). Some (entry_of r (Deferred cells k))) same_cycle) in
    taken old new (entry_of r (Deferred route cycle)) told (subst (λ (cs : List CellNo). new ≡ with_entries old (option_to_list (propose s r cs).entry)) same_route c.in_ok-block.ensures.book)

pub returns-in_err-block : goal.returns-in_err-block
returns-in_err-block c =
    let old = c.args.fleet.now in
    let new = c.propose.new.self in
    let entry = entry_of c.args.robot.0 (Deferred c.args.route.now c.args.cycle.now) in
    let told = ap (λ (cs : List CellNo). (propose (state_of old) c.args.robot.0 cs).entry) (sym c.cells.ensures) in
    handed_on entry old new c.from_residual.result _ c.from_residual.ensures.1
    (refused_taken old new c.args.robot.0 c.cells.result.now entry told c.in_err-block.field-0.0 c.in_err-block.ensures.answer)
