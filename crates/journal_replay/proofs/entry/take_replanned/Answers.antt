use Rattle.std.proofs.Common.{◌-◌, List, length, arith, sym, ap, ◌∙◌}
use Rattle.std.proofs.lemmas.Bool.{both_ways}
use Rattle.std.specs.Option.{option_copied}
use Rattle.std.specs.Prelude.{slice_get}
use Rattle.fleet_model.specs.Lists.{has_cell}
use Rattle.fleet_base.specs.declared.entries.Act.TheVariants.{Replanned}
use Rattle.fleet_base.specs.declared.entries.Entry.{Entry}
use Rattle.fleet_base.specs.declared.numbers.CellNo.{CellNo}
use Rattle.fleet_model.specs.Journals.{last_of}
use Rattle.fleet_model.proofs.GoodStates.{journal_good}
use Rattle.coordinator.specs.Books.{Book, opening_of, state_of}
use Rattle.route_plan.specs.Labels.{has}
use Rattle.journal_replay.proofs.Gives.{entry_of}
use Rattle.journal_replay.proofs.Replans.{given_end, handed_on, named, other, refused_taken, some_last}
use Rattle.journal_replay.proofs.entry.take_replanned.Goals as goal

pub returns-in_default : goal.returns-in_default
returns-in_default c = λ given.
    let old : Book = c.args.fleet.now in
    let kept = c.journal-kept.ensures in
    let is_site = (journal_good (opening_of old) old.journal kept.site kept.opening kept.legal).1 in
    let end = given_end (state_of old) c.args.robot.0 c.args.route.now c.args.first is_site given in
    let past = c.last_of.ensures.none c.in_default.is end.0 (ap last_of c.cells-cells.ensures ∙ end.1) in
    let below = end.2 in
    absurd (omega (arith, past, below))

pub returns-in_err-replan : goal.returns-in_err-replan
returns-in_err-replan c =
    let old : Book = c.args.fleet.now in
    let same = λ (a : CellNo). c.in-Some.ensures.some a ∙ ap (λ cells. has_cell (last_of cells) a) c.cells-cells.ensures in
    handed_on (entry_of c.args.robot.0 (Replanned c.args.route.now c.args.first)) old c.replan.new.self c.from_residual.result _ c.from_residual.ensures.1
    (refused_taken old c.args.robot.0 c.args.route.now c.args.first (has c.in-Some.goal) same c.replan.new.self c.in_err-replan.field-0.0 c.in_err-replan.ensures.answer)

pub returns-in-Some-last : goal.returns-in-Some-last
returns-in-Some-last c =
    let old : Book = c.args.fleet.now in
    let new : Book = c.replan.new.self in
    let same = λ (a : CellNo). c.in-Some.ensures.some a ∙ ap (λ cells. has_cell (last_of cells) a) c.cells-cells.ensures in
    let at = c.in-Some-last.ensures.value ∙ ap (λ (es : List Entry). slice_get es (length es - 1)) c.journal.ensures.entries in
    let act = c.is_replan.ensures.same c.if-is_replan.true ∙ ap (λ cells. Replanned cells c.args.first) c.cells-cells.ensures in
    named old c.args.robot.0 c.args.route.now c.args.first (has c.in-Some.goal) same new c.in_ok-replan.field-0 c.in_ok-replan.ensures.answer c.in_ok-replan.ensures.book c.in-Some-last.entry.now at act

pub returns-in_default-last : goal.returns-in_default-last
returns-in_default-last c =
    let old : Book = c.args.fleet.now in
    let new : Book = c.replan.new.self in
    let same = λ (a : CellNo). c.in-Some.ensures.some a ∙ ap (λ cells. has_cell (last_of cells) a) c.cells-cells.ensures in
    let at = c.in-Some-last.ensures.value ∙ ap (λ (es : List Entry). slice_get es (length es - 1)) c.journal.ensures.entries in
    other old c.args.robot.0 c.args.route.now c.args.first (has c.in-Some.goal) same new c.in_ok-replan.field-0 c.in_ok-replan.ensures.answer c.in_ok-replan.ensures.book c.in-Some-last.entry.now at
    (λ act. both_ways c.is_replan.result c.if-is_replan.false (c.is_replan.ensures.all (act ∙ ap (λ cells. Replanned cells c.args.first) (sym c.cells-cells.ensures))))

pub returns-in_default-last-2 : goal.returns-in_default-last-2
returns-in_default-last-2 c = λ given.
    let old : Book = c.args.fleet.now in
    let new : Book = c.replan.new.self in
    let same = λ (a : CellNo). c.in-Some.ensures.some a ∙ ap (λ cells. has_cell (last_of cells) a) c.cells-cells.ensures in
    let none = sym c.last.ensures.value ∙ ap option_copied c.in_default-last.is in
    some_last old c.args.robot.0 c.args.route.now c.args.first (has c.in-Some.goal) same new c.in_ok-replan.field-0 c.in_ok-replan.ensures.answer c.in_ok-replan.ensures.book (ap (λ (es : List Entry). slice_get es (length es - 1)) (sym c.journal.ensures.entries) ∙ none)
