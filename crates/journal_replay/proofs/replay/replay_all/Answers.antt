use Rattle.std.proofs.Common.{◌≡◌, ◌<◌, List, [], ◌∷◌, length, get_or, ap, sym, ◌∙◌, subst, arith, rules}
use Rattle.std.proofs.lemmas.List.{take_all}
use Rattle.coordinator.specs.Books.{Book, opening_of, with_entries}
use Rattle.fleet_base.specs.declared.entries.Entry.{Entry}
use Rattle.fleet_model.specs.Journals.{IsJournal}
use Rattle.journal_replay.proofs.Standing.{book_of, kept_on, more, refused_here, stands_more}
use Rattle.journal_replay.proofs.replay.replay_all.Goals as goal

pub returns-clause-legal : goal.returns-clause-legal
returns-clause-legal c = subst (IsJournal (opening_of c.args.fleet)) (take_all c.loop-entry.entry-index c.args.entries.now c.loop-entry-test.false) c.loop-entry.invariant.replayable

pub loop-entry-preserved : goal.loop-entry-preserved
loop-entry-preserved c =
    let entries : List Entry = c.args.entries.now in
    let i = c.loop-entry.entry-index in
    let entry : Entry = c.entry-item.result in
    let here : get_or entries i entry ≡ entry = search rules in
    let within : i < length entries = omega (arith, c.loop-entry-test.true) in
    let book : Book = c.loop-entry.fleet in
    let taken = c.in_ok-fleet.ensures in
    record {
      book =
          taken.1
          ∙ ap (λ (b : Book). with_entries b (entry ∷ [])) c.loop-entry.invariant.book
          ∙ ap (book_of c.args.fleet) (sym (more c.args.fleet entries i entry within here));
      replayable = stands_more c.args.fleet entries i entry within here book c.loop-entry.invariant.book c.loop-entry.invariant.replayable taken.0;
    }

pub returns-in_err-fleet-clause-differs : goal.returns-in_err-fleet-clause-differs
returns-in_err-fleet-clause-differs c =
    let entries : List Entry = c.args.entries.now in
    let i = c.loop-entry.entry-index in
    let entry : Entry = c.entry-item.result in
    let here : get_or entries i entry ≡ entry = search rules in
    let within : i < length entries = omega (arith, c.loop-entry-test.true) in
    let cause = c.in_err-fleet.field-0.0 in
    kept_on _ _ cause c.from_residual.ensures.1
    (refused_here c.args.fleet entries i entry within here c.loop-entry.fleet cause c.loop-entry.invariant.book c.loop-entry.invariant.replayable c.in_err-fleet.ensures)
