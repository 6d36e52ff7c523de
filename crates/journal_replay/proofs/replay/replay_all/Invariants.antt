use Rattle.std.proofs.Common.{◌≡◌, take}
use Rattle.coordinator.specs.Books.{opening_of}
use Rattle.fleet_model.specs.Journals.{IsJournal}
use Rattle.journal_replay.proofs.Standing.{book_of}
use Rattle.journal_replay.proofs.replay.replay_all.Given as goal

abbrev pub invariant-loop-entry : goal.invariant-loop-entry
invariant-loop-entry l = record {
  book : l.fleet ≡ book_of l.initial.fleet (take l.entry-index l.entries);
  replayable : IsJournal (opening_of l.initial.fleet) (take l.entry-index l.entries);
}
