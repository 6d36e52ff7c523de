-- What a journal's state counts: its entries, and what is owed within the cap.
use Rattle.std.proofs.Common.{◌≡◌, ◌≤◌, length, arith}
use Rattle.fleet_model.specs.Good.{IsGood}
use Rattle.fleet_model.specs.Journals.{IsJournal}
use Rattle.fleet_model.specs.Plans.{unfinished}
use Rattle.fleet_model.specs.Sites.{IsSite}
use Rattle.fleet_model.proofs.Counts.{journal_counts}
use Rattle.coordinator.specs.Books.{Book, opening_of, state_of}

module _ (book : Book) (is_site : IsSite (opening_of book).fleet.site) (opens : IsGood (opening_of book)) (legal : IsJournal (opening_of book) book.journal) (good : IsGood (state_of book)) where
  pub entries_counted : (state_of book).count ≡ length book.journal
  entries_counted = let counts = (journal_counts (opening_of book) book.journal is_site opens legal).0 in omega (arith, counts)

  pub unfinished_few : length (unfinished (state_of book).fleet) ≤ book.cap
  unfinished_few = let cap = (journal_counts (opening_of book) book.journal is_site opens legal).1 in let room = good.room in let base = good.base in omega (arith, cap, room, base)
