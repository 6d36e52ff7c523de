-- A legal journal has at most as many entries as a run may have.
use Rattle.std.proofs.Common.{◌≤◌, length, arith}
use Rattle.fleet_base.specs.declared.limits.TheConstants.{MAX_COUNT}
use Rattle.fleet_model.specs.Good.{IsGood}
use Rattle.fleet_model.specs.Journals.{IsJournal}
use Rattle.fleet_model.specs.Sites.{IsSite}
use Rattle.fleet_model.proofs.Counts.{journal_counts}
use Rattle.coordinator.specs.Books.{Book, opening_of, state_of}

pub entries_few : (book : Book) → IsSite (opening_of book).fleet.site → IsGood (opening_of book) → IsJournal (opening_of book) book.journal → IsGood (state_of book) → length book.journal ≤ MAX_COUNT
entries_few book is_site opens legal good =
    let counts = journal_counts (opening_of book) book.journal is_site opens legal in
    let count = counts.0 in
    let total = good.total in
    omega (arith, count, total)
