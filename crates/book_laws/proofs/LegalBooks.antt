-- The states of legal books.
use Rattle.std.proofs.Common.{◌≡◌, List, ◌++◌, refl, sym, ap, subst, ◌∙◌}
use Rattle.fleet_base.specs.declared.entries.Entry.{Entry}
use Rattle.fleet_model.specs.Good.{IsGood}
use Rattle.fleet_model.specs.Journals.{IsJournal, state_after}
use Rattle.fleet_model.specs.Sites.{IsSite}
use Rattle.fleet_model.proofs.GoodStates.{journal_good}
use Rattle.fleet_model.proofs.Soundness.{journal_parts, state_after-append}
use Rattle.site_map.specs.Claims.{site_of}
use Rattle.coordinator.specs.Books.{Book, IsLegalBook, opening_of, state_of, with_entries}

-- the state of a legal book is good, over a site that the rules speak of
pub state_good : (book : Book) → IsLegalBook book → IsGood (state_of book) × IsSite (state_of book).fleet.site
state_good book legal = journal_good (opening_of book) book.journal legal.site legal.opening legal.legal

-- where a book is legal, so is each with the first part of its journal, and the entries behind it are legal from its state
pub earlier_legal : (earlier : Book) (entries : List Entry) → IsLegalBook (with_entries earlier entries) → IsLegalBook earlier × IsJournal (state_of earlier) entries
earlier_legal earlier entries legal =
    let parts = journal_parts (opening_of earlier) earlier.journal entries legal.legal in
    (record { site = legal.site; opening = legal.opening; legal = parts.0 }, parts.1)

-- the entries behind a book lead from its state on
pub behind : (book : Book) (entries : List Entry) → state_of (with_entries book entries) ≡ state_after (state_of book) entries
behind book entries = state_after-append (opening_of book) book.journal entries
