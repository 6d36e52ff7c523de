use Rattle.call_laws.proofs.LegalRoutes.{deferred_exactly, merged_exactly, refused_full}
use Rattle.coordinator.specs.Books.{IsLegalBook, state_of}
use Rattle.book_laws.proofs.Calls.{call_deferred, call_merged, call_refused}
use Rattle.book_laws.proofs.LegalBooks.{state_good}
use Rattle.book_laws.proofs.laws.deferral_is_exact.Goals as goal

pub returns : goal.returns
returns c =
    let legal : IsLegalBook c.args.fleet.now = record { site = c.journal-journal.ensures.site; opening = c.journal-journal.ensures.opening; legal = c.journal-journal.ensures.legal } in
    let s = state_of c.args.fleet.now in
    let now = state_good c.args.fleet.now legal in
    record {
      merged = λ robot cells may room. merged_exactly s robot cells now.1 may now.0 room;
      deferred = λ robot cells may room. deferred_exactly s robot cells now.1 may now.0 room;
      refused = λ robot cells refused may is. refused_full s robot cells now.1 may refused is;
      call_merged = λ robot cells told after may call room memory. call_merged c.args.fleet.now legal robot cells told after may call room memory;
      call_deferred = λ robot cells told after may call room memory. call_deferred c.args.fleet.now legal robot cells told after may call room memory;
      call_refused = λ robot cells refused after may call. call_refused c.args.fleet.now legal robot cells refused after may call;
    }
