use Rattle.call_laws.proofs.Orders.{all_accepted_so}
use Rattle.coordinator.specs.Books.{IsLegalBook, state_of}
use Rattle.book_laws.proofs.Calls.{report_first}
use Rattle.book_laws.proofs.LegalBooks.{state_good}
use Rattle.book_laws.proofs.laws.allowed_orders_are_accepted.Goals as goal

pub returns : goal.returns
returns c =
    let legal : IsLegalBook c.args.fleet.now = record { site = c.journal-journal.ensures.site; opening = c.journal-journal.ensures.opening; legal = c.journal-journal.ensures.legal } in
    let now = state_good c.args.fleet.now legal in
    record {
      whole = λ order allowed. all_accepted_so (state_of c.args.fleet.now) order now.0.plan allowed;
      first = λ e rest told after allowed call. report_first c.args.fleet.now legal e rest told after allowed call;
    }
