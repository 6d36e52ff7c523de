use Rattle.call_laws.proofs.Bindings.{look_binds_here, robots_bind}
use Rattle.coordinator.specs.Books.{IsLegalBook, state_of}
use Rattle.book_laws.proofs.Calls.{propose_binds, retry_binds_still}
use Rattle.book_laws.proofs.LegalBooks.{state_good}
use Rattle.book_laws.proofs.laws.cycles_bind.Goals as goal

pub returns : goal.returns
returns c =
    let legal : IsLegalBook c.args.fleet.now = record { site = c.journal-journal.ensures.site; opening = c.journal-journal.ensures.opening; legal = c.journal-journal.ensures.legal } in
    let s = state_of c.args.fleet.now in
    let now = state_good c.args.fleet.now legal in
    record {
      proposed = λ robot cells block after call some. propose_binds c.args.fleet.now legal robot cells block after call some;
      retried = λ robot block after call some. retry_binds_still c.args.fleet.now legal robot block after call some;
      seen = λ robot view block is shows some. look_binds_here s robot view block now.1 now.0 is shows some;
      told = λ robot cycle is some. robots_bind s robot cycle now.1 now.0 is some;
    }
