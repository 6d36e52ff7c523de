use Rattle.coordinator.specs.Books.{IsLegalBook}
use Rattle.book_laws.proofs.Calls.{propose_least, replan_least, retry_least}
use Rattle.book_laws.proofs.laws.merges_are_least.Goals as goal

pub returns : goal.returns
returns c =
    let legal : IsLegalBook c.args.fleet.now = record { site = c.journal-journal.ensures.site; opening = c.journal-journal.ensures.opening; legal = c.journal-journal.ensures.legal } in
    record {
      proposed = λ robot cells span after order call safely. propose_least c.args.fleet.now legal robot cells span after order call safely;
      retried = λ robot span after order call safely. retry_least c.args.fleet.now legal robot span after order call safely;
      replanned = λ robot goal route span after order call found safely. replan_least c.args.fleet.now legal robot goal route span after order call found safely;
    }
