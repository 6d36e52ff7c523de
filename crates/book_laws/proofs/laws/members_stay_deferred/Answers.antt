use Rattle.coordinator.specs.Books.{IsLegalBook}
use Rattle.book_laws.proofs.Calls.{later_binds}
use Rattle.book_laws.proofs.laws.members_stay_deferred.Goals as goal

pub returns : goal.returns
returns c =
    let legal : IsLegalBook c.args.fleet.now = record { site = c.journal-journal.ensures.site; opening = c.journal-journal.ensures.opening; legal = c.journal-journal.ensures.legal } in
    λ members earlier entries is cycle true_to. later_binds c.args.fleet.now earlier entries members legal is cycle true_to
