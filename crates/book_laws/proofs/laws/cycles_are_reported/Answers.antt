use Rattle.call_laws.proofs.Reports.{reported_came, reported_free}
use Rattle.coordinator.specs.Books.{IsLegalBook, opening_of}
use Rattle.book_laws.proofs.Calls.{book_cycles}
use Rattle.book_laws.proofs.laws.cycles_are_reported.Goals as goal

pub returns : goal.returns
returns c =
    let legal : IsLegalBook c.args.fleet.now = record { site = c.journal-journal.ensures.site; opening = c.journal-journal.ensures.opening; legal = c.journal-journal.ensures.legal } in
    let sound = book_cycles c.args.fleet.now legal in
    record {
      came = λ members robot cycle member came. reported_came (opening_of c.args.fleet.now) c.args.fleet.now.journal members robot sound cycle member came;
      free = λ members robot cycle member free. reported_free (opening_of c.args.fleet.now) c.args.fleet.now.journal members robot sound cycle member free;
    }
