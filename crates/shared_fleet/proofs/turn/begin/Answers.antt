use Rattle.shared_fleet.proofs.Through.{known_robot}
use Rattle.shared_fleet.proofs.turn.begin.Goals as goal

pub returns-clause-found : goal.returns-clause-found
returns-clause-found g c =
    let t = c.take-fleet.ensures in
    let j = c.journal-journal.ensures in
    let fits = c.requires.rests.fits c.args.lock.now.opening c.requires.own.opening_is in
    record {
      same = t.fixed;
      legal = j.legal;
      opens = t.begins;
      begins = t.known.seen;
      mine = t.known.own;
      known = known_robot c.args.lock.now.opening.fleet c.take-fleet.result.fleet c.args.seat.now.number t.fixed j.same_starts fits.robot;
    }
