use Rattle.std.proofs.Common.{subst}
use Rattle.fleet_model.specs.Good.{IsGood}
use Rattle.fleet_model.proofs.GoodStates.{opening_good}
use Rattle.site_map.specs.Claims.{site_of}
use Rattle.coordinator.specs.Books.{Book, opening_of}
use Rattle.coordinator.proofs.coordinator.Coordinator.journal.Goals as goal

pub returns-clause-opening : goal.returns-clause-opening
returns-clause-opening c =
    let i = c.self.inside in
    subst (λ (b : Book). IsGood (opening_of b)) c.self.view_is (opening_good (site_of i.site) i.from.at.items i.from.pending.items i.from.next.0 i.cap c.self.invariant.opening)
