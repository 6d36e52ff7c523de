use Rattle.std.proofs.Common.{◌≡◌, arith, length, ap, subst}
use Rattle.coordinator.specs.Books.{Book, state_of}
use Rattle.coordinator.proofs.coordinator.Coordinator.robots.Goals as goal

pub returns-clause-state : goal.returns-clause-state
returns-clause-state c = subst (λ (b : Book). c.len.result ≡ length (state_of b).fleet.starts) c.self.view_is (omega (arith, ap length c.self.invariant.state.starts))
