use Rattle.fleet_model.proofs.Deferrals.{deferred_true, true_deferred}
use Rattle.fleet_model.proofs.cycle_laws.deferral_is_a_test.Goals as goal

pub returns : goal.returns
returns c = record { exact = λ s r q. (deferred_true s r q, true_deferred s r q) }
