use Rattle.fleet_model.proofs.Bindings.{cycle_binds, cycle_stood}
use Rattle.fleet_model.proofs.journal_laws.cycles_bind.Goals as goal

pub returns : goal.returns
returns c = record {
  lasts = λ s members journal is_site good cycle h true_to. (cycle_binds s members journal is_site good cycle h true_to).0;
  reports = λ s members journal is_site good cycle h true_to. (cycle_binds s members journal is_site good cycle h true_to).1;
  stood = λ s members journal is_site good h cycle none. cycle_stood s members journal is_site good h cycle none;
}
