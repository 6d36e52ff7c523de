use Rattle.fleet_model.proofs.Reports.{ready_lasts}
use Rattle.fleet_model.proofs.journal_laws.ready_lasts.Goals as goal

pub returns : goal.returns
returns c = record { ready = λ s entry e is_site good told other own ready. ready_lasts s entry e is_site good told other own ready }
