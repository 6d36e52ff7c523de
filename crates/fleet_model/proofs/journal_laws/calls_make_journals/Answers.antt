use Rattle.fleet_model.proofs.Turns.{calls_journal}
use Rattle.fleet_model.proofs.journal_laws.calls_make_journals.Goals as goal

pub returns : goal.returns
returns c = record {
  legal = λ s calls is_site good. (calls_journal s calls is_site good).0;
  reaches = λ s calls is_site good. (calls_journal s calls is_site good).1;
}
