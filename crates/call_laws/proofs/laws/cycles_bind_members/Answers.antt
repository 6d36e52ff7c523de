use Rattle.call_laws.proofs.Bindings.{calls_bind, journal_binds}
use Rattle.call_laws.proofs.laws.cycles_bind_members.Goals as goal

pub returns : goal.returns
returns c = record {
  journals = λ s members journal site good cycle legal true_to. journal_binds s members journal site good cycle legal true_to;
  calls = λ s members site good cycle. calls_bind s members site good cycle;
}
