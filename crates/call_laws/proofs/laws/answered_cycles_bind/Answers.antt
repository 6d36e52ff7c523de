use Rattle.call_laws.proofs.Bindings.{cycle_of_binds, proposal_binds, retry_binds, look_binds}
use Rattle.call_laws.proofs.laws.answered_cycles_bind.Goals as goal

pub returns : goal.returns
returns c = record {
  proposed = λ s r cells block site good is some. proposal_binds s r cells block site good is some;
  retried = λ s r block site good is some. retry_binds s r block site good is some;
  seen = λ s r view block site good is blocked some. look_binds s r view block site good is blocked some;
  told = λ s r site good some. cycle_of_binds s r site good some;
}
