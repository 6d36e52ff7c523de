use Rattle.task_assign.proofs.Zeros.{zero_at}
use Rattle.task_assign.proofs.numbers.Numbers.new.Goals as goal

pub returns-clause-raised : goal.returns-clause-raised
returns-clause-raised c = λ k. zero_at 64 k

pub returns-clause-lowered : goal.returns-clause-lowered
returns-clause-lowered c = λ k. zero_at 64 k
