use Rattle.plan_journal.proofs.Steps.{cut_off, read_fault, read_said}
use Rattle.plan_journal.proofs.reading.read_entry.Goals as goal

pub returns-in_default-clause-is : goal.returns-in_default-clause-is
returns-in_default-clause-is c = λ entries count. rw c.refused_at.ensures (cut_off c.args.names.now c.args.bytes.now entries c.args.place.now c.in_default.ensures.lines)

pub returns-in-Ok-clause-is : goal.returns-in-Ok-clause-is
returns-in-Ok-clause-is c = λ entries count. read_said c.args.names.now c.args.bytes.now c.args.place.now c.in-Some.stop c.in-Some.ensures.within.0 c.in-Some.ensures.within.1 c.in-Some.ensures.lines entries count c.in-Ok.entry c.in-Ok.ensures

pub returns-in-Err-clause-is : goal.returns-in-Err-clause-is
returns-in-Err-clause-is c = λ entries count. rw c.refused_at-in-Err.ensures (read_fault c.args.names.now c.args.bytes.now c.args.place.now c.in-Some.stop c.in-Some.ensures.within.0 c.in-Some.ensures.within.1 c.in-Some.ensures.lines entries count c.in-Err.refused c.in-Err.ensures)
