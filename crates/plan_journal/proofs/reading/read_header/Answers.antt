use Rattle.plan_journal.proofs.Steps.{no_header, bad_header, good_header}
use Rattle.plan_journal.proofs.reading.read_header.Goals as goal

pub returns-in_default-clause-is : goal.returns-in_default-clause-is
returns-in_default-clause-is c = λ names. rw c.first_line.ensures (no_header names c.args.bytes.now c.in_default.ensures.lines)

pub returns-in-Err-clause-is : goal.returns-in-Err-clause-is
returns-in-Err-clause-is c = λ names. rw c.first_line-in-Err.ensures (bad_header names c.args.bytes.now c.in-Some.stop _ c.in-Err.code c.in-Some.ensures.lines c.in-Err.ensures)

pub returns-in-Ok-clause-is : goal.returns-in-Ok-clause-is
returns-in-Ok-clause-is c = λ names. good_header names c.args.bytes.now c.in-Some.stop c.in-Some.ensures.lines c.in-Ok.ensures c.in-Some.ensures.within.1
