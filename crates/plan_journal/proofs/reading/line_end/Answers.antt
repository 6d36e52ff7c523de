use Rattle.plan_journal.proofs.EndedLines.{line_told, no_line_told}
use Rattle.plan_journal.proofs.reading.line_end.Goals as goal

pub returns-in-Some-clause-lines : goal.returns-in-Some-clause-lines
returns-in-Some-clause-lines c = line_told c.args.bytes.now c.args.from c.in-Some.line c.in-Some.ensures.is c.if-line.true

pub returns-in_default-clause-lines : goal.returns-in_default-clause-lines
returns-in_default-clause-lines c = no_line_told c.args.bytes.now c.args.from c.in-Some.line c.in-Some.ensures.is c.if-line.false
