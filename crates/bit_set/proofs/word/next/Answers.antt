use Rattle.std.proofs.Common.{arith}
use Rattle.bit_set.proofs.WordBits.{is_in-past, rest_none, rest_member, rest_below, rest_least}
use Rattle.bit_set.proofs.word.next.Goals as goal

pub returns-then-from-ge64-clause-none : goal.returns-then-from-ge64-clause-none
returns-then-from-ge64-clause-none c = λ m behind. is_in-past c.args.set m (omega arith) (omega arith)

pub returns-then-rest-eq0-clause-none : goal.returns-then-rest-eq0-clause-none
returns-then-rest-eq0-clause-none c = rest_none c.args.set c.args.from c.if-rest-eq0.true

pub returns-else-rest-eq0-clause-member : goal.returns-else-rest-eq0-clause-member
returns-else-rest-eq0-clause-member c = rest_member c.args.set c.args.from (omega arith) (omega arith)

pub returns-else-rest-eq0-clause-below : goal.returns-else-rest-eq0-clause-below
returns-else-rest-eq0-clause-below c = rest_below c.args.set c.args.from (omega arith) (omega arith)

pub returns-else-rest-eq0-clause-least : goal.returns-else-rest-eq0-clause-least
returns-else-rest-eq0-clause-least c = rest_least c.args.set c.args.from (omega arith) (omega arith)
