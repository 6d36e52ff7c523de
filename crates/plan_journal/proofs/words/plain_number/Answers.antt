use Rattle.std.proofs.Common.{refl}
use Rattle.plan_journal.proofs.Numbers.{refused_number, not_plain}
use Rattle.plan_journal.proofs.words.plain_number.Goals as goal

pub returns-in-Err-clause-is : goal.returns-in-Err-clause-is
returns-in-Err-clause-is c = rw (not_plain c.args.word.now (refused_number c.args.word.now c.in-Err.field-0 c.in-Err.ensures.is)) refl
