use Rattle.std.proofs.Common.{arith}
use Rattle.bit_set.proofs.WordBits.{is_in-without}
use Rattle.bit_set.proofs.word.without.Goals as goal

pub returns : goal.returns
returns c = λ n. is_in-without c.args.set c.args.number (omega arith) c.requires n
