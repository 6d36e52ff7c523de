use Rattle.bit_set.proofs.WordBits.{is_in-with}
use Rattle.bit_set.proofs.word.with.Goals as goal

pub returns : goal.returns
returns c = λ n. is_in-with c.args.set c.args.number c.requires n
