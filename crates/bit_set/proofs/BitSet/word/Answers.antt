use Rattle.bit_set.proofs.Members.{is_in-word}
use Rattle.bit_set.proofs.BitSet.word.Goals as goal

pub returns : goal.returns
returns g c = λ i below. is_in-word c.self.inside.words c.args.self.now c.args.place i c.self.view_is below
