use Rattle.bit_set.proofs.Members.{members_of-replicate}
use Rattle.bit_set.proofs.BitSet.new.Goals as goal

pub returns : goal.returns
returns g c = members_of-replicate g.row.WORDS
