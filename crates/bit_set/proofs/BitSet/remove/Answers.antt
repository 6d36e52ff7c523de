use Rattle.std.proofs.Common.{ap, ◌∙◌, arith}
use Rattle.std.specs.FinSet.{remove}
use Rattle.bit_set.proofs.Members.{members_of-remove}
use Rattle.bit_set.proofs.BitSet.remove.Goals as goal

pub returns : goal.returns
returns g c =
    members_of-remove c.self.inside.words c.args.number (omega arith)
    ∙ ap (λ s. remove s c.args.number) c.self.view_is
