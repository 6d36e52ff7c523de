use Rattle.std.proofs.Common.{◌<◌, ◌^◌, ◌/◌, ap, ◌∙◌, arith}
use Rattle.std.specs.FinSet.{insert}
use Rattle.std.proofs.lemmas.List.Elements.{All-get_or}
use Rattle.std.proofs.lemmas.Nat.{or_lt}
use Rattle.bit_set.proofs.Members.{AreWords-set, members_of-insert}
use Rattle.bit_set.proofs.BitSet.insert.Goals as goal

pub returns : goal.returns
returns g c =
    members_of-insert c.self.inside.words c.args.number (omega arith)
    ∙ ap (λ s. insert s c.args.number) c.self.view_is

pub invariant_of-self : goal.invariant_of-self
invariant_of-self g c =
    AreWords-set g.row.WORDS c.self.inside.words (c.args.number / 64) _ c.self.invariant
    (or_lt 64 _ _ (All-get_or (λ w. w < 2 ^ 64) c.self.inside.words (c.args.number / 64) 0 (omega arith) c.self.invariant.fits) (omega arith))
