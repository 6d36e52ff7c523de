use Rattle.std.proofs.Common.{sym, ◌∙◌, refl, arith}
use Rattle.std.proofs.lemmas.Bool.{false≢true}
use Rattle.bit_set.proofs.Members.{members_of-blank, members_of-used}
use Rattle.bit_set.proofs.BitSet.is_empty.Goals as goal

pub returns-then-word-ne0 : goal.returns-then-word-ne0
returns-then-word-ne0 g c =
    (λ is. absurd (false≢true is), λ none. absurd (members_of-used c.self.inside.words c.loop-word.word-index c.if-word-ne0.true (omega arith) (c.self.view_is ∙ none)))

pub returns : goal.returns
returns g c =
    (λ _. sym c.self.view_is ∙ members_of-blank c.self.inside.words (λ k within. c.loop-word.invariant k (omega arith)), λ _. refl)
