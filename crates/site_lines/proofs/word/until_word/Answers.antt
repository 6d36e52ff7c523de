use Rattle.std.proofs.Common.{length, sym, ◌∙◌, arith}
use Rattle.std.proofs.lemmas.List.Sums.{position_or_len_is}
use Rattle.site_lines.specs.Words.{is_word_byte}
use Rattle.site_lines.proofs.word.until_word.Goals as goal

pub returns-then-is_word_byte-clause-is : goal.returns-then-is_word_byte-clause-is
returns-then-is_word_byte-clause-is c = sym (position_or_len_is is_word_byte c.args.bytes.now c.loop-place.place 0 (omega arith) (λ k h. c.loop-place.invariant k h) (λ h. sym c.is_word_byte.ensures ∙ c.if-is_word_byte.true))

pub returns-clause-is : goal.returns-clause-is
returns-clause-is c = sym (position_or_len_is is_word_byte c.args.bytes.now (length c.args.bytes.now) 0 (omega arith) (λ k h. c.loop-place.invariant k (omega arith)) (λ h. absurd (omega arith)))
