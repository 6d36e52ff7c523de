use Rattle.std.proofs.Common.{◌≡◌, ℕ, ◌<◌, get_or, false}
use Rattle.site_lines.specs.Words.{is_word_byte}
use Rattle.site_lines.proofs.word.until_word.Given as goal

abbrev pub invariant-loop-place : goal.invariant-loop-place
invariant-loop-place l = (k : ℕ) → k < l.place → is_word_byte (get_or l.bytes k 0) ≡ false
