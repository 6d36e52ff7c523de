use Rattle.std.proofs.Common.{◌≡◌, drop}
use Rattle.std.specs.List.{list_any}
use Rattle.site_lines.specs.Words.{is_bad_byte, text_behind, has_bad_byte}
use Rattle.site_lines.proofs.word.has_bad_byte.Given as goal

abbrev pub invariant-loop-byte : goal.invariant-loop-byte
invariant-loop-byte l = list_any is_bad_byte (text_behind l.within (drop l.byte-index l.line)) ≡ has_bad_byte l.line
