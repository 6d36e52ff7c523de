use Rattle.std.proofs.Common.{◌≡◌, ◌+◌, ◌-◌, ◌≤◌, length, drop, sum_by}
use Rattle.site_lines.specs.Lines.{lines_of}
use Rattle.site_lines.specs.Words.{words_of}
use Rattle.bench_lines.proofs.counts_of.Given as goal

abbrev pub invariant-loop-line : goal.invariant-loop-line
invariant-loop-line l = record {
  lines : l.lines + length (lines_of (drop l.place l.text)) ≡ length (lines_of l.text);
  words : l.words + sum_by (λ line. length (words_of line)) (lines_of (drop l.place l.text)) ≡ sum_by (λ line. length (words_of line)) (lines_of l.text);
  few_lines : l.lines ≤ l.place;
  few_words : l.words ≤ l.place;
  within : l.place ≤ length l.text;
}

abbrev pub decreases-loop-line : goal.decreases-loop-line
decreases-loop-line l = length l.initial.text - l.place
