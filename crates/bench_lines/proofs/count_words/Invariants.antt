use Rattle.std.proofs.Common.{◌≡◌, ◌+◌, ◌-◌, ◌≤◌, length, drop}
use Rattle.site_lines.specs.Words.{words_of}
use Rattle.bench_lines.proofs.count_words.Given as goal

abbrev pub invariant-loop-stop : goal.invariant-loop-stop
invariant-loop-stop l = record {
  so_far : l.count + length (words_of (drop l.place l.line)) ≡ length (words_of l.line);
  few : l.count ≤ l.place;
  within : l.place ≤ length l.line;
}

abbrev pub decreases-loop-stop : goal.decreases-loop-stop
decreases-loop-stop l = length l.initial.line - l.place
