use Rattle.std.proofs.Common.{◌≡◌, drop, map}
use Rattle.plan_journal.specs.Entries.{has_empty}
use Rattle.plan_journal.proofs.words.has_empty.Given as goal

abbrev pub invariant-loop-word : goal.invariant-loop-word
invariant-loop-word l = has_empty (map (λ w. w.now) (drop l.word-index l.words)) ≡ has_empty (map (λ w. w.now) l.words)
