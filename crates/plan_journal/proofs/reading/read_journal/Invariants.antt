use Rattle.std.proofs.Common.{◌≡◌, ◌+◌, ◌-◌, length}
use Rattle.plan_journal.specs.Left.{IsWithin, left}
use Rattle.plan_journal.specs.Reading.{journal_of}
use Rattle.plan_journal.proofs.reading.read_journal.Given as goal

abbrev pub invariant-loop-entries : goal.invariant-loop-entries
invariant-loop-entries l = record {
  rest : left l.names l.bytes l.entries.items l.place ≡ journal_of l.names l.bytes;
  count : l.place.lines ≡ length l.entries.items + 1;
  within : IsWithin l.bytes l.place;
}

abbrev pub decreases-loop-entries : goal.decreases-loop-entries
decreases-loop-entries l = length l.bytes - l.place.used
