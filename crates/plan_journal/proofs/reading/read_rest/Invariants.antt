use Rattle.std.proofs.Common.{◌-◌, length}
use Rattle.plan_journal.specs.Left.{IsWithin}
use Rattle.plan_journal.proofs.Steps.{IsBetween}
use Rattle.plan_journal.proofs.reading.read_rest.Given as goal

abbrev pub invariant-loop : goal.invariant-loop
invariant-loop l = record {
  between : IsBetween l.names l.bytes l.fn.place l.place;
  within : IsWithin l.bytes l.place;
}

abbrev pub decreases-loop : goal.decreases-loop
decreases-loop l = length l.bytes - l.place.used
