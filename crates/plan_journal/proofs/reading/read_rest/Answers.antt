use Rattle.std.proofs.Common.{sym, ◌∙◌}
use Rattle.plan_journal.proofs.Steps.{between_more}
use Rattle.plan_journal.proofs.reading.read_rest.Goals as goal

pub loop-preserved : goal.loop-preserved
loop-preserved c = record {
  between = between_more c.args.names.now c.args.bytes.now c.args.place c.loop.place c.read_entry.new.place c.in_ok-read_entry.field-0 (sym c.is_some.ensures ∙ c.if-is_some.true) c.in_ok-read_entry.ensures.is c.in_ok-read_entry.ensures.moved.1 c.loop.invariant.between;
  within = c.read_entry.ensures.within;
}
