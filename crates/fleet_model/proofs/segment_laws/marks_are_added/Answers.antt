use Rattle.fleet_model.proofs.Marks.{marks_more}
use Rattle.fleet_model.proofs.Segments.{past_opens}
use Rattle.fleet_model.proofs.segment_laws.marks_are_added.Goals as goal

pub returns : goal.returns
returns c = record {
  more = λ s journal entry. marks_more s journal entry;
  opens = λ s growth good free. past_opens s growth good.base free;
}
