use Rattle.event_graph.proofs.Whole.{ready_whole, next_whole, waits_whole, ready_next, awaited_whole, removable_whole}
use Rattle.event_graph.proofs.laws.unfinished_tell_the_plan.Goals as goal

pub returns : goal.returns
returns c = record {
  ready = λ m e. ready_whole m e;
  next = λ m r. next_whole m r;
  waits = λ m e. waits_whole m e;
  reportable = λ m e good. ready_next m good e;
  awaited = λ m f good i. awaited_whole m good f i;
  removable = λ m tail good planned. removable_whole m good tail planned;
}
