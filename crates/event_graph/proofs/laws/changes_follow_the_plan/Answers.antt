use Rattle.event_graph.proofs.Whole.{finish_whole, append_whole, cut_whole}
use Rattle.event_graph.proofs.laws.changes_follow_the_plan.Goals as goal

pub returns : goal.returns
returns c = record {
  finish = λ m e. finish_whole m e;
  append = λ m r route good. append_whole m good r route;
  cut = λ m tail. cut_whole m tail;
}
