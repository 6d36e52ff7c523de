use Rattle.std.proofs.Common.{subst}
use Rattle.fleet_model.specs.Plans.{merged}
use Rattle.event_graph.specs.Graphs.{AreApart}
use Rattle.event_graph.proofs.Whole.{append_whole, steps_known, tail_whole, tail_enough, tail_unawaited}
use Rattle.event_graph.proofs.Uses.{unfinished_apart}
use Rattle.event_graph.proofs.laws.good_plans_meet_the_conditions.Goals as goal

pub returns : goal.returns
returns c = record {
  apart = λ m is_site good. unfinished_apart m is_site good;
  merged = λ m r route is_site good after. subst (λ es. AreApart m.site.groups es) (append_whole m good r route) (unfinished_apart (merged m r route) is_site after);
  known = λ site route named k i. steps_known site named route k i;
  tail = λ m r tail h. tail_whole m r tail h;
  enough = λ m r tail h. tail_enough m r tail h;
  unawaited = λ m r tail h. tail_unawaited m r tail h;
}
