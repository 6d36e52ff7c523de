use Rattle.mission_model.proofs.Serving.{serve_on_twice, served_at_end, stops_still, others_leave, served_by_own}
use Rattle.std.proofs.Common.{[]}
use Rattle.mission_model.proofs.laws.serving_on_keeps_count.Goals as goal

pub returns : goal.returns
returns c = record {
  twice = serve_on_twice;
  at_end = served_at_end;
  stops = λ opening journal entries r others. stops_still opening journal entries r others;
  others = λ legs opening journal entries r site good legal others. (others_leave legs opening journal entries r site good legal others).1;
  end = λ opening journal entries r site good legal others. (others_leave [] opening journal entries r site good legal others).0;
  own = served_by_own;
}
