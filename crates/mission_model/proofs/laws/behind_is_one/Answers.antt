use Rattle.std.proofs.Common.{[]}
use Rattle.mission_model.specs.Outcomes.{blocker_of}
use Rattle.mission_model.proofs.Blocked.{behind_found, behind_one}
use Rattle.mission_model.proofs.laws.behind_is_one.Goals as goal

pub returns : goal.returns
returns c = record {
  found = behind_found;
  one = λ s r xs ys h g. behind_one s [] (blocker_of s r) xs ys h g;
}
