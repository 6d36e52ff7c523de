use Rattle.std.proofs.Common.{refl}
use Rattle.scenario_laws.proofs.Followed.{front_again, reads_front}
use Rattle.scenario_laws.proofs.Whole.{same_again}
use Rattle.scenario_laws.proofs.laws.printed_scenarios_read_back_in_front.Goals as goal

pub returns : goal.returns
returns c = λ s tail is declared valid. (front_again s, reads_front s is declared valid tail, same_again s is declared, refl, refl)
