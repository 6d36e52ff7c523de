use Rattle.scenario_laws.proofs.Whole.{read_again, reads_back, same_again}
use Rattle.scenario_laws.proofs.laws.printed_scenarios_read_back.Goals as goal

pub returns : goal.returns
returns c = λ s is declared valid. (read_again s, reads_back s is declared valid, same_again s is declared)
