use Rattle.scenario_laws.proofs.Alike.{same_text}
use Rattle.scenario_laws.proofs.laws.same_scenarios_print_alike.Goals as goal

pub returns : goal.returns
returns c = λ s t same. same_text s t same
