use Rattle.scenario_reader.proofs.Accepted.{accepted}
use Rattle.scenario_reader.proofs.Steps.{step_reached}
use Rattle.scenario_reader.proofs.laws.accepted_texts_declare_scenarios.Goals as goal

pub returns-clause-line : goal.returns-clause-line
returns-clause-line c = step_reached

pub returns-clause-whole : goal.returns-clause-whole
returns-clause-whole c = accepted
