use Rattle.site_lines.proofs.LeastCodes.{least_code_fits}
use Rattle.scenario_reader.proofs.Accepted.{refused}
use Rattle.scenario_reader.proofs.laws.refusals_name_the_first_fault.Goals as goal

pub returns-clause-whole : goal.returns-clause-whole
returns-clause-whole c = refused

pub returns-clause-least : goal.returns-clause-least
returns-clause-least c = least_code_fits
