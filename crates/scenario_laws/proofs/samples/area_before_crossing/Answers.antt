use Rattle.std.proofs.Common.{refl}
use Rattle.std.specs.Fmt.{digits}
use Rattle.fleet_model.specs.Sites.{footprint_of, in_conflict, links_from}
use Rattle.scenario.specs.Canonical.{canonical_text}
use Rattle.scenario_reader.specs.Reading.{scenario_of}
use Rattle.scenario_laws.proofs.samples.area_before_crossing.Goals as goal

pub returns-clause-printed : goal.returns-clause-printed
unfolding scenario_of canonical_text footprint_of in_conflict links_from digits
returns-clause-printed c = refl

pub returns-clause-again : goal.returns-clause-again
unfolding scenario_of canonical_text footprint_of in_conflict links_from digits
returns-clause-again c = refl
