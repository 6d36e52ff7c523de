use Rattle.std.proofs.Common.{refl}
use Rattle.std.specs.Fmt.{digits}
use Rattle.fleet_model.specs.Sites.{footprint_of, in_conflict, links_from}
use Rattle.scenario.specs.Canonical.{canonical_text}
use Rattle.scenario_reader.specs.Reading.{scenario_of}
use Rattle.scenario_reader.proofs.samples.two_yards.Goals as goal

pub returns : goal.returns
unfolding scenario_of canonical_text footprint_of in_conflict links_from digits
returns c = refl
