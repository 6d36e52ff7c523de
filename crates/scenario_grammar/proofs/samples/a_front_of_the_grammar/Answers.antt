use Rattle.std.proofs.Common.{refl}
use Rattle.fleet_model.specs.Sites.{footprint_of, in_conflict, links_from}
use Rattle.scenario_reader.specs.Reading.{front_of}
use Rattle.scenario_grammar.proofs.Fronts.{sound}
use Rattle.scenario_grammar.proofs.samples.a_front_of_the_grammar.Goals as goal

pub returns : goal.returns
unfolding front_of footprint_of in_conflict links_from
returns c = sound _ _ refl
