use Rattle.std.proofs.Common.{arith}
use Rattle.std.proofs.lemmas.Grind.{common_steps}
use Rattle.site_map.proofs.BuilderLemmas.{link_total_push}
use Rattle.scenario_reader.proofs.ground.add_cells.Goals as goal

pub loop-builder-preserved : goal.loop-builder-preserved
loop-builder-preserved c = grind (arith, common_steps, link_total_push)
