use Rattle.std.proofs.Common.{ap, ◌∙◌, arith}
use Rattle.site_map.specs.Built.{link_total}
use Rattle.scenario_reader.proofs.Links.{link_total-link}
use Rattle.scenario_reader.proofs.ground.add_link.Goals as goal

pub returns-clause-one : goal.returns-clause-one
returns-clause-one c = ap (λ s. link_total s.links) c.in_ok-link.ensures.built ∙ link_total-link c.args.builder.now.links c.args.from.0 _ (omega arith)
