use Rattle.std.proofs.Common.{[]}
use Rattle.scenario_gen.proofs.Crossed.{built_is}
use Rattle.scenario_gen.proofs.sites.build_site.Goals as goal

pub returns-clause-site : goal.returns-clause-site
returns-clause-site c =
    built_is c.add_cells.new.builder c.add_crossings.new.builder c.add_areas.new.builder c.add_links.new.builder c.finish.result c.args.grid.width c.args.grid.height c.args.draws.now.number
    c.in_ok-add_cells.ensures c.in_ok-add_crossings.ensures c.in_ok-add_areas.ensures c.in_ok-add_links.ensures.built c.finish.ensures
