use Rattle.site_map.specs.Claims.{site_of}
use Rattle.fleet_outcomes.proofs.Ways.{way_is}
use Rattle.fleet_outcomes.proofs.course.way_of.Goals as goal

pub returns : goal.returns
returns c = way_is (site_of c.args.site.now) c.args.cells.now c.in-Ok.events _ c.requires c.in-Ok.ensures.answer
