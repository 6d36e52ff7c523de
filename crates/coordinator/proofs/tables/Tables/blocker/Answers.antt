use Rattle.site_map.specs.Claims.{site_of}
use Rattle.coordinator.proofs.tables.Tables.blocker.Goals as goal

pub returns : goal.returns
returns c = λ site claims shows is.
    c.blockers_are_those_of_sites.ensures c.args.self.now.deferrals (site_of site) c.args.self.now.robots.ends c.args.robot.0 c.args.needs.now claims c.blocker.result shows is c.blocker.ensures
