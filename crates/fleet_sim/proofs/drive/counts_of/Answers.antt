use Rattle.fleet_sim.proofs.drive.counts_of.Goals as goal

pub served-requires-clause-missions : goal.served-requires-clause-missions
served-requires-clause-missions c = c.requires
