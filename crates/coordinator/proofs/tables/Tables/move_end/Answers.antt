use Rattle.coordinator.proofs.tables.Tables.move_end.Goals as goal

pub footprint-old-requires : goal.footprint-old-requires
footprint-old-requires c = (c.requires.told c.end.result c.end.ensures).0
