use Rattle.std.proofs.Common.{◌≡◌, map, take}
use Rattle.fleet_model.specs.Sites.{footprint_of}
use Rattle.site_map.specs.Claims.{site_of}
use Rattle.robot_tables.proofs.tables.RobotTables.new.Given as goal

abbrev pub invariant-loop-start : goal.invariant-loop-start
invariant-loop-start l = l.holdings.items ≡ map (footprint_of (site_of l.site)) (take l.start-index l.starts)
