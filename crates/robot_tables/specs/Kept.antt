-- How the tables are kept.
use Rattle.std.specs.Prelude.{◌≡◌, ◌≤◌, length}
use Rattle.robot_tables.specs.declared.tables.RobotTables.TheInside.{Inside}
use Rattle.robot_tables.specs.Robots.{Robots}

-- the tables that are kept
abbrev pub shown : Inside → Robots
shown t = record { ends = t.ends.items; places = t.places.items; holdings = t.holdings.items }

-- each table has a place for each robot
pub record IsKept (t : Inside) : Type 0 where
  pub places : length t.places.items ≡ length t.ends.items
  pub holdings : length t.holdings.items ≡ length t.ends.items
  pub few : length t.ends.items ≤ 64
