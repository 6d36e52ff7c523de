-- A coordinator's book with missions.
use Rattle.std.specs.Prelude.{◌≡◌, All, List, length}
use Rattle.mission_model.specs.Stops.{Missions}
use Rattle.scenario.specs.Scenarios.{IsMission}
use Rattle.site_map.specs.declared.goal.Goal.{Goal}
use Rattle.coordinator.specs.Books.{Book}
use Rattle.robot_worker.specs.Legs.{plain_missions}

-- there is a mission for each robot, with few legs, whose goals are in the site
pub record HasMissions (book : Book) (missions : List (List Goal)) : Type 0 where
  pub all : length missions ≡ length book.starts
  pub legs : All (IsMission book.site) missions

-- the missions as plain lists of cells
abbrev pub missions_in : Book → List (List Goal) → Missions
missions_in book missions = plain_missions book.site missions
