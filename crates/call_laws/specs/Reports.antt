-- Deferrals that a journal has.
use Rattle.std.specs.Prelude.{◌≡◌, ℕ, List, ◌∷◌, ◌++◌}
use Rattle.fleet_base.specs.declared.entries.Act.TheVariants.{Deferred}
use Rattle.fleet_base.specs.declared.entries.Entry.{Entry}
use Rattle.fleet_base.specs.declared.numbers.CellNo.{CellNo}
use Rattle.fleet_base.specs.declared.numbers.RobotNo.{RobotNo}
use Rattle.fleet_model.specs.Lists.{In}
use Rattle.fleet_model.specs.Sound.{IsChange, IsMerge}

-- robot r's pending route came with this journal: an entry defers it, and in none behind it the robot merged, canceled, withdrew or replanned
pub record CameWith (journal : List Entry) (r : ℕ) : Type 0 where
  pub before : List Entry
  pub route : List CellNo
  pub cycle : List RobotNo
  pub behind : List Entry
  pub splits : journal ≡ before ++ record { robot = record { 0 = r }; act = Deferred route cycle } ∷ behind
  pub unmerged : (entry : Entry) → In entry behind → entry.robot.0 ≡ r → IsMerge entry.act → ⊥
  pub unchanged : (entry : Entry) → In entry behind → entry.robot.0 ≡ r → IsChange entry.act → ⊥
