use Rattle.fleet_model.specs.Tables.{holdings, places}
use Rattle.fleet_model.proofs.Tables.{ends-merged, ends-withdrawn}
use Rattle.robot_tables.proofs.laws.plans_change_ends.Goals as goal

pub returns : goal.returns
returns c = record {
  merge = λ m r a bs long. let ends = ends-merged m r a bs long in λ i. record { ends = ends i; places = places m; holdings = holdings m };
  withdrawal = λ m r good. let ends = ends-withdrawn m r good in λ i. record { ends = ends i; places = places m; holdings = holdings m };
}
