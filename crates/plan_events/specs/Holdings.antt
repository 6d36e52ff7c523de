-- Where the robots are behind a replay, and what each of them holds.
use Rattle.std.specs.Prelude.{ℕ, List, map}
use Rattle.fleet_base.specs.declared.numbers.CellNo.{CellNo}
use Rattle.fleet_base.specs.declared.numbers.ClaimNo.{ClaimNo}
use Rattle.fleet_model.specs.Lists.{numbers_below}
use Rattle.fleet_model.specs.Sites.{Site}
use Rattle.fleet_model.specs.Replays.{Spots, held_claims}

-- for each robot its cell and the claims that it holds, ascending
pub record Holdings : Type 0 where
  pub places : List CellNo
  pub holdings : List (List ClaimNo)

-- the cells and the held claims of so many robots
abbrev pub holdings_of : Site → ℕ → Spots → Holdings
holdings_of site robots spots = record {
  places = map (λ r. (spots r).cell) (numbers_below robots);
  holdings = map (λ r. held_claims site (spots r)) (numbers_below robots);
}
