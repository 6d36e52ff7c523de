-- Crossings and their flows.
use Rattle.std.specs.Prelude.{◌≡◌, ℕ, ◌+◌, ◌<◌, max, Bool, true, false, not, List, [], ◌∷◌, ◌++◌, length, All, AllPairs}
use Rattle.std.specs.List.{filter, list_any, position_or_len}
use Rattle.fleet_model.specs.Lists.{has_cell}
use Rattle.fleet_base.specs.declared.numbers.CellNo.{CellNo}
use Rattle.site_map.specs.Cells.{CellsRise}

-- a crossing: its cells and its flows, all ascending
pub record BuiltCrossing : Type 0 where
  pub cells : List CellNo
  pub flows : List (List CellNo)

-- the cell is in one of the flows
abbrev pub in_flow : List (List CellNo) → CellNo → Bool
in_flow flows c = list_any (λ flow. has_cell flow c) flows

-- the cells of the crossing that are in no flow
abbrev pub rest_of : BuiltCrossing → List CellNo
rest_of crossing = filter (λ c. not (in_flow crossing.flows c)) crossing.cells

-- flow lines with the rest as a last flow; no flows where there is no line, and no last one where there is no rest
abbrev pub flows_with_rest : List (List CellNo) → List CellNo → List (List CellNo)
flows_with_rest [] rest = []
flows_with_rest (line ∷ lines) [] = line ∷ lines
flows_with_rest (line ∷ lines) (c ∷ cs) = (line ∷ lines) ++ (c ∷ cs) ∷ []

-- the crossing with all its flows: where flow lines were declared, its cells in none of them are its last flow
abbrev pub completed : BuiltCrossing → BuiltCrossing
completed crossing = record { cells = crossing.cells; flows = flows_with_rest crossing.flows (rest_of crossing) }

-- the crossing with one more flow line
abbrev pub with_line : BuiltCrossing → List CellNo → BuiltCrossing
with_line crossing line = record { cells = crossing.cells; flows = crossing.flows ++ line ∷ [] }

-- a crossing has one claim for each flow, and one where it has no flows
abbrev pub claim_count_of : BuiltCrossing → ℕ
claim_count_of crossing = max 1 (length crossing.flows)

-- how many claims these crossings have
abbrev pub crossing_claims : List BuiltCrossing → ℕ
crossing_claims [] = 0
crossing_claims (x ∷ xs) = claim_count_of x + crossing_claims xs

-- the number of the cell's flow: how many flows stand before the first that has the cell
abbrev pub flow_of : BuiltCrossing → CellNo → ℕ
flow_of crossing c = position_or_len (λ flow. has_cell flow c) crossing.flows

-- at least one cell, ascending, each one of these
pub record IsFlow (cells flow : List CellNo) : Type 0 where
  pub some : 0 < length flow
  pub rise : CellsRise 0 flow
  pub within : All (λ c. has_cell cells c ≡ true) flow

-- no cell is in two of the flows
abbrev pub AreApart : List (List CellNo) → Type 0
AreApart flows = AllPairs (λ flow other. All (λ c. has_cell flow c ≡ false) other) flows
