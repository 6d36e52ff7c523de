-- The yard, where two tracks cross: cells a p b c q d, and a crossing of p and q.
use Rattle.std.specs.Prelude.{ℕ, false, List, [], ◌∷◌, ◌++◌}
use Rattle.fleet_base.specs.declared.numbers.ClaimGroup.{ClaimGroup}
use Rattle.fleet_base.specs.declared.numbers.ClaimNo.{ClaimNo}
use Rattle.fleet_base.specs.declared.numbers.Link.{Link}
use Rattle.fleet_model.specs.Sites.{Site}
use Rattle.fleet_model.specs.States.{State}
use Rattle.fleet_model.specs.Calls.{Call}
use Rattle.fleet_model.specs.Examples.{r1, r2, to, claim, alone, fleet_on, proposes, reports_all}

-- the cells and their claims
abbrev pub a : ℕ
a = 0

abbrev pub p : ℕ
p = 1

abbrev pub b : ℕ
b = 2

abbrev pub c : ℕ
c = 3

abbrev pub q : ℕ
q = 4

abbrev pub d : ℕ
d = 5

-- the claim of the crossing, or that of its flow through p
abbrev pub x : ℕ
x = 6

-- the claim of the crossing's flow through q
abbrev pub y : ℕ
y = 7

-- lanes of cost 1 between a and p, p and b, c and q, q and d
abbrev pub links : List (List Link)
links = (to p 1 ∷ []) ∷ (to a 1 ∷ to b 1 ∷ []) ∷ (to p 1 ∷ []) ∷ (to q 1 ∷ []) ∷ (to c 1 ∷ to d 1 ∷ []) ∷ (to q 1 ∷ []) ∷ []

-- each cell with its own claim; p and q with one of the crossing's besides
abbrev pub footprints : ℕ → ℕ → List (List ClaimNo)
footprints through_p through_q =
    (claim a ∷ []) ∷ (claim p ∷ claim through_p ∷ []) ∷ (claim b ∷ []) ∷ (claim c ∷ []) ∷ (claim q ∷ claim through_q ∷ []) ∷ (claim d ∷ []) ∷ []

-- the group of a flow of the crossing: two robots may hold the same flow
abbrev pub flow : ClaimGroup
flow = record { group = x; alone = false }

-- the crossing is for one robot at a time
abbrev pub site : Site
site = record { links = links; footprints = footprints x x; groups = alone 7 }

-- the crossing has two flows, one through p and one through q
abbrev pub with_two_flows : Site
with_two_flows = record { links = links; footprints = footprints x y; groups = alone 6 ++ flow ∷ flow ∷ [] }

-- the crossing has one flow, through both cells
abbrev pub with_one_flow : Site
with_one_flow = record { links = links; footprints = footprints x x; groups = alone 6 ++ flow ∷ [] }

-- r1 in a and r2 in c of a yard
abbrev pub two_in : Site → State
two_in yard = fleet_on yard (a ∷ c ∷ [])

-- r1 proposes from a by p to b, and then r2 from c by q to d
abbrev pub both_through : List (ℕ × Call)
both_through = proposes r1 (a ∷ p ∷ b ∷ []) ∷ proposes r2 (c ∷ q ∷ d ∷ []) ∷ []

-- then both drive into the crossing
abbrev pub both_inside : List (ℕ × Call)
both_inside = both_through ++ reports_all r1 1 3 ++ reports_all r2 9 11
