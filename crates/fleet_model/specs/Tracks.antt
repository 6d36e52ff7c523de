-- Three tracks that cross: cells a p b c q d e s f, and a crossing of p, q and s with a flow of p and q. The rest of the crossing, which is s, is a flow of its own.
use Rattle.std.specs.Prelude.{ℕ, false, List, [], ◌∷◌, ◌++◌}
use Rattle.fleet_base.specs.declared.numbers.ClaimGroup.{ClaimGroup}
use Rattle.fleet_base.specs.declared.numbers.ClaimNo.{ClaimNo}
use Rattle.fleet_model.specs.Sites.{Site}
use Rattle.fleet_model.specs.States.{State}
use Rattle.fleet_model.specs.Calls.{Call}
use Rattle.fleet_model.specs.Examples.{r1, r2, r3, to, claim, alone, fleet_on, proposes}
use Rattle.fleet_model.specs.Yard as yard

-- the cells of the third track and their claims; those of the other two are the yard's
abbrev pub e : ℕ
e = 6

abbrev pub s : ℕ
s = 7

abbrev pub f : ℕ
f = 8

-- the claim of the flow of p and q
abbrev pub flow : ℕ
flow = 9

-- the claim of the rest of the crossing
abbrev pub rest : ℕ
rest = 10

-- the group of the crossing's claims: two robots may hold the same one
abbrev pub group : ClaimGroup
group = record { group = flow; alone = false }

-- the yard with lanes of cost 1 between e and s, s and f
abbrev pub site : Site
site = record {
  links = yard.links ++ (to s 1 ∷ []) ∷ (to e 1 ∷ to f 1 ∷ []) ∷ (to s 1 ∷ []) ∷ [];
  footprints = yard.footprints flow flow ++ (claim e ∷ []) ∷ (claim s ∷ claim rest ∷ []) ∷ (claim f ∷ []) ∷ [];
  groups = alone 9 ++ group ∷ group ∷ [];
}

-- r1 in a, r2 in c and r3 in e
abbrev pub three_in : State
three_in = fleet_on site (yard.a ∷ yard.c ∷ e ∷ [])

-- r1 proposes from a by p to b, then r2 from c by q to d, and then r3 from e by s to f
abbrev pub all_through : List (ℕ × Call)
all_through = proposes r1 (yard.a ∷ yard.p ∷ yard.b ∷ []) ∷ proposes r2 (yard.c ∷ yard.q ∷ yard.d ∷ []) ∷ proposes r3 (e ∷ s ∷ f ∷ []) ∷ []
