-- The replay of events over what each robot holds.
use Rattle.std.specs.Prelude.{◌≡◌, ◌≢◌, ℕ, Bool, true, false, not, ◌&&◌, ◌||◌, ◌==◌, if◌then◌else◌, List, [], ◌∷◌, length, map, Option, Some, None, slice_get}
use Rattle.std.specs.List.{filter}
use Rattle.fleet_base.specs.declared.numbers.CellNo.{CellNo}
use Rattle.fleet_base.specs.declared.numbers.ClaimNo.{ClaimNo}
use Rattle.fleet_base.specs.declared.numbers.Event.{Event}
use Rattle.fleet_base.specs.declared.numbers.Kind.{Kind}
use Rattle.fleet_base.specs.declared.numbers.Kind.TheVariants.{Acquire, Move, Release}
use Rattle.fleet_model.specs.Lists.{numbers_below}
use Rattle.fleet_model.specs.Sites.{Site, in_conflict, footprint_of, has_claim, IsWalkFrom, steps_from}

-- where a robot is, and which claims it holds
pub record Spot : Type 0 where
  pub cell : CellNo
  pub holds : ClaimNo → Bool

-- in a cell, with its footprint
abbrev pub standing : Site → CellNo → Spot
standing site a = record { cell = a; holds = λ c. has_claim (footprint_of site a) c }

-- the robot is in the cell, and holds its footprint and nothing else
pub record IsStanding (site : Site) (s : Spot) (a : CellNo) : Type 0 where
  pub cell : s.cell ≡ a
  pub holds : (d : ClaimNo) → s.holds d ≡ has_claim (footprint_of site a) d

abbrev pub after_kind : Kind → Spot → Spot
after_kind (Acquire c) s = record { cell = s.cell; holds = λ d. (c.0 == d.0) || s.holds d }
after_kind (Move a b) s = record { cell = b; holds = s.holds }
after_kind (Release c) s = record { cell = s.cell; holds = λ d. not (c.0 == d.0) && s.holds d }

-- the robot itself is able to do it: it doesn't hold what it acquires, is where it moves from and holds both footprints, holds what it releases
abbrev pub CanDo : Site → Spot → Kind → Type 0
CanDo site s (Acquire c) = s.holds c ≡ false
CanDo site s (Move a b) =
    (s.cell ≡ a) × ((c : ClaimNo) → has_claim (footprint_of site a) c ≡ true → s.holds c ≡ true)
    × ((c : ClaimNo) → has_claim (footprint_of site b) c ≡ true → s.holds c ≡ true)
CanDo site s (Release c) = s.holds c ≡ true

abbrev pub after_kinds : Spot → List Kind → Spot
after_kinds s [] = s
after_kinds s (k ∷ ks) = after_kinds (after_kind k s) ks

-- the robot itself is able to do all of these, one after the other
abbrev pub CanDoAll : Site → Spot → List Kind → Type 0
CanDoAll site s [] = Unit {0}
CanDoAll site s (k ∷ ks) = CanDo site s k × CanDoAll site (after_kind k s) ks

-- where each robot is, by number
abbrev pub Spots : Type 0
Spots = ℕ → Spot

abbrev pub after_event : Event → Spots → Spots
after_event e spots q = if e.robot.0 == q then after_kind e.kind (spots q) else spots q

-- no other robot holds what conflicts with an acquired claim
abbrev pub IsFree : Site → Spots → ℕ → Kind → Type 0
IsFree site spots r (Acquire c) = (q : ℕ) (d : ClaimNo) → q ≢ r → (spots q).holds d ≡ true → in_conflict site.groups c d ≡ true → ⊥
IsFree site spots r (Move a b) = Unit {0}
IsFree site spots r (Release c) = Unit {0}

-- the events can happen in this order
abbrev pub IsLegal : Site → Spots → List Event → Type 0
IsLegal site spots [] = Unit {0}
IsLegal site spots (e ∷ es) =
    CanDo site (spots e.robot.0) e.kind × IsFree site spots e.robot.0 e.kind × IsLegal site (after_event e spots) es

-- where each robot is after these events
abbrev pub replay : Spots → List Event → Spots
replay spots [] = spots
replay spots (e ∷ es) = replay (after_event e spots) es

-- where a robot starts. One that has no start holds nothing
abbrev pub start_at : Site → Option CellNo → Spot
start_at site None = record { cell = record { 0 = 0 }; holds = λ c. false }
start_at site (Some a) = standing site a

-- each robot in its start, with its footprint
abbrev pub opening : Site → List CellNo → Spots
opening site starts r = start_at site (slice_get starts r)

-- the claims that are held there, ascending
abbrev pub held_claims : Site → Spot → List ClaimNo
held_claims site s = filter s.holds (map (λ n. record { 0 = n }) (numbers_below (length site.groups)))

-- these are the steps of one walk from the start. A robot without a start takes none
abbrev pub AreSteps : Site → Option CellNo → List Kind → Type 0
AreSteps site None ks = ks ≡ []
AreSteps site (Some a) ks = (cells : List CellNo) × IsWalkFrom site a cells × (ks ≡ steps_from site a cells)
