-- Why an order of events isn't legal. The first event with a cause counts, and its first cause.
use Rattle.std.specs.Prelude.{◌≡◌, ℕ, ◌<◌, Bool, not, ◌&&◌, ◌==◌, nat_le, ◌⊎◌, List, [], ◌∷◌, ◌++◌, map, length, find, Option, Some, None}
use Rattle.std.specs.List.{filter, list_any}
use Rattle.std.specs.Option.{option_map}
use Rattle.fleet_base.specs.declared.numbers.CellNo.{CellNo}
use Rattle.fleet_base.specs.declared.numbers.ClaimNo.{ClaimNo}
use Rattle.fleet_base.specs.declared.numbers.Event.{Event}
use Rattle.fleet_base.specs.declared.numbers.EventNo.{EventNo}
use Rattle.fleet_base.specs.declared.numbers.Kind.{Kind}
use Rattle.fleet_base.specs.declared.numbers.Kind.TheVariants.{Acquire, Move, Release}
use Rattle.fleet_model.specs.Lists.{when, first_some, least, numbers_below}
use Rattle.fleet_model.specs.Sites.{Site, footprint_of, in_conflict}
use Rattle.fleet_model.specs.Replays.{Spot, Spots, after_event}
use Rattle.plan_events.specs.declared.refused.ReplayClash.{ReplayClash}
use Rattle.plan_events.specs.declared.refused.ReplayClash.TheVariants.{Held, Twice, NotAt, NotHeld, NoMemory}

-- the claims of the site, ascending
abbrev pub claims_of : Site → List ClaimNo
claims_of site = map (λ n. record { 0 = n }) (numbers_below (length site.groups))

-- a robot there holds a claim that conflicts with this one
abbrev pub holds_against : Site → Spot → ClaimNo → Bool
holds_against site s c = list_any (λ d. s.holds d && in_conflict site.groups c d) (claims_of site)

-- the least of so many robots, other than r, that holds a claim that conflicts with this one
abbrev pub least_holder : Site → ℕ → Spots → ℕ → ClaimNo → Option ℕ
least_holder site robots spots r c = find (λ q. not (q == r) && holds_against site (spots q) c) (numbers_below robots)

-- the least of these claims that a robot there doesn't hold
abbrev pub least_missing : Spot → List ClaimNo → Option ClaimNo
least_missing s claims = least (λ c d. nat_le c.0 d.0) (filter (λ c. not (s.holds c)) claims)

-- why robot r, one of so many, can't acquire the claim as event n, in order, each where its cause is there
abbrev pub acquire_causes : Site → ℕ → Spots → EventNo → ℕ → ClaimNo → List (Option ReplayClash)
acquire_causes site robots spots n r c =
    option_map (λ q. Held n c (record { 0 = q })) (least_holder site robots spots r c)
    ∷ when ((spots r).holds c) (Twice n c)
    ∷ []

-- why a robot there can't move from a to b as event n: it is in another cell, or lacks a claim of the cells' footprints
abbrev pub move_causes : Site → Spot → EventNo → CellNo → CellNo → List (Option ReplayClash)
move_causes site s n a b =
    when (not (s.cell.0 == a.0)) (NotAt n s.cell)
    ∷ option_map (λ c. NotHeld n c) (least_missing s (footprint_of site a ++ footprint_of site b))
    ∷ []

-- why a robot there can't release the claim as event n
abbrev pub release_causes : Spot → EventNo → ClaimNo → List (Option ReplayClash)
release_causes s n c = when (not (s.holds c)) (NotHeld n c) ∷ []

-- why robot r can't do this as event n
abbrev pub event_causes : Site → ℕ → Spots → EventNo → ℕ → Kind → List (Option ReplayClash)
event_causes site robots spots n r (Acquire c) = acquire_causes site robots spots n r c
event_causes site robots spots n r (Move a b) = move_causes site (spots r) n a b
event_causes site robots spots n r (Release c) = release_causes (spots r) n c

-- the first cause that is there
abbrev pub event_clash : Site → ℕ → Spots → Event → Option ReplayClash
event_clash site robots spots e = first_some (event_causes site robots spots e.no e.robot.0 e.kind)

-- the clash of the first event that has one in its place
abbrev pub order_clash : Site → ℕ → Spots → List Event → Option ReplayClash
order_clash site robots spots [] = None
order_clash site robots spots (e ∷ es) = first_some (event_clash site robots spots e ∷ order_clash site robots (after_event e spots) es ∷ [])

-- the order is refused for its first clash, or for want of memory, which may come first
abbrev pub IsRefusalOf : Option ReplayClash → ReplayClash → Type 0
IsRefusalOf clash refused = (refused ≡ NoMemory) ⊎ (clash ≡ Some refused)

-- the claim of an acquire or a release is one of so many
abbrev pub HasClaimOf : ℕ → Kind → Type 0
HasClaimOf claims (Acquire c) = c.0 < claims
HasClaimOf claims (Move a b) = Unit {0}
HasClaimOf claims (Release c) = c.0 < claims

-- the cells of a move are among so many
abbrev pub HasCellsOf : ℕ → Kind → Type 0
HasCellsOf cells (Acquire c) = Unit {0}
HasCellsOf cells (Move a b) = (a.0 < cells) × (b.0 < cells)
HasCellsOf cells (Release c) = Unit {0}

-- the event is one of so many robots, cells and claims
pub record IsEventOf (robots cell_count claims : ℕ) (e : Event) : Type 0 where
  pub robot : e.robot.0 < robots
  pub cells : HasCellsOf cell_count e.kind
  pub claim : HasClaimOf claims e.kind
