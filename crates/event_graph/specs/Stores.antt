-- How the unfinished events are stored: slots in order of number, those of a claim chained, and for each robot the numbers of its events.
use Rattle.std.specs.Prelude.{◌≡◌, ℕ, ◌+◌, ◌<◌, ◌≤◌, ◌⊎◌, true, List, [], ◌∷◌, length, map, slice_index_or, Option, Some, None}
use Rattle.fleet_base.specs.declared.numbers.ClaimGroup.{ClaimGroup}
use Rattle.fleet_base.specs.declared.numbers.ClaimNo.{ClaimNo}
use Rattle.fleet_base.specs.declared.numbers.Event.{Event}
use Rattle.fleet_base.specs.declared.numbers.EventNo.{EventNo}
use Rattle.fleet_base.specs.declared.numbers.Kind.{Kind}
use Rattle.fleet_base.specs.declared.numbers.Kind.TheVariants.{Acquire, Move, Release}
use Rattle.fleet_model.specs.Lists.{In}
use Rattle.fleet_model.specs.Plans.{own, is_awaited}
use Rattle.number_queues.specs.Queues.{Queues, queue_of}
use Rattle.slot_chains.specs.Slots.{Slots}

-- the events of the slots, in order
abbrev pub events_of : List (Option Event) → List Event
events_of [] = []
events_of (None ∷ slots) = events_of slots
events_of (Some e ∷ slots) = e ∷ events_of slots

-- the claim that is taken or given back
abbrev pub claim_of : Kind → Option ℕ
claim_of (Acquire c) = Some c.0
claim_of (Move a b) = None
claim_of (Release c) = Some c.0

-- the chain of claims that a slot is in
abbrev pub claim_key : Option Event → Option ℕ
claim_key None = None
claim_key (Some e) = claim_of e.kind

-- each robot's queue has the numbers of its events
abbrev pub AreQueued : List Event → List (List ℕ) → Type 0
AreQueued events queues = (r : ℕ) → r < length queues → queue_of r queues ≡ map (λ e. e.no.0) (own r events)

-- the events are queued by robot, and the slots chained by claim
pub record AreKeyed (slots : List (Option Event)) (robots : Queues) (claims : Slots) : Type 0 where
  pub by_robot : AreQueued (events_of slots) robots.queues
  pub by_claim : claims.keys ≡ map claim_key slots

-- the event in a slot
abbrev pub HasEvent : List (Option Event) → ℕ → Event → Type 0
HasEvent slots i e = slice_index_or slots i None ≡ Some e

-- e stands behind f, a release of a claim with a number in this range
pub record IsBehindIn (groups : List ClaimGroup) (first end : ℕ) (e f : Event) : Type 0 where
  pub awaited : is_awaited groups e f ≡ true
  pub claim : ClaimNo
  pub kind : f.kind ≡ Release claim
  pub above : first ≤ claim.0
  pub below : claim.0 < end

-- e, an acquire of a claim with a number in this range, stands behind f
pub record IsInFrontIn (groups : List ClaimGroup) (first end : ℕ) (f e : Event) : Type 0 where
  pub awaited : is_awaited groups e f ≡ true
  pub claim : ClaimNo
  pub kind : e.kind ≡ Acquire claim
  pub above : first ≤ claim.0
  pub below : claim.0 < end

-- none of the events is so
abbrev pub HasNone : (Event → Type 0) → List Event → Type 0
HasNone P events = (e : Event) → In e events → P e → ⊥

-- one of the events is so
abbrev pub HasOne : (Event → Type 0) → List Event → Type 0
HasOne P events = (e : Event) × In e events × P e

-- the greatest number of an event that is so; None where none is
abbrev pub IsGreatest : (Event → Type 0) → List Event → Option EventNo → Type 0
IsGreatest P events None = HasNone P events
IsGreatest P events (Some n) = ((e : Event) × In e events × P e × (e.no ≡ n)) × ((e : Event) → In e events → P e → e.no.0 ≤ n.0)

-- the slots are those of consecutive numbers up to the next one, so that an event is found by its number
abbrev pub AreNumbered : List (Option Event) → ℕ → Type 0
AreNumbered slots next = (i : ℕ) (e : Event) → HasEvent slots i e → e.no.0 + length slots ≡ next + i

-- the first slots, so many, are empty
abbrev pub AreEmptyBelow : List (Option Event) → ℕ → Type 0
AreEmptyBelow slots count = (i : ℕ) → i < count → slice_index_or slots i None ≡ None

-- the later of two numbers, where there is one
abbrev pub IsLater : Option EventNo → Option EventNo → Option EventNo → Type 0
IsLater None o result = result ≡ o
IsLater (Some n) None result = result ≡ Some n
IsLater (Some n) (Some m) result = ((result ≡ Some n) × (m.0 ≤ n.0)) ⊎ ((result ≡ Some m) × (n.0 ≤ m.0))
