-- What every state keeps.
use Rattle.std.specs.Prelude.{◌≡◌, ◌≢◌, ℕ, ◌+◌, ◌*◌, ◌<◌, ◌≤◌, true, ◌⊎◌, List, [], ◌∷◌, Option, Some, length, slice_get}
use Rattle.std.specs.List.{filter}
use Rattle.std.specs.Option.{is_some}
use Rattle.fleet_base.specs.declared.limits.TheConstants.{MAX_COUNT, MAX_FIRST}
use Rattle.fleet_base.specs.declared.numbers.CellNo.{CellNo}
use Rattle.fleet_base.specs.declared.numbers.ClaimNo.{ClaimNo}
use Rattle.fleet_base.specs.declared.numbers.Event.{Event}
use Rattle.fleet_base.specs.declared.numbers.Kind.TheVariants.{Acquire, Release}
use Rattle.fleet_model.specs.Lists.{In}
use Rattle.fleet_model.specs.Sites.{Site, in_conflict}
use Rattle.fleet_model.specs.Replays.{AreSteps, opening}
use Rattle.fleet_model.specs.Plans.{Fleet, kinds, IsOrder, IsBehind, IsRoute}
use Rattle.fleet_model.specs.States.{State, opening_state, pending_of, owed}

-- the numbers rise from low on
abbrev pub IsAscending : ℕ → List Event → Type 0
IsAscending low [] = Unit {0}
IsAscending low (e ∷ es) = (low ≤ e.no.0) × IsAscending (e.no.0 + 1) es

-- robot r begins to hold claim c at number a: by an acquire, or at its start, as number 0
abbrev pub Opens : Fleet → ℕ → ClaimNo → ℕ → Type 0
Opens m r c a =
    ((a ≡ 0) × ((opening m.site m.starts r).holds c ≡ true))
    ⊎ ((e : Event) × In e m.plan × (e.robot.0 ≡ r) × (e.kind ≡ Acquire c) × (e.no.0 ≡ a))

-- robot r releases claim c at a number between these
pub record Closes (plan : List Event) (r : ℕ) (c : ClaimNo) (low high : ℕ) : Type 0 where
  pub event : Event
  pub planned : In event plan
  pub robot : event.robot.0 ≡ r
  pub kind : event.kind ≡ Release c
  pub above : low < event.no.0
  pub below : event.no.0 < high

-- the plan's numbers rise; each robot's events are the steps of one walk from its start; the reported events are an order; and of two robots' uses of conflicting claims one is closed before the other opens
pub record IsGoodPlan (m : Fleet) : Type 0 where
  pub numbers : IsAscending m.first m.plan
  pub first : 1 ≤ m.first
  pub opened : m.first ≤ m.next
  pub next : (e : Event) → In e m.plan → e.no.0 < m.next
  pub walks : (r : ℕ) → AreSteps m.site (slice_get m.starts r) (kinds r m.plan)
  pub finished : IsOrder (IsBehind m.site.groups) m.plan [] m.finished
  pub uses : (r q : ℕ) (c d : ClaimNo) (a b : ℕ) → r ≢ q → in_conflict m.site.groups c d ≡ true → Opens m r c a → Opens m q d b → Closes m.plan r c a b ⊎ Closes m.plan q d b a

-- the plan is good; each robot has a place for a pending route, which is legal; and numbers and room, of the current segment and of the run, keep to their bounds
pub record IsGood (s : State) : Type 0 where
  pub plan : IsGoodPlan s.fleet
  pub places : length s.pending ≡ length s.fleet.starts
  pub routes : (r : ℕ) (route : List CellNo) → pending_of s r ≡ Some route → IsRoute s.fleet r route
  pub first : s.fleet.first ≤ MAX_FIRST
  pub numbers : s.fleet.next ≤ s.fleet.first + 7161 * s.count
  pub base : s.base ≤ s.count
  pub room : s.count + owed s ≤ s.base + s.cap
  pub total : s.count + owed s ≤ MAX_COUNT

-- a state may open a run: numbers begin at 1 at least and within their bound, no two robots start on claims that conflict, each pending route is legal, and there is room for them
pub record IsOpening (site : Site) (starts : List CellNo) (pending : List (Option (List CellNo))) (next cap : ℕ) : Type 0 where
  pub first : 1 ≤ next
  pub bounded : next ≤ MAX_FIRST
  pub apart : (r q : ℕ) (c d : ClaimNo) → r ≢ q → in_conflict site.groups c d ≡ true → (opening site starts r).holds c ≡ true → (opening site starts q).holds d ≡ true → ⊥
  pub places : length pending ≡ length starts
  pub routes : (r : ℕ) (route : List CellNo) → pending_of (opening_state site starts pending next cap) r ≡ Some route → IsRoute (opening_state site starts pending next cap).fleet r route
  pub room : length (filter is_some pending) ≤ cap
  pub total : length (filter is_some pending) ≤ MAX_COUNT
