-- What an accepted call does to the state, where it can, and what its entry tells.
use Rattle.std.proofs.Common.{◌≡◌, ℕ, ◌+◌, ◌≤◌, refl, List, length, Some, None}
use Rattle.std.specs.Prelude.{slice_get}
use Rattle.fleet_base.specs.Lists.{robots_of}
use Rattle.fleet_base.specs.declared.entries.Act.{Act}
use Rattle.fleet_base.specs.declared.entries.Act.TheVariants.{Merged, Deferred, Retried, Canceled, Withdrawn, Replanned, Reported}
use Rattle.fleet_base.specs.declared.entries.Entry.{Entry}
use Rattle.fleet_base.specs.declared.limits.TheConstants.{MAX_COUNT}
use Rattle.fleet_base.specs.declared.numbers.CellNo.{CellNo}
use Rattle.fleet_base.specs.declared.numbers.ClaimNo.{ClaimNo}
use Rattle.fleet_base.specs.declared.numbers.Event.{Event}
use Rattle.fleet_model.specs.Plans.{Fleet, IsBehind, IsReady, IsRoute, IsBlocker, removable_tail, withdrawn}
use Rattle.fleet_model.specs.States.{State, pending_of, owed, cycle_of}
use Rattle.fleet_model.specs.Calls.{moved, with_route, deferring, reported}

-- what an accepted call did: it put a route into the plan, kept one as pending, dropped the pending one, cut the removable tail, or finished an event
pub data Change : Type 0 where
  Grew : List CellNo → Change
  Kept : List CellNo → Change
  Dropped : Change
  Cut : Change
  Did : Event → Change

-- the state after the change
abbrev pub changed : State → ℕ → Change → State
changed s r (Grew route) = with_route s r route
changed s r (Kept route) = deferring s r route
changed s r Dropped = moved s s.fleet r None
changed s r Cut = moved s (withdrawn s.fleet (removable_tail s.fleet r)) r None
changed s r (Did e) = record s { fleet = reported s.fleet (Some e); count = s.count + 1 }

-- the robot has a start
abbrev pub HasStart : Fleet → ℕ → Type 0
HasStart m r = (a : CellNo) × (slice_get m.starts r ≡ Some a)

-- the route has no blocker
abbrev pub IsClear : Fleet → ℕ → List CellNo → Type 0
IsClear m r route = (c : ClaimNo) (q : ℕ) → IsBlocker m r route c q → ⊥

-- where the change can be made
abbrev pub CanChange : State → ℕ → Change → Type 0
CanChange s r (Grew route) = HasStart s.fleet r × IsRoute s.fleet r route × IsClear s.fleet r route
CanChange s r (Kept route) = (pending_of s r ≡ None) × IsRoute s.fleet r route × ((c : ClaimNo) × (q : ℕ) × IsBlocker s.fleet r route c q)
CanChange s r Dropped = (route : List CellNo) × (pending_of s r ≡ Some route)
CanChange s r Cut = 1 ≤ length (removable_tail s.fleet r)
CanChange s r (Did e) = (e.robot.0 ≡ r) × IsReady (IsBehind s.fleet.site.groups) s.fleet.plan s.fleet.finished e

-- what the entry tells of the change
abbrev pub Tells : State → ℕ → Change → Act → Type 0
Tells s r (Grew route) (Merged cells first) = (route ≡ cells) × (pending_of s r ≡ None)
Tells s r (Grew route) (Retried first) = pending_of s r ≡ Some route
Tells s r (Grew route) (Replanned cells first) = (route ≡ cells) × ((old : List CellNo) × (pending_of s r ≡ Some old))
Tells s r (Kept route) (Deferred cells cycle) = (route ≡ cells) × (cycle ≡ robots_of (cycle_of (deferring s r route) r))
Tells s r Dropped Canceled = Unit {0}
Tells s r Cut (Withdrawn removed end) = Unit {0}
Tells s r (Did e) (Reported event) = e.no ≡ event
Tells s r _ _ = ⊥

-- all that is known of an accepted call
pub record Accepts (s : State) (r : ℕ) (entry : Entry) (after : State) : Type 0 where
  pub change : Change
  pub can : CanChange s r change
  pub base : ℕ
  pub begun : base ≤ s.count
  pub room : s.count + 1 + owed (changed s r change) ≤ base + s.cap
  pub total : s.count + 1 + owed (changed s r change) ≤ MAX_COUNT
  pub after_is : after ≡ record (changed s r change) { base = base }
  pub robot : entry.robot.0 ≡ r
  pub tells : Tells s r change entry.act

pub changed_count : (s : State) (r : ℕ) (c : Change) → (changed s r c).count ≡ s.count + 1
changed_count s r (Grew route) = refl
changed_count s r (Kept route) = refl
changed_count s r Dropped = refl
changed_count s r Cut = refl
changed_count s r (Did e) = refl

pub changed_base : (s : State) (r : ℕ) (c : Change) → (changed s r c).base ≡ s.base
changed_base s r (Grew route) = refl
changed_base s r (Kept route) = refl
changed_base s r Dropped = refl
changed_base s r Cut = refl
changed_base s r (Did e) = refl

pub changed_cap : (s : State) (r : ℕ) (c : Change) → (changed s r c).cap ≡ s.cap
changed_cap s r (Grew route) = refl
changed_cap s r (Kept route) = refl
changed_cap s r Dropped = refl
changed_cap s r Cut = refl
changed_cap s r (Did e) = refl

pub changed_site : (s : State) (r : ℕ) (c : Change) → (changed s r c).fleet.site ≡ s.fleet.site
changed_site s r (Grew route) = refl
changed_site s r (Kept route) = refl
changed_site s r Dropped = refl
changed_site s r Cut = refl
changed_site s r (Did e) = refl

pub changed_first : (s : State) (r : ℕ) (c : Change) → (changed s r c).fleet.first ≡ s.fleet.first
changed_first s r (Grew route) = refl
changed_first s r (Kept route) = refl
changed_first s r Dropped = refl
changed_first s r Cut = refl
changed_first s r (Did e) = refl

pub changed_starts : (s : State) (r : ℕ) (c : Change) → (changed s r c).fleet.starts ≡ s.fleet.starts
changed_starts s r (Grew route) = refl
changed_starts s r (Kept route) = refl
changed_starts s r Dropped = refl
changed_starts s r Cut = refl
changed_starts s r (Did e) = refl
