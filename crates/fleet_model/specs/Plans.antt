-- The plan, what an event waits for, the orders that are allowed, and merges, insertions and withdrawals.
use Rattle.std.specs.Prelude.{length, slice_get, ◌≡◌, ◌≢◌, ℕ, ◌+◌, ◌<◌, ◌≤◌, Bool, true, false, not, ◌&&◌, ◌==◌, nat_lt, nat_le, ◌⊎◌, List, [], ◌∷◌, ◌++◌, map, drop, find, Option, Some, None}
use Rattle.std.specs.List.{filter, list_any, list_all}
use Rattle.std.specs.Option.{unwrap_or}
use Rattle.fleet_base.specs.declared.numbers.CellNo.{CellNo}
use Rattle.fleet_base.specs.declared.numbers.ClaimGroup.{ClaimGroup}
use Rattle.fleet_base.specs.declared.numbers.ClaimNo.{ClaimNo}
use Rattle.fleet_base.specs.declared.numbers.Event.{Event}
use Rattle.fleet_base.specs.declared.numbers.Kind.{Kind}
use Rattle.fleet_base.specs.declared.numbers.Kind.TheVariants.{Acquire, Move, Release}
use Rattle.fleet_model.specs.Lists.{In, least}
use Rattle.fleet_model.specs.Sites.{Site, in_conflict, footprint_of, has_claim, steps, IsWalk, rest_points, moved_to}
use Rattle.fleet_model.specs.Replays.{IsLegal, opening, replay, AreSteps}

-- robots on one plan: all events that were merged and not withdrawn, in order of number; those that were reported, in order of report; the number of the first event and that of the next
pub record Fleet : Type 0 where
  pub site : Site
  pub starts : List CellNo
  pub first : ℕ
  pub plan : List Event
  pub finished : List Event
  pub next : ℕ

-- an event of that number is among these
abbrev pub is_done : List Event → Event → Bool
is_done done e = list_any (λ f. f.no.0 == e.no.0) done

-- the events of the plan that were not reported
abbrev pub unfinished : Fleet → List Event
unfinished m = filter (λ e. not (is_done m.finished e)) m.plan

-- the events of robot r
abbrev pub own : ℕ → List Event → List Event
own r events = filter (λ e. e.robot.0 == r) events

-- what robot r does in these events
abbrev pub kinds : ℕ → List Event → List Kind
kinds r events = map (λ e. e.kind) (own r events)

-- the first acquires a claim that conflicts with the one that the second releases
abbrev pub clashes : List ClaimGroup → Kind → Kind → Bool
clashes groups (Acquire c) (Release d) = in_conflict groups c d
clashes groups (Acquire c) (Acquire d) = false
clashes groups (Acquire c) (Move a b) = false
clashes groups (Move a b) k = false
clashes groups (Release c) k = false

-- f is a release by another robot, with a smaller number, of a claim that conflicts with the one that e acquires
abbrev pub is_awaited : List ClaimGroup → Event → Event → Bool
is_awaited groups e f = nat_lt f.no.0 e.no.0 && (not (f.robot.0 == e.robot.0) && clashes groups e.kind f.kind)

-- the releases that e stands behind
abbrev pub after : List ClaimGroup → List Event → Event → List Event
after groups plan e = filter (is_awaited groups e) plan

-- the releases that e still waits for
abbrev pub awaited : Fleet → Event → List Event
awaited m e = filter (λ f. not (is_done m.finished f)) (after m.site.groups m.plan e)

-- the event of greatest number
abbrev pub latest : List Event → Option Event
latest events = least (λ e f. nat_le f.no.0 e.no.0) events

-- e comes behind f: f is an earlier event of its robot, or one that e stands behind
abbrev pub IsBehind : List ClaimGroup → Event → Event → Type 0
IsBehind groups e f = ((f.robot.0 ≡ e.robot.0) × (f.no.0 < e.no.0)) ⊎ (is_awaited groups e f ≡ true)

-- e is an event of the plan that isn't done, and all that it comes behind is done
pub record IsReady (behind : Event → Event → Type 0) (plan done : List Event) (e : Event) : Type 0 where
  pub planned : In e plan
  pub undone : is_done done e ≡ false
  pub waited : (f : Event) → In f plan → behind e f → is_done done f ≡ true

-- each event of the order is ready when those in front of it are done
abbrev pub IsOrder : (Event → Event → Type 0) → List Event → List Event → List Event → Type 0
IsOrder behind plan done [] = Unit {0}
IsOrder behind plan done (e ∷ es) = IsReady behind plan done e × IsOrder behind plan (done ++ e ∷ []) es

-- an order in which unfinished events may be reported; it need not have all of them
abbrev pub IsAllowed : Fleet → List Event → Type 0
IsAllowed m order = IsOrder (IsBehind m.site.groups) m.plan m.finished order

-- whatever is reported in an allowed order is a legal replay
abbrev pub IsSafe : Fleet → Type 0
IsSafe m = (order : List Event) → IsAllowed m order → IsLegal m.site (opening m.site m.starts) (m.finished ++ order)

-- where robot r is by what was reported
abbrev pub cell_of : Fleet → ℕ → CellNo
cell_of m r = (replay (opening m.site m.starts) m.finished r).cell

-- where robot r is when all its events have happened
abbrev pub end_of : Fleet → ℕ → CellNo
end_of m r = (replay (opening m.site m.starts) m.plan r).cell

-- these things, done by robot r under numbers from n on
abbrev pub numbered : ℕ → ℕ → List Kind → List Event
numbered n r [] = []
numbered n r (k ∷ ks) = record { no = record { 0 = n }; robot = record { 0 = r }; kind = k } ∷ numbered (n + 1) r ks

-- a legal route of robot r: from its end along links, of 2 to 1,024 cells
pub record IsRoute (m : Fleet) (r : ℕ) (route : List CellNo) : Type 0 where
  pub long : 2 ≤ length route
  pub short : length route ≤ 1024
  pub linked : IsWalk m.site route
  pub begins : slice_get route 0 ≡ Some (end_of m r)

-- the events of a route of robot r, numbered from the next number on
abbrev pub route_events : Fleet → ℕ → List CellNo → List Event
route_events m r route = numbered m.next r (steps m.site route)

-- the plan with the route
abbrev pub merged : Fleet → ℕ → List CellNo → Fleet
merged m r route = record m { plan = m.plan ++ route_events m r route; next = m.next + length (steps m.site route) }

-- robot q keeps, at its end, what the route of robot r acquires as claim c
pub record IsBlocker (m : Fleet) (r : ℕ) (route : List CellNo) (c : ClaimNo) (q : ℕ) : Type 0 where
  pub needed : In (Acquire c) (steps m.site route)
  pub other : q ≢ r
  pub start : CellNo
  pub starts : slice_get m.starts q ≡ Some start
  pub claim : ClaimNo
  pub holds : has_claim (footprint_of m.site (end_of m q)) claim ≡ true
  pub conflict : in_conflict m.site.groups c claim ≡ true

-- pairs of an unfinished event of the plan and an event of the route that is to come behind it
abbrev pub Insertion : Type 0
Insertion = List (Event × Event)

-- the pairs are of such events
pub record IsInsertion (m : Fleet) (events : List Event) (pairs : Insertion) : Type 0 where
  pub planned : (f e : Event) → In (f, e) pairs → In f m.plan
  pub undone : (f e : Event) → In (f, e) pairs → is_done m.finished f ≡ false
  pub new : (f e : Event) → In (f, e) pairs → In e events

-- f is an earlier event of e's robot; or e is an event of the plan that stands behind f; or the insertion pairs f with e
abbrev pub IsBehindBy : Fleet → Insertion → Event → Event → Type 0
IsBehindBy m pairs e f =
    ((f.robot.0 ≡ e.robot.0) × (f.no.0 < e.no.0)) ⊎ (((e.no.0 < m.next) × (is_awaited m.site.groups e f ≡ true)) ⊎ In (f, e) pairs)

-- an order that the insertion allows
abbrev pub IsAllowedBy : Fleet → List Event → Insertion → List Event → Type 0
IsAllowedBy m events pairs order = IsOrder (IsBehindBy m pairs) (m.plan ++ events) m.finished order

-- whatever the insertion allows is a legal replay
abbrev pub IsSafeInsertion : Fleet → List Event → Insertion → Type 0
IsSafeInsertion m events pairs = (order : List Event) → IsAllowedBy m events pairs order → IsLegal m.site (opening m.site m.starts) (m.finished ++ order)

-- the places in the events of robot r at which it rests: those of its whole walk from its start. A robot without a start rests at none
abbrev pub rests_of : Site → Option CellNo → List Kind → List ℕ
rests_of site None ks = []
rests_of site (Some a) ks = rest_points site a (moved_to ks)

-- none of these events is finished, and no other robot's event stands behind one of them
abbrev pub is_removable : Fleet → List Event → Bool
is_removable m tail = list_all (λ f. not (is_done m.finished f) && not (list_any (λ e. is_awaited m.site.groups e f) m.plan)) tail

-- the longest list of robot r's events from a rest point on that may be removed
abbrev pub removable_tail : Fleet → ℕ → List Event
removable_tail m r =
    unwrap_or (find (is_removable m) (map (λ n. drop n (own r m.plan)) (rests_of m.site (slice_get m.starts r) (kinds r m.plan)))) []

-- a list of robot r's events that may be removed: it is the last of them, in front of it stand whole steps of its walk, none of it is finished, and no other robot's event stands behind one of it
pub record IsRemovableTail (m : Fleet) (r : ℕ) (tail : List Event) : Type 0 where
  pub front : List Event
  pub splits : own r m.plan ≡ front ++ tail
  pub rests : AreSteps m.site (slice_get m.starts r) (map (λ e. e.kind) front)
  pub undone : (f : Event) → In f tail → is_done m.finished f ≡ false
  pub unawaited : (e f : Event) → In e m.plan → In f tail → is_awaited m.site.groups e f ≡ false

-- the plan without these events
abbrev pub withdrawn : Fleet → List Event → Fleet
withdrawn m tail = record m { plan = filter (λ e. not (is_done tail e)) m.plan }
