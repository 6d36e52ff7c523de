-- What callers see of an event graph: the unfinished events in order of number, and the next number.
use Rattle.std.specs.Prelude.{◌≡◌, ◌≢◌, ℕ, ◌-◌, ◌^◌, ◌<◌, ◌≤◌, Bool, true, false, not, ◌==◌, List, [], length, drop, Option}
use Rattle.std.specs.List.{filter, list_any}
use Rattle.std.specs.Option.{option_map}
use Rattle.fleet_base.specs.declared.numbers.ClaimGroup.{ClaimGroup}
use Rattle.fleet_base.specs.declared.numbers.ClaimNo.{ClaimNo}
use Rattle.fleet_base.specs.declared.numbers.Event.{Event}
use Rattle.fleet_base.specs.declared.numbers.EventNo.{EventNo}
use Rattle.fleet_base.specs.declared.numbers.Kind.{Kind}
use Rattle.fleet_base.specs.declared.numbers.Kind.TheVariants.{Acquire, Move, Release}
use Rattle.fleet_model.specs.Lists.{In}
use Rattle.fleet_model.specs.Sites.{in_conflict}
use Rattle.fleet_model.specs.Plans.{is_done, own, is_awaited, after, latest, IsBehind, IsReady}
use Rattle.fleet_model.specs.Good.{IsAscending}

-- the robots, the groups of the claims, the unfinished events in order of number, the next number, and how many events can be appended before memory is asked for again
pub record Graph : Type 0 where
  pub robots : ℕ
  pub groups : List ClaimGroup
  pub events : List Event
  pub next : ℕ
  pub spare : ℕ

-- the claim of an acquire or a release is one of so many
abbrev pub IsKnown : ℕ → Kind → Type 0
IsKnown claims (Acquire c) = c.0 < claims
IsKnown claims (Move a b) = Unit {0}
IsKnown claims (Release c) = c.0 < claims

-- robot r acquires claim c under a number between these
pub record Acquires (events : List Event) (r : ℕ) (c : ClaimNo) (low high : ℕ) : Type 0 where
  pub event : Event
  pub planned : In event events
  pub robot : event.robot.0 ≡ r
  pub kind : event.kind ≡ Acquire c
  pub above : low < event.no.0
  pub below : event.no.0 < high

-- wherever two releases by different robots with conflicting claims stand in the list, an acquire of the later one's claim by the later one's robot stands between them
abbrev pub AreApart : List ClaimGroup → List Event → Type 0
AreApart groups events =
    (f g : Event) (c d : ClaimNo) → In f events → In g events → f.robot.0 ≢ g.robot.0 → f.kind ≡ Release c → g.kind ≡ Release d
    → in_conflict groups c d ≡ true → f.no.0 < g.no.0 → Acquires events g.robot.0 d f.no.0 g.no.0

-- what holds of every graph, whatever its spare room
pub record IsGraph (robots : ℕ) (groups : List ClaimGroup) (events : List Event) (next : ℕ) : Type 0 where
  pub few_robots : robots ≤ 64
  pub few_claims : length groups ≤ 1280
  pub ascends : IsAscending 0 events
  pub below : (e : Event) → In e events → e.no.0 < next
  pub robot : (e : Event) → In e events → e.robot.0 < robots
  pub known : (e : Event) → In e events → IsKnown (length groups) e.kind
  pub few_events : length events < 2 ^ 32
  pub apart : AreApart groups events

-- one of the events has this number
abbrev pub HasNumber : List Event → EventNo → Type 0
HasNumber events n = (e : Event) × In e events × (e.no ≡ n)

-- a fact of the event of this number
abbrev pub AtNumber : List Event → EventNo → (Event → Type 0) → Type 0
AtNumber events n P = (e : Event) → In e events → e.no ≡ n → P e

-- of these unfinished events, e comes behind none
abbrev pub IsReadyAmong : List ClaimGroup → List Event → Event → Type 0
IsReadyAmong groups events e = IsReady (IsBehind groups) events [] e

-- the event of this number is one of these unfinished ones, and ready
abbrev pub HasReady : List ClaimGroup → List Event → EventNo → Type 0
HasReady groups events n = (e : Event) × (e.no ≡ n) × IsReadyAmong groups events e

-- the greatest number among these releases that e stands behind
abbrev pub greatest_after : List ClaimGroup → List Event → Event → Option EventNo
greatest_after groups events e = option_map (λ f. f.no) (latest (after groups events e))

-- one of the events, of another robot, stands behind f
abbrev pub has_waiting : List ClaimGroup → List Event → Event → Bool
has_waiting groups events f = list_any (λ e. is_awaited groups e f) events

-- the events without that of this number
abbrev pub without_number : List Event → EventNo → List Event
without_number events n = filter (λ e. not (e.no.0 == n.0)) events

-- the events without these
abbrev pub without_events : List Event → List Event → List Event
without_events events gone = filter (λ e. not (is_done gone e)) events

-- the last so many events of robot r
abbrev pub tail_of : ℕ → ℕ → List Event → List Event
tail_of r count events = drop (length (own r events) - count) (own r events)

-- none of the events stands behind one of the tail
abbrev pub IsUnawaited : List ClaimGroup → List Event → List Event → Type 0
IsUnawaited groups events tail = (e f : Event) → In e events → In f tail → is_awaited groups e f ≡ false

-- the robots and the groups are as before
pub record HasSameSetting (old new : Graph) : Type 0 where
  pub robots : new.robots ≡ old.robots
  pub groups : new.groups ≡ old.groups

-- all is as before, whatever the spare room
pub record IsUnchanged (old new : Graph) : Type 0 where
  pub robots : new.robots ≡ old.robots
  pub groups : new.groups ≡ old.groups
  pub events : new.events ≡ old.events
  pub next : new.next ≡ old.next
