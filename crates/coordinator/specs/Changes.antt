-- What a change of the state does to the tables.
use Rattle.std.specs.Prelude.{◌≡◌, ℕ, ◌+◌, ◌<◌, List, ◌++◌, length, slice_get, slice_set, Option, Some, None}
use Rattle.fleet_base.specs.declared.numbers.CellNo.{CellNo}
use Rattle.fleet_base.specs.declared.numbers.ClaimNo.{ClaimNo}
use Rattle.fleet_base.specs.declared.numbers.Event.{Event}
use Rattle.fleet_base.specs.declared.numbers.Kind.{Kind}
use Rattle.fleet_model.specs.Plans.{numbered}
use Rattle.fleet_model.specs.Sites.{footprint_of}
use Rattle.site_map.specs.Built.{BuiltSite}
use Rattle.site_map.specs.Claims.{site_of}
use Rattle.event_graph.specs.Graphs.{HasSameSetting, IsUnchanged, tail_of, without_events, without_number}
use Rattle.robot_tables.specs.Robots.{after_report, with_end}
use Rattle.deferral.specs.declared.pending.Pending.{Pending}
use Rattle.deferral.specs.Backlogs.{Backlog, end_claims, pending_of}
use Rattle.coordinator.specs.declared.tables.Tables.{Tables}

-- what robot r has pending is this
abbrev pub with_pending : Backlog → ℕ → Option Pending → Backlog
with_pending b r pending = record b { pending = slice_set b.pending r pending }

-- the claims of the end of robot r are these
abbrev pub with_end_claims : Backlog → ℕ → List ClaimNo → Backlog
with_end_claims b r claims = record b { ends = slice_set b.ends r claims }

-- how many routes these are
abbrev pub route_count : Option Pending → ℕ
route_count None = 0
route_count (Some pending) = 1

-- the robot ends in a cell of the site, and the claims of its end are that cell's footprint
abbrev pub IsTold : BuiltSite → Tables → ℕ → Type 0
IsTold site t r = (a : CellNo) → slice_get t.robots.ends r ≡ Some a → (a.0 < site.cells) × (footprint_of (site_of site) a ≡ end_claims t.deferrals r)

-- all is as before, whatever the spare room
pub record AreSame (t u : Tables) : Type 0 where
  pub graph : IsUnchanged t.graph u.graph
  pub known : u.robots ≡ t.robots
  pub deferrals : u.deferrals ≡ t.deferrals
  pub owed : u.owed ≡ t.owed

-- robot r is to do this, up to a cell with these claims, and has no route pending
pub record IsSettled (t u : Tables) (r : ℕ) (kinds : List Kind) (end : CellNo) (claims : List ClaimNo) : Type 0 where
  pub events : u.graph.events ≡ t.graph.events ++ numbered t.graph.next r kinds
  pub next : u.graph.next ≡ t.graph.next + length kinds
  pub setting : HasSameSetting t.graph u.graph
  pub known : u.robots ≡ with_end t.robots r end
  pub deferrals : u.deferrals ≡ with_end_claims (with_pending t.deferrals r None) r claims
  pub owed : u.owed + route_count (pending_of t.deferrals r) ≡ t.owed + length kinds

-- robot r has this route pending
pub record IsDeferred (t u : Tables) (r : ℕ) (pending : Pending) : Type 0 where
  pub graph : u.graph ≡ t.graph
  pub known : u.robots ≡ t.robots
  pub deferrals : u.deferrals ≡ with_pending t.deferrals r (Some pending)
  pub owed : u.owed ≡ t.owed + 1

-- robot r has no route pending
pub record IsDropped (t u : Tables) (r : ℕ) : Type 0 where
  pub graph : u.graph ≡ t.graph
  pub known : u.robots ≡ t.robots
  pub deferrals : u.deferrals ≡ with_pending t.deferrals r None
  pub owed : u.owed + route_count (pending_of t.deferrals r) ≡ t.owed

-- the event is done
pub record IsReported (t u : Tables) (e : Event) : Type 0 where
  pub events : u.graph.events ≡ without_number t.graph.events e.no
  pub next : u.graph.next ≡ t.graph.next
  pub setting : HasSameSetting t.graph u.graph
  pub known : u.robots ≡ after_report t.robots e.robot.0 e.kind
  pub deferrals : u.deferrals ≡ t.deferrals
  pub owed : u.owed + 1 ≡ t.owed

-- robot r has taken back its last events, down to a cell with these claims, and has no route pending
pub record IsCut (t u : Tables) (r count : ℕ) (end : CellNo) (claims : List ClaimNo) : Type 0 where
  pub events : u.graph.events ≡ without_events t.graph.events (tail_of r count t.graph.events)
  pub next : u.graph.next ≡ t.graph.next
  pub setting : HasSameSetting t.graph u.graph
  pub known : u.robots ≡ with_end t.robots r end
  pub deferrals : u.deferrals ≡ with_end_claims (with_pending t.deferrals r None) r claims
  pub owed : u.owed + (count + route_count (pending_of t.deferrals r)) ≡ t.owed
