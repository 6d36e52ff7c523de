-- How a coordinator is kept.
use Rattle.std.specs.Prelude.{◌≡◌, ◌+◌, ◌<◌, ◌≤◌, All, length, vec_len}
use Rattle.std.specs.Vec.{vec_capacity}
use Rattle.fleet_model.specs.Sites.{IsSite}
use Rattle.fleet_model.specs.Plans.{unfinished}
use Rattle.fleet_model.specs.States.{State, owed}
use Rattle.fleet_model.specs.Good.{IsGood, IsOpening}
use Rattle.fleet_model.specs.Journals.{IsJournal}
use Rattle.fleet_model.specs.Segments.{marks}
use Rattle.fleet_model.specs.Tables.{IsCounted}
use Rattle.site_map.specs.Claims.{site_of}
use Rattle.robot_tables.specs.Robots.{robots_of}
use Rattle.deferral.specs.Laws as deferrals
use Rattle.coordinator.specs.declared.coordinator.Coordinator.TheInside.{Inside}
use Rattle.coordinator.specs.declared.tables.Tables.{Tables}
use Rattle.coordinator.specs.Books.{Book, opening_of, state_of}

-- the book that is kept
abbrev pub shown : Inside → Book
shown c = record { site = c.site; starts = c.from.at.items; pending = c.from.pending.items; first = c.from.next.0; cap = c.cap; journal = c.journal.items }

-- the tables are those of the state
pub record Shows (t : Tables) (s : State) : Type 0 where
  pub robots : t.graph.robots ≡ length s.fleet.starts
  pub groups : t.graph.groups ≡ s.fleet.site.groups
  pub events : t.graph.events ≡ unfinished s.fleet
  pub next : t.graph.next ≡ s.fleet.next
  pub known : t.robots ≡ robots_of s.fleet
  pub deferrals : deferrals.Shows t.deferrals s
  pub routes : length t.deferrals.pending ≡ length s.fleet.starts
  pub ends : length t.deferrals.ends ≡ length s.fleet.starts
  pub owed : t.owed ≡ owed s

-- the state is a good one of the book's fleet, after as many accepted calls as the journal has entries
pub record IsStateOf (s : State) (book : Book) : Type 0 where
  pub site : s.fleet.site ≡ site_of book.site
  pub starts : s.fleet.starts ≡ book.starts
  pub first : s.fleet.first ≡ book.first
  pub cap : s.cap ≡ book.cap
  pub count : s.count ≡ length book.journal
  pub good : IsGood s

-- there are robots, which start in cells of the site, which may open a run, the journal is legal, its state is good and is what the tables show, its marks are kept, and there is room for all that is owed
pub record IsKept (c : Inside) : Type 0 where
  pub site : IsSite (site_of c.site)
  pub counted : IsCounted (site_of c.site)
  pub known : All (λ a. a.0 < c.site.cells) c.from.at.items
  pub opening : IsOpening (site_of c.site) c.from.at.items c.from.pending.items c.from.next.0 c.cap
  pub legal : IsJournal (opening_of (shown c)) c.journal.items
  pub state : IsStateOf (state_of (shown c)) (shown c)
  pub tables : Shows c.tables (state_of (shown c))
  pub marks : c.marks.items ≡ marks (opening_of (shown c)) c.journal.items
  pub room : vec_len c.journal + c.tables.owed ≤ vec_capacity c.journal
  pub some : 0 < length c.from.at.items
  pub few : length c.from.at.items ≤ 64
  pub small : c.cap ≤ 1000000
