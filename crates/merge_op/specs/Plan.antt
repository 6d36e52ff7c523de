-- A plan of two robots on a row of five cells, which the tests go through.
use Rattle.std.specs.Prelude.{◌≡◌, ℕ, List}
use Rattle.fleet_base.specs.declared.numbers.Event.{Event}
use Rattle.event_graph.specs.Graphs.{Graph}
use Rattle.event_graph.specs.Example.{example_groups}

-- the graph has these unfinished events and this next number
pub record IsPlan (g : Graph) (number : ℕ) (planned : List Event) : Type 0 where
  pub robots : g.robots ≡ 2
  pub groups : g.groups ≡ example_groups
  pub events : g.events ≡ planned
  pub next : g.next ≡ number
