-- What holds of the fields of a graph.
use Rattle.std.specs.Prelude.{◌≡◌, ℕ, List, length, Option}
use Rattle.fleet_base.specs.declared.numbers.ClaimGroup.{ClaimGroup}
use Rattle.fleet_base.specs.declared.numbers.Event.{Event}
use Rattle.number_queues.specs.Queues.{Queues}
use Rattle.slot_chains.specs.Slots.{Slots}
use Rattle.event_graph.specs.declared.reach.Reach.{Reach}
use Rattle.event_graph.specs.Graphs.{IsGraph}
use Rattle.event_graph.specs.Reaches.{IsReached}
use Rattle.event_graph.specs.Stores.{events_of, AreKeyed, AreNumbered}

-- the events are queued, the slots chained and numbered, and what is in them is a graph
pub record IsStored (groups : List ClaimGroup) (reaches : List Reach) (slots : List (Option Event)) (robots : Queues) (claims : Slots) (kept next : ℕ) : Type 0 where
  pub keyed : AreKeyed slots robots claims
  pub numbered : AreNumbered slots next
  pub claim_count : claims.chains ≡ length groups
  pub reached : IsReached groups reaches
  pub counted : kept ≡ length (events_of slots)
  pub graph : IsGraph (length robots.queues) groups (events_of slots) next
