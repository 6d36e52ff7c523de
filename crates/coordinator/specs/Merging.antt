-- Merges of routes.
use Rattle.std.specs.Prelude.{◌≡◌, ℕ, ◌+◌, ◌-◌, ◌<◌, false, List, ◌∷◌, length, Some}
use Rattle.fleet_base.specs.declared.entries.Act.{Act}
use Rattle.fleet_base.specs.declared.entries.Act.TheVariants as act
use Rattle.fleet_base.specs.declared.numbers.CellNo.{CellNo}
use Rattle.fleet_base.specs.declared.numbers.EventNo.{EventNo}
use Rattle.fleet_base.specs.declared.numbers.Kind.{Kind}
use Rattle.fleet_base.specs.declared.numbers.Span.{Span}
use Rattle.fleet_model.specs.Sites.{last_cell, steps}
use Rattle.fleet_model.specs.Plans.{IsRoute}
use Rattle.fleet_model.specs.States.{State, is_full}
use Rattle.fleet_model.specs.Calls.{Call, in_segment, turn, with_route}
use Rattle.coordinator.specs.declared.merging.Merging.{Merging}
use Rattle.coordinator.specs.declared.merging.Merging.TheVariants.{Proposed, Retried, Replanned}

-- what the entry of such a merge tells
abbrev pub act_of : Merging → EventNo → Act
act_of (Proposed route) first = act.Merged route first
act_of Retried first = act.Retried first
act_of (Replanned route) first = act.Replanned route first

-- by how much entries and what is owed grow where such an act puts these events into the plan
abbrev pub growth_of : Act → List Kind → ℕ
growth_of (act.Merged route first) kinds = 1 + length kinds
growth_of (act.Deferred route cycle) kinds = 2
growth_of (act.Retried first) kinds = length kinds
growth_of act.Canceled kinds = 0
growth_of (act.Withdrawn removed end) kinds = 0
growth_of (act.Replanned route first) kinds = length kinds
growth_of (act.Reported event) kinds = 0

-- some call of robot r would be accepted, with this act, and put a route into the plan that does this and ends in that cell
pub record WouldMerge (s : State) (r : ℕ) (kinds : List Kind) (end : CellNo) (act : Act) : Type 0 where
  pub start : CellNo
  pub rest : List CellNo
  pub kinds_are : kinds ≡ steps s.fleet.site (start ∷ rest)
  pub end_is : end ≡ last_cell start rest
  pub robot : r < length s.fleet.starts
  pub legal : IsRoute s.fleet r (start ∷ rest)
  pub call : Call
  pub gives : (turn s r call).entry ≡ Some (record { robot = record { 0 = r }; act = act })
  pub room : is_full s (growth_of act kinds) ≡ false
  pub after : (turn s r call).after ≡ in_segment s (growth_of act kinds) (with_route s r (start ∷ rest))

-- the numbers of these events, from the first on
abbrev pub span_from : EventNo → List Kind → Span
span_from first kinds = record { first = first; last = record { 0 = first.0 + length kinds - 1 } }
