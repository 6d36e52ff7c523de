use Rattle.std.proofs.Common.{◌≡◌}
use Rattle.fleet_model.specs.Sites.{last_cell, moved_to}
use Rattle.fleet_model.specs.Plans.{cell_of, own, unfinished}
use Rattle.coordinator.specs.Books.{state_of}
use Rattle.coordinator.specs.Endings.{end_without, first_kinds}
use Rattle.coordinator.proofs.coordinator.Coordinator.end_before.Given as goal

abbrev pub invariant-loop-place : goal.invariant-loop-place
invariant-loop-place l =
    end_without (state_of l.self).fleet l.robot.0 l.fn.count ≡ last_cell (cell_of (state_of l.self).fleet l.robot.0) (moved_to (first_kinds l.place (own l.robot.0 (unfinished (state_of l.self).fleet))))
