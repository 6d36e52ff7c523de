use Rattle.std.specs.FinSet.{empty}
use Rattle.site_map.specs.Claims.{site_of}
use Rattle.coordinator.specs.Replans.{is_shut_in}
use Rattle.coordinator.proofs.ShutCells.{IsFilled}
use Rattle.coordinator.proofs.shut.shut_cells.Given as goal

abbrev pub invariant-loop-number : goal.invariant-loop-number
invariant-loop-number l = IsFilled empty (λ k. is_shut_in l.deferrals (site_of l.site) l.fn.robot.0 (record { 0 = k })) l.shut l.number
