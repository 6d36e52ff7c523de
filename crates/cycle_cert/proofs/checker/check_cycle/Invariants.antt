use Rattle.std.proofs.Common.{drop, ◌≤◌, length}
use Rattle.fleet_base.specs.Lists.{numbers_of}
use Rattle.cycle_cert.specs.Members.{leads_known}
use Rattle.cycle_cert.proofs.Checks.{IsChecked}
use Rattle.cycle_cert.proofs.checker.check_cycle.Given as goal

abbrev pub invariant-loop-place : goal.invariant-loop-place
invariant-loop-place l = (l.place ≤ length l.cycle) × IsChecked (leads_known l.edges) l.initial.next.0 l.next.0 l.seen (drop l.place (numbers_of l.cycle))

abbrev pub decreases-loop-place : goal.decreases-loop-place
decreases-loop-place l = l.place
