use Rattle.std.proofs.Common.{take}
use Rattle.std.specs.List.{All}
use Rattle.site_map.specs.Claims.{claim_total}
use Rattle.plan_events.specs.Clashes.{IsEventOf}
use Rattle.plan_events.proofs.replay.tests.are_known.Given as goal

abbrev pub invariant-loop-event : goal.invariant-loop-event
invariant-loop-event l = All (IsEventOf 2 l.site.cells (claim_total l.site)) (take l.event-index l.events)
