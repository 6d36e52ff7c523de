use Rattle.std.proofs.Common.{take}
use Rattle.route_plan.specs.Incoming.{AreEntered}
use Rattle.route_plan.proofs.incoming.enter_links.Given as goal

abbrev pub invariant-loop-link : goal.invariant-loop-link
invariant-loop-link l = AreEntered l.from (take l.link-index l.links) l.initial.rows l.rows
