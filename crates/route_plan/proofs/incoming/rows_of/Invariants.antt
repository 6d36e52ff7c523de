use Rattle.site_map.specs.Claims.{site_of}
use Rattle.route_plan.proofs.Entering.{AreIncomingFrom}
use Rattle.route_plan.proofs.incoming.rows_of.Given as goal

abbrev pub invariant-loop-number : goal.invariant-loop-number
invariant-loop-number l = AreIncomingFrom (site_of l.site) l.number l.rows.items
