use Rattle.std.proofs.Common.{◌≡◌, drop}
use Rattle.robot_worker.specs.Legs.{plain_legs}
use Rattle.fleet_outcomes.specs.Courses.{kept_along}
use Rattle.fleet_outcomes.proofs.served.serve_along.Given as goal

abbrev pub invariant-loop-stop : goal.invariant-loop-stop
invariant-loop-stop l = kept_along (plain_legs l.site l.legs) l.count (drop l.stop-index l.stops) ≡ kept_along (plain_legs l.site l.legs) 0 l.stops
