use Rattle.std.proofs.Common.{◌≡◌, ◌-◌, length}
use Rattle.mission_model.specs.Stops.{serve_on}
use Rattle.robot_worker.specs.Legs.{plain_legs}
use Rattle.robot_worker.proofs.serving.serve_on.Given as goal

abbrev pub invariant-loop-served : goal.invariant-loop-served
invariant-loop-served l = serve_on (plain_legs l.site l.legs) l.cell l.served ≡ serve_on (plain_legs l.site l.legs) l.cell l.count

abbrev pub decreases-loop-served : goal.decreases-loop-served
decreases-loop-served l = length l.legs - l.served
