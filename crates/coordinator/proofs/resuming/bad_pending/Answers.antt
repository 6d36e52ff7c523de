use Rattle.std.proofs.Common.{◌≡◌, false, get_or, sym, subst, ◌∙◌}
use Rattle.site_map.specs.Claims.{site_of}
use Rattle.coordinator.specs.Openings.{is_bad}
use Rattle.coordinator.proofs.Resumed.{bad_past}
use Rattle.coordinator.proofs.resuming.bad_pending.Goals as goal

pub loop-robot-preserved : goal.loop-robot-preserved
loop-robot-preserved c =
    let fine = subst (λ o. is_bad (site_of c.args.site.now) (get_or c.args.at.now c.loop-robot.robot (record { 0 = 0 })) o ≡ false) c.index-pending-robot.is (sym c.is_bad.ensures ∙ c.if-is_bad.false) in
    c.loop-robot.invariant
    ∙ bad_past (site_of c.args.site.now) c.args.at.now c.args.pending.now c.loop-robot.robot (record { 0 = 0 }) c.index-pending-robot.result c.loop-robot-test.true c.requires.places fine
