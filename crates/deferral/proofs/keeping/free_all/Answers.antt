use Rattle.std.proofs.Common.{◌∙◌, false}
use Rattle.deferral.proofs.Remarks.{list_more}
use Rattle.deferral.proofs.keeping.free_all.Goals as goal

pub loop-claim-preserved : goal.loop-claim-preserved
loop-claim-preserved c = (
  c.free.ensures.needed ∙ c.loop-claim.invariant.0,
  list_more c.args.groups.now c.args.claims.now c.args.robot.0 c.loop-claim.claim-index _ c.args.tally.now.kept c.loop-claim.tally.kept c.free.new.tally.kept false c.loop-claim-test.true c.loop-claim.invariant.1 c.free.ensures.kept,
)
