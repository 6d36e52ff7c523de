use Rattle.std.proofs.Common.{◌≡◌, ◌<◌, ◌+◌, ℕ, subst, sym, false, arith}
use Rattle.deferral.specs.Backlogs.{Backlog, blocks}
use Rattle.deferral.specs.Kept.{shown}
use Rattle.deferral.proofs.Blocks.{blocks_more}
use Rattle.deferral.proofs.deferrals.Deferrals.blocker.Goals as goal

pub loop-claim-preserved : goal.loop-claim-preserved
loop-claim-preserved c =
    let i = c.self.inside in
    let k = c.self.invariant in
    let r = c.args.robot.0 in
    let needs = c.args.needs.now in (
      (let below = c.in-Some.ensures.below in omega arith),
      subst (λ (b : Backlog). (n q : ℕ) → n < c.in-Some.claim.0 + 1 → blocks b r needs n q ≡ false) c.self.view_is
          (blocks_more (shown i) r needs i.tally.kept k.kept_claims k.kept c.loop-claim.from.0 c.in-Some.claim.0 c.in-Some.ensures.least c.in_default-keeper.ensures
          (subst (λ (b : Backlog). (n q : ℕ) → n < c.loop-claim.from.0 → blocks b r needs n q ≡ false) (sym c.self.view_is) c.loop-claim.invariant.1)),
    )
