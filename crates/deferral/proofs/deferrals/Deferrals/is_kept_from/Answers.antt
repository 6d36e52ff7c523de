use Rattle.std.proofs.Common.{◌≡◌, ◌∙◌, ap, refl, Option, None, Some}
use Rattle.std.specs.Option.{is_some, option_map}
use Rattle.fleet_base.specs.declared.numbers.RobotNo.{RobotNo}
use Rattle.deferral.specs.Backlogs.{Backlog, is_kept_from}
use Rattle.deferral.specs.Kept.{shown}
use Rattle.deferral.proofs.Blocks.{keeper_tells}
use Rattle.deferral.proofs.deferrals.Deferrals.is_kept_from.Goals as goal

mapped : (o : Option RobotNo) → is_some o ≡ is_some (option_map (λ by. by.0) o)
mapped None = refl
mapped (Some by) = refl

pub returns : goal.returns
returns c =
    let i = c.self.inside in
    let k = c.self.invariant in
    c.is_some.ensures
    ∙ mapped c.keeper.result
    ∙ keeper_tells (shown i) c.args.robot.0 i.tally.kept k.kept_claims k.kept c.args.claim.0 (option_map (λ by. by.0) c.keeper.result) c.keeper.ensures
    ∙ ap (λ (b : Backlog). is_kept_from b c.args.robot.0 c.args.claim.0) c.self.view_is
