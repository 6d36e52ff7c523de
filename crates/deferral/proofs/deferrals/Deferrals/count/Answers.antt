use Rattle.std.proofs.Common.{◌∙◌, ap}
use Rattle.deferral.specs.Backlogs.{Backlog, blocker_count}
use Rattle.deferral.specs.Kept.{shown}
use Rattle.deferral.proofs.Relations.{count_shown}
use Rattle.deferral.proofs.deferrals.Deferrals.count.Goals as goal

pub returns : goal.returns
returns c =
    let i = c.self.inside in
    let k = c.self.invariant in
    c.count.ensures
    ∙ count_shown (shown i) i.tally c.args.from.0 c.args.to.0 k.needed_claims (λ n below. k.needed n c.args.from.0 below) (λ n below. k.kept n c.args.to.0 below)
    ∙ ap (λ (b : Backlog). blocker_count b c.args.from.0 c.args.to.0) c.self.view_is
