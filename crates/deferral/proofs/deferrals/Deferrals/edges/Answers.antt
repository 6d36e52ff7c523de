use Rattle.std.proofs.Common.{◌∙◌, ap, arith}
use Rattle.deferral.specs.Backlogs.{Backlog, is_deferred_on}
use Rattle.deferral.specs.Kept.{shown}
use Rattle.deferral.proofs.Relations.{relation_shown}
use Rattle.deferral.proofs.deferrals.Deferrals.edges.Goals as goal

pub returns : goal.returns
returns c = λ r q.
    let i = c.self.inside in
    let k = c.self.invariant in
    c.edges.ensures r q
    ∙ relation_shown (shown i) i.tally r q k.robots (let e = k.ends in let n = k.robots in omega arith) k.needed_claims (λ n below. k.needed n r below) (λ n below. k.kept n q below)
    ∙ ap (λ (b : Backlog). is_deferred_on b r q) c.self.view_is
