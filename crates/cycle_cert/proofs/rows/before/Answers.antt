use Rattle.std.proofs.Common.{◌<◌, ◌≤◌, ◌+◌, subst, sym, ◌∙◌, arith}
use Rattle.std.proofs.lemmas.Bool.{false_from_ne_true}
use Rattle.fleet_base.specs.EdgeSets.{leads}
use Rattle.bit_set.specs.Words.{is_in}
use Rattle.cycle_cert.proofs.Bits.{IsBefore, before_on, before_with, before_without, next_leads, next_none, no_source}
use Rattle.cycle_cert.proofs.rows.before.Goals as goal
use Rattle.cycle_cert.proofs.rows.before.Goals.{then-is_some, else-is_some}

pub loop-robot-preserved : goal.loop-robot-preserved
loop-robot-preserved c =
    let edge = leads c.args.edges.now in
    let set = c.args.set in
    let robot = c.in-Some.robot in
    let known : robot < 64 = c.in-Some.ensures.below in
    let upto : IsBefore edge set c.loop-robot.found robot =
    before_on edge set c.loop-robot.found c.loop-robot.bound robot c.in-Some.ensures.behind (omega arith)
    (λ v from below. no_source edge c.args.sources set v (omega arith) c.requires
    (false_from_ne_true (is_in c.args.sources v) (λ t. let least : robot ≤ v = c.in-Some.ensures.least v from t in absurd (omega arith))))
    c.loop-robot.invariant in
    elim c.if-is_some.branch [
      | then-is_some w ↦
          subst (λ found. IsBefore edge set found (robot + 1)) (sym w.found-is)
          (before_with edge set c.loop-robot.found w.with-found.result robot known w.with-found.ensures
          (next_leads edge set robot c.next_in.result (sym c.is_some.ensures ∙ w.if-is_some.true) c.next_in.ensures.follows c.next_in.ensures.inside) upto)
      | else-is_some w ↦
          subst (λ found. IsBefore edge set found (robot + 1)) (sym w.found-is)
          (before_without edge set c.loop-robot.found robot known
          (next_none c.next_in.result (sym c.is_some.ensures ∙ w.if-is_some.false) c.next_in.ensures.none) upto)
    ]
