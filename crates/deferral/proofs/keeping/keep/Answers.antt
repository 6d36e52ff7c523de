use Rattle.std.proofs.Common.{◌∙◌, ◌+◌, ap, sym, refl, subst, true, arith}
use Rattle.deferral.specs.Tallies.{Marks, IsRemarked}
use Rattle.deferral.proofs.Remarks.{near, near_all, near_already, near_first, near_known, near_more, near_none, near_other}
use Rattle.deferral.proofs.keeping.keep.Goals as goal
use Rattle.deferral.proofs.keeping.keep.Goals.{then-conflict+then-not-keeps, else-conflict, else-conflict-via-then-conflict+else-not-keeps, else-conflict-via-else-conflict}

pub returns-in_default-clause-kept : goal.returns-in_default-clause-kept
returns-in_default-clause-kept c = near_none c.args.groups.now c.args.reaches.now c.requires.reaches c.args.claim c.args.robot.0 c.args.tally.now.kept true c.in_default.ensures.lookup.3

pub loop-number-init : goal.loop-number-init
loop-number-init c = (refl, near_first c.args.groups.now c.args.reaches.now c.requires.reaches c.args.claim c.args.robot.0 c.in-Some.reach.now c.in-Some.ensures.lookup.3.0 c.in-Some.ensures.lookup.1 c.args.tally.now.kept true)

pub keeps-requires-clause-known : goal.keeps-requires-clause-known
keeps-requires-clause-known c =
    let known = near_known c.args.groups.now c.args.reaches.now c.requires.reaches c.args.claim c.args.robot.0 c.in-Some.reach.now c.in-Some.ensures.lookup.3.0 c.in-Some.ensures.lookup.1 c.loop-number.number (omega arith) in
    let long = c.loop-number.invariant.1.long in
    let all = c.requires.claims in
    omega arith

pub add_keeper-requires-clause-known : goal.add_keeper-requires-clause-known
add_keeper-requires-clause-known c =
    let known = near_known c.args.groups.now c.args.reaches.now c.requires.reaches c.args.claim c.args.robot.0 c.in-Some.reach.now c.in-Some.ensures.lookup.3.0 c.in-Some.ensures.lookup.1 c.loop-number.number (omega arith) in
    let long = c.loop-number.invariant.1.long in
    let all = c.requires.claims in
    omega arith

pub loop-number-preserved : goal.loop-number-preserved
loop-number-preserved c =
    let groups = c.args.groups.now in
    let reaches = c.args.reaches.now in
    let robot = c.args.robot.0 in
    let old = c.args.tally.now.kept in
    let cur = c.loop-number.tally.kept in
    let n = c.loop-number.number in
    elim c.if-conflict.branch [
      | then-conflict+then-not-keeps w ↦ (
        ap (λ (m : Marks). m.needed) w.tally-is ∙ (w.add_keeper.ensures.needed ∙ c.loop-number.invariant.0),
        subst (λ (m : Marks). IsRemarked old m.kept (near groups reaches c.requires.reaches c.args.claim robot (n + 1)) true) (sym w.tally-is)
            (near_more groups reaches c.requires.reaches c.args.claim robot old cur w.add_keeper.new.self.kept true n (sym c.conflict.ensures ∙ w.if-conflict.true) c.loop-number.invariant.1 w.add_keeper.ensures.kept),
      )
      | else-conflict w ↦ (
        ap (λ (m : Marks). m.needed) w.tally-is ∙ c.loop-number.invariant.0,
        subst (λ (m : Marks). IsRemarked old m.kept (near groups reaches c.requires.reaches c.args.claim robot (n + 1)) true) (sym w.tally-is)
            (elim w.else-conflict.branch [
              | else-conflict-via-then-conflict+else-not-keeps v ↦ near_already groups reaches c.requires.reaches c.args.claim robot old cur true n (sym c.conflict.ensures ∙ v.if-conflict.true) (sym v.keeps.ensures ∙ v.if-not-keeps.false) c.loop-number.invariant.1
              | else-conflict-via-else-conflict v ↦ near_other groups reaches c.requires.reaches c.args.claim robot old cur true n (sym c.conflict.ensures ∙ v.if-conflict.false) c.loop-number.invariant.1
            ]),
      )
    ]

pub returns-clause-kept : goal.returns-clause-kept
returns-clause-kept c = near_all c.args.groups.now c.args.reaches.now c.requires.reaches c.args.claim c.args.robot.0 c.in-Some.reach.now c.in-Some.ensures.lookup.3.0 c.in-Some.ensures.lookup.1 c.args.tally.now.kept c.loop-number.tally.kept true c.loop-number.number (omega arith) c.loop-number.invariant.1
