use Rattle.std.proofs.Common.{◌∙◌, ◌<◌, length, refl, arith, rules, set, sym, ap, subst, below_more}
use Rattle.std.specs.Prelude.{All, slice_get}
use Rattle.std.specs.Option.{option_to_list}
use Rattle.scenario.specs.Scenarios.{legs_of as goals_of}
use Rattle.site_map.specs.Goals.{IsGoal}
use Rattle.fleet_sim.specs.Drives.{AreCounts}
use Rattle.fleet_sim.proofs.Driving.{IsSound, advanced, cannot, counts_on, count_is, goal_in, goals_in, on_err, quiet, served_told, went_at}
use Rattle.fleet_sim.proofs.drive.advance.Goals as goal

pub loop-number-init : goal.loop-number-init
loop-number-init c = record { same = refl; counts = refl; passed = λ q l. absurd (omega arith) }

pub legs-legs-requires : goal.legs-legs-requires
legs-legs-requires c = let all = c.requires.missions.all in omega arith

pub overflow_cast-number : goal.overflow_cast-number
overflow_cast-number c = search rules

pub index-count-requires : goal.index-count-requires
index-count-requires c = let long = ap length c.loop-number.invariant.counts in let all = c.requires.counts.all in omega arith

pub go_on-requires-clause-known : goal.go_on-requires-clause-known
go_on-requires-clause-known c =
    let known : c.loop-number.number < length c.args.fleet.now.starts = (let r = c.robots-number-end.ensures.starts in omega arith) in
    subst (λ b. c.loop-number.number < length b.starts) (sym c.loop-number.invariant.same) known

pub go_on-requires-clause-goal : goal.go_on-requires-clause-goal
go_on-requires-clause-goal c =
    let known : c.loop-number.number < length c.args.fleet.now.starts = (let r = c.robots-number-end.ensures.starts in omega arith) in
    let leg = c.leg_at-leg.ensures ∙ ap (λ gs. slice_get gs c.index-count.result.now) c.legs-legs.ensures.legs in
    subst (λ b. All (IsGoal b.site) (option_to_list c.leg_at-leg.result)) (sym c.loop-number.invariant.same) (goal_in c.args.fleet.now.site (goals_of c.args.missions.now c.loop-number.number) c.index-count.result.now c.leg_at-leg.result (goals_in c.args.missions.now c.args.fleet.now c.loop-number.number c.requires.missions known) leg)

pub returns-in_err-moved-clause-advanced : goal.returns-in_err-moved-clause-advanced
returns-in_err-moved-clause-advanced c = search rules

pub returns-in_err-moved-clause-counts : goal.returns-in_err-moved-clause-counts
returns-in_err-moved-clause-counts c = search rules

pub returns-in_err-moved-clause-err : goal.returns-in_err-moved-clause-err
returns-in_err-moved-clause-err c =
    on_err _ (c.in_err-moved.ensures.err ∙ c.loop-number.invariant.same)

pub end-requires : goal.end-requires
end-requires c =
    let k = c.journal-kept.ensures in
    let is : IsSound c.args.fleet.now = record { site = k.site; opening = k.opening; legal = k.legal } in
    let known : c.loop-number.number < length c.args.fleet.now.starts = (let r = c.robots-number-end.ensures.starts in omega arith) in
    let count = count_is c.args.missions.now c.args.fleet.now c.args.counts.now.items c.loop-number.counts.items c.loop-number.number c.index-count.result.now c.index-count.result.now c.requires.counts c.loop-number.invariant.counts known c.index-count.ensures in
    let leg = c.leg_at-leg.ensures ∙ ap (λ gs. slice_get gs c.index-count.result.now) c.legs-legs.ensures.legs in
    let went = went_at c.args.fleet.now c.loop-number.fleet c.go_on.new.fleet c.loop-number.number c.leg_at-leg.result c.in_ok-moved.moved c.loop-number.invariant.same c.in_ok-moved.ensures.went in
    let a = advanced c.args.missions.now c.args.fleet.now is c.go_on.new.fleet c.loop-number.number c.index-count.result.now c.leg_at-leg.result c.in_ok-moved.moved c.if-moved.true count leg c.loop-number.invariant.passed went in
    subst (λ b. c.loop-number.number < length b.starts) (sym a.0.adds) known

pub serve_on-served-requires-clause-few : goal.serve_on-served-requires-clause-few
serve_on-served-requires-clause-few c =
    c.legs-legs.ensures.few

pub serve_on-served-requires-clause-goals : goal.serve_on-served-requires-clause-goals
serve_on-served-requires-clause-goals c =
    let k = c.journal-kept.ensures in
    let is : IsSound c.args.fleet.now = record { site = k.site; opening = k.opening; legal = k.legal } in
    let known : c.loop-number.number < length c.args.fleet.now.starts = (let r = c.robots-number-end.ensures.starts in omega arith) in
    let count = count_is c.args.missions.now c.args.fleet.now c.args.counts.now.items c.loop-number.counts.items c.loop-number.number c.index-count.result.now c.index-count.result.now c.requires.counts c.loop-number.invariant.counts known c.index-count.ensures in
    let leg = c.leg_at-leg.ensures ∙ ap (λ gs. slice_get gs c.index-count.result.now) c.legs-legs.ensures.legs in
    let went = went_at c.args.fleet.now c.loop-number.fleet c.go_on.new.fleet c.loop-number.number c.leg_at-leg.result c.in_ok-moved.moved c.loop-number.invariant.same c.in_ok-moved.ensures.went in
    let a = advanced c.args.missions.now c.args.fleet.now is c.go_on.new.fleet c.loop-number.number c.index-count.result.now c.leg_at-leg.result c.in_ok-moved.moved c.if-moved.true count leg c.loop-number.invariant.passed went in
    subst (λ gs. All (IsGoal c.site.result.now) gs) (sym c.legs-legs.ensures.legs) (subst (λ x. All (IsGoal x) (goals_of c.args.missions.now c.loop-number.number)) (sym (c.site.ensures ∙ ap (λ b. b.site) a.0.adds)) (goals_in c.args.missions.now c.args.fleet.now c.loop-number.number c.requires.missions known))

pub set_count-requires : goal.set_count-requires
set_count-requires c =
    let long = ap length c.loop-number.invariant.counts in let all = c.requires.counts.all in let known = c.loop-number-test.true in let r = c.robots-number-end.ensures.starts in omega arith

pub returns-then-moved-clause-counts : goal.returns-then-moved-clause-counts
returns-then-moved-clause-counts c =
    let old = c.args.fleet.now in
    let missions = c.args.missions.now in
    let r = c.loop-number.number in
    let new = c.go_on.new.fleet in
    let n = c.serve_on-served.result in
    let k = c.journal-kept.ensures in
    let is : IsSound old = record { site = k.site; opening = k.opening; legal = k.legal } in
    let known : r < length old.starts = (let r = c.robots-number-end.ensures.starts in omega arith) in
    let count = count_is missions old c.args.counts.now.items c.loop-number.counts.items r c.index-count.result.now c.index-count.result.now c.requires.counts c.loop-number.invariant.counts known c.index-count.ensures in
    let leg = c.leg_at-leg.ensures ∙ ap (λ gs. slice_get gs c.index-count.result.now) c.legs-legs.ensures.legs in
    let went = went_at old c.loop-number.fleet new r c.leg_at-leg.result c.in_ok-moved.moved c.loop-number.invariant.same c.in_ok-moved.ensures.went in
    let a = advanced missions old is new r c.index-count.result.now c.leg_at-leg.result c.in_ok-moved.moved c.if-moved.true count leg c.loop-number.invariant.passed went in
    let served = served_told missions old new r c.index-count.result.now n c.args.counts.now.items c.site.result.now c.legs-legs.result.now c.end.result a.0 c.site.ensures c.legs-legs.ensures.legs c.end.ensures.value count c.requires.counts known c.serve_on-served.ensures in
    let at = counts_on missions old is new r n c.args.counts.now.items a.0 a.1 known c.requires.counts served in
    subst (AreCounts new missions) (sym (c.set_count.ensures ∙ ap (λ xs. set xs r n) c.loop-number.invariant.counts)) at

pub returns-then-moved-clause-advanced : goal.returns-then-moved-clause-advanced
returns-then-moved-clause-advanced c =
    let k = c.journal-kept.ensures in
    let is : IsSound c.args.fleet.now = record { site = k.site; opening = k.opening; legal = k.legal } in
    let known : c.loop-number.number < length c.args.fleet.now.starts = (let r = c.robots-number-end.ensures.starts in omega arith) in
    let count = count_is c.args.missions.now c.args.fleet.now c.args.counts.now.items c.loop-number.counts.items c.loop-number.number c.index-count.result.now c.index-count.result.now c.requires.counts c.loop-number.invariant.counts known c.index-count.ensures in
    let leg = c.leg_at-leg.ensures ∙ ap (λ gs. slice_get gs c.index-count.result.now) c.legs-legs.ensures.legs in
    let went = went_at c.args.fleet.now c.loop-number.fleet c.go_on.new.fleet c.loop-number.number c.leg_at-leg.result c.in_ok-moved.moved c.loop-number.invariant.same c.in_ok-moved.ensures.went in
    let a = advanced c.args.missions.now c.args.fleet.now is c.go_on.new.fleet c.loop-number.number c.index-count.result.now c.leg_at-leg.result c.in_ok-moved.moved c.if-moved.true count leg c.loop-number.invariant.passed went in
    a.0

pub returns-then-moved-clause-err : goal.returns-then-moved-clause-err
returns-then-moved-clause-err c = search rules

pub loop-number-preserved : goal.loop-number-preserved
loop-number-preserved c =
    let k = c.journal-kept.ensures in
    let is : IsSound c.args.fleet.now = record { site = k.site; opening = k.opening; legal = k.legal } in
    let known : c.loop-number.number < length c.args.fleet.now.starts = (let r = c.robots-number-end.ensures.starts in omega arith) in
    let count = count_is c.args.missions.now c.args.fleet.now c.args.counts.now.items c.loop-number.counts.items c.loop-number.number c.index-count.result.now c.index-count.result.now c.requires.counts c.loop-number.invariant.counts known c.index-count.ensures in
    let leg = c.leg_at-leg.ensures ∙ ap (λ gs. slice_get gs c.index-count.result.now) c.legs-legs.ensures.legs in
    let went = went_at c.args.fleet.now c.loop-number.fleet c.go_on.new.fleet c.loop-number.number c.leg_at-leg.result c.in_ok-moved.moved c.loop-number.invariant.same c.in_ok-moved.ensures.went in
    let x = cannot c.args.missions.now c.args.fleet.now is c.go_on.new.fleet c.loop-number.number c.index-count.result.now c.leg_at-leg.result c.in_ok-moved.moved c.if-moved.false count leg went in
    record { same = x.0; counts = c.loop-number.invariant.counts; passed = below_more _ _ c.loop-number.invariant.passed x.1 }

pub returns-clause-advanced : goal.returns-clause-advanced
returns-clause-advanced c =
    let k = c.journal-kept.ensures in
    let is : IsSound c.args.fleet.now = record { site = k.site; opening = k.opening; legal = k.legal } in
    (c.loop-number.invariant.same, quiet c.args.missions.now c.args.fleet.now is (λ q l. c.loop-number.invariant.passed q (let r = c.robots-number-end.ensures.starts in let e = c.loop-number-test.false in omega arith)))

pub returns-clause-counts : goal.returns-clause-counts
returns-clause-counts c =
    subst (λ b. AreCounts b c.args.missions.now c.loop-number.counts.items) (sym c.loop-number.invariant.same) (subst (AreCounts c.args.fleet.now c.args.missions.now) (sym c.loop-number.invariant.counts) c.requires.counts)

pub returns-clause-err : goal.returns-clause-err
returns-clause-err c = search rules
