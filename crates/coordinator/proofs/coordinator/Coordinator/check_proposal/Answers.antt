use Rattle.std.proofs.Common.{◌≡◌, ◌<◌, true, false, length, ap, sym, subst, ◌∙◌, arith}
use Rattle.std.specs.Prelude.{Err, Ok}
use Rattle.fleet_base.specs.declared.answers.ProposeRefused.TheVariants as refused
use Rattle.fleet_model.specs.Sites.{steps}
use Rattle.plan_events.specs.Shapes as shapes
use Rattle.site_map.specs.Claims.{site_of}
use Rattle.coordinator.specs.Books.{Book, state_of}
use Rattle.coordinator.specs.Proposals.{early_cause, refused_or}
use Rattle.coordinator.proofs.KeptNext.{robot_is}
use Rattle.coordinator.proofs.MergedRoutes.{tables_known}
use Rattle.coordinator.proofs.Proposing.{cause_is}
use Rattle.coordinator.proofs.coordinator.Coordinator.check_proposal.Goals as goal

pub end-end-requires : goal.end-end-requires
end-end-requires c =
    let i = c.self.inside in
    let k = c.self.invariant in
    let r = c.args.robot.0 in
    let cells = c.args.cells.now in
    let known : r < length i.from.at.items = omega (arith, c.if-robot-robots.false, c.robots.ensures.starts, ap (λ (b : Book). length b.starts) c.self.view_is) in
    tables_known i k r (robot_is i k r known)

pub returns-then-ne-clause-answer : goal.returns-then-ne-clause-answer
returns-then-ne-clause-answer c =
    let i = c.self.inside in
    let k = c.self.invariant in
    let r = c.args.robot.0 in
    let cells = c.args.cells.now in
    let known : r < length i.from.at.items = omega (arith, c.if-robot-robots.false, c.robots.ensures.starts, ap (λ (b : Book). length b.starts) c.self.view_is) in
    let cause = cause_is i k r cells known c.if-is_waiting.ensures c.in-Ok.ensures.accepted c.end-end.result c.end-end.ensures (record { 0 = 0 }) true c.if-ne.ensures in
    subst (λ (b : Book). Err (refused.BadStart c.end-end.result) ≡ refused_or (early_cause (state_of b) r cells) (length (steps (site_of b.site) cells))) c.self.view_is
    (ap (λ o. refused_or o (length (steps (site_of i.site) cells))) (sym cause))

pub returns-clause-answer : goal.returns-clause-answer
returns-clause-answer c =
    let i = c.self.inside in
    let k = c.self.invariant in
    let r = c.args.robot.0 in
    let cells = c.args.cells.now in
    let known : r < length i.from.at.items = omega (arith, c.if-robot-robots.false, c.robots.ensures.starts, ap (λ (b : Book). length b.starts) c.self.view_is) in
    let cause = cause_is i k r cells known c.if-is_waiting.ensures c.in-Ok.ensures.accepted c.end-end.result c.end-end.ensures (record { 0 = 0 }) false c.if-ne.ensures in
    let told : Ok c.in-Ok.events ≡ Ok (length (steps (site_of i.site) cells)) = c.in-Ok.ensures.answer ∙ ap (λ o. shapes.refused_or o (length (steps (site_of i.site) cells))) c.in-Ok.ensures.accepted in
    let count : c.in-Ok.events ≡ length (steps (site_of i.site) cells) = cc in
    subst (λ (b : Book). Ok c.from-events.result ≡ refused_or (early_cause (state_of b) r cells) (length (steps (site_of b.site) cells))) c.self.view_is
    (ap (λ n. Ok n) (c.from-events.ensures ∙ count) ∙ ap (λ o. refused_or o (length (steps (site_of i.site) cells))) (sym cause))
