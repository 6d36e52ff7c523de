use Rattle.std.proofs.Common.{◌≡◌, ◌<◌, List, length, inl, sym, ap, subst, arith}
use Rattle.std.specs.Prelude.{Err}
use Rattle.fleet_base.specs.declared.answers.ReplanRefused.TheVariants as refused
use Rattle.fleet_base.specs.declared.numbers.CellNo.{CellNo}
use Rattle.fleet_model.specs.Calls.{replan}
use Rattle.fleet_model.specs.Plans.{end_of}
use Rattle.route_plan.specs.Labels.{has}
use Rattle.coordinator.specs.Books.{Book, state_of}
use Rattle.coordinator.specs.Replans.{IsDetour, IsReplanAnswer}
use Rattle.coordinator.proofs.Detouring.{end_below, end_small, is_detour, none_there}
use Rattle.coordinator.proofs.KeptNext.{state}
use Rattle.coordinator.proofs.coordinator.Coordinator.detour.Goals as goal

pub holds-requires : goal.holds-requires
holds-requires c =
    let i = c.self.inside in
    let k = c.self.invariant in
    let r = c.args.robot.0 in
    let known : r < length i.from.at.items = omega (arith, c.if-robot-robots.false, c.robots.ensures.starts, ap (λ (b : Book). length b.starts) c.self.view_is) in
    let ends : c.end-end.result ≡ end_of (state i k).fleet r = subst (λ (b : Book). c.end-end.result ≡ end_of (state_of b).fleet r) (sym c.self.view_is) c.end-end.ensures.value in
    end_small i k r known c.end-end.result ends

pub shut_cells-shut-requires : goal.shut_cells-shut-requires
shut_cells-shut-requires c =
    let i = c.self.inside in
    let k = c.self.invariant in
    omega (arith, c.if-robot-robots.false, c.robots.ensures.starts, ap (λ (b : Book). length b.starts) c.self.view_is, k.tables.routes, ap (λ (l : List CellNo). length l) k.state.starts)

pub least_route-requires : goal.least_route-requires
least_route-requires c =
    let i = c.self.inside in
    let k = c.self.invariant in
    let r = c.args.robot.0 in
    let known : r < length i.from.at.items = omega (arith, c.if-robot-robots.false, c.robots.ensures.starts, ap (λ (b : Book). length b.starts) c.self.view_is) in
    let ends : c.end-end.result ≡ end_of (state i k).fleet r = subst (λ (b : Book). c.end-end.result ≡ end_of (state_of b).fleet r) (sym c.self.view_is) c.end-end.ensures.value in
    end_below i k r known c.end-end.result ends

pub returns-in-Ok-clause-detour : goal.returns-in-Ok-clause-detour
returns-in-Ok-clause-detour c =
    let i = c.self.inside in
    let k = c.self.invariant in
    let r = c.args.robot.0 in
    let known : r < length i.from.at.items = omega (arith, c.if-robot-robots.false, c.robots.ensures.starts, ap (λ (b : Book). length b.starts) c.self.view_is) in
    let ends : c.end-end.result ≡ end_of (state i k).fleet r = subst (λ (b : Book). c.end-end.result ≡ end_of (state_of b).fleet r) (sym c.self.view_is) c.end-end.ensures.value in
    subst (λ (b : Book). IsDetour (state_of b) r (has c.args.goal.now) c.in-Ok.route.path) c.self.view_is
    (is_detour i k r known c.end-end.result ends (has c.args.goal.now) (has c.shut_cells-shut.result) c.shut_cells-shut.ensures c.if-not-is_waiting.ensures c.if-holds.ensures c.in-Ok.route.path c.in-Ok.ensures.found.path)

pub returns-in-Err-Unreachable-clause-refused : goal.returns-in-Err-Unreachable-clause-refused
returns-in-Err-Unreachable-clause-refused c =
    let i = c.self.inside in
    let k = c.self.invariant in
    let r = c.args.robot.0 in
    let known : r < length i.from.at.items = omega (arith, c.if-robot-robots.false, c.robots.ensures.starts, ap (λ (b : Book). length b.starts) c.self.view_is) in
    let ends : c.end-end.result ≡ end_of (state i k).fleet r = subst (λ (b : Book). c.end-end.result ≡ end_of (state_of b).fleet r) (sym c.self.view_is) c.end-end.ensures.value in
    subst (λ (b : Book). IsReplanAnswer (Err refused.NoDetour) (replan (state_of b) r (has c.args.goal.now)).answer) c.self.view_is
    (inl (sym (none_there i k r known c.end-end.result ends (has c.args.goal.now) (has c.shut_cells-shut.result) c.shut_cells-shut.ensures c.if-not-is_waiting.ensures c.if-holds.ensures (c.in-Err-Unreachable.ensures.unreachable c.in-Err-Unreachable.field-0-is))))
