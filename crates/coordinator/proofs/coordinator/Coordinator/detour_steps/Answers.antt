use Rattle.std.proofs.Common.{◌≡◌, ◌-◌, List, false, length, get_or, ap, sym, subst, ◌∙◌}
use Rattle.fleet_base.specs.declared.entries.Act.TheVariants as act
use Rattle.fleet_base.specs.declared.numbers.CellNo.{CellNo}
use Rattle.fleet_model.specs.Calls.{first_of}
use Rattle.fleet_model.specs.Sites.{steps}
use Rattle.fleet_model.specs.States.{is_full}
use Rattle.fleet_model.proofs.Detours.{detour_route}
use Rattle.route_plan.specs.Labels.{has}
use Rattle.coordinator.specs.Books.{Book, state_of}
use Rattle.coordinator.specs.Merging.{WouldMerge}
use Rattle.coordinator.specs.Replans.{IsDetour}
use Rattle.coordinator.proofs.KeptNext.{site_is, state}
use Rattle.coordinator.proofs.PendingRoutes.{shape_is}
use Rattle.coordinator.proofs.Replans.{detour_merges}
use Rattle.coordinator.proofs.coordinator.Coordinator.detour_steps.Goals as goal

pub event_count-requires : goal.event_count-requires
event_count-requires c =
    let i = c.self.inside in
    let k = c.self.invariant in
    let s = state i k in
    let r = c.args.robot.0 in
    let to = has c.args.goal.now in
    let cells = c.cells-cells.result.now in
    let is : IsDetour s r to cells =
    subst (λ (b : Book). IsDetour (state_of b) r to cells) (sym c.self.view_is)
    (subst (λ (w : List CellNo). IsDetour (state_of c.args.self.now) r to w) (sym c.cells-cells.ensures) c.in_ok-route.ensures.detour) in
    shape_is i k r cells (detour_route s.fleet r to cells (site_is i k) is.away is.found)

pub returns-clause-merges : goal.returns-clause-merges
returns-clause-merges c =
    let i = c.self.inside in
    let k = c.self.invariant in
    let s = state i k in
    let r = c.args.robot.0 in
    let to = has c.args.goal.now in
    let cells = c.cells-cells.result.now in
    let is : IsDetour s r to cells =
    subst (λ (b : Book). IsDetour (state_of b) r to cells) (sym c.self.view_is)
    (subst (λ (w : List CellNo). IsDetour (state_of c.args.self.now) r to w) (sym c.cells-cells.ensures) c.in_ok-route.ensures.detour) in
    let count : c.event_count.result ≡ length (steps s.fleet.site cells) = c.event_count.ensures.count ∙ ap (λ z. length (steps z cells)) (sym k.state.site) in
    let room : is_full s (length (steps s.fleet.site cells)) ≡ false =
    ap (λ n. is_full s n) (sym count) ∙ subst (λ (b : Book). is_full (state_of b) c.event_count.result ≡ false) (sym c.self.view_is) (sym c.is_full.ensures ∙ c.if-is_full.false) in
    let are = c.in-Ok.ensures.steps ∙ ap (λ z. steps z cells) (sym k.state.site) in
    subst (λ (b : Book). WouldMerge (state_of b) r c.in-Ok.kinds.items (get_or cells (length cells - 1) (record { 0 = 0 })) (act.Replanned c.in-Ok-copy_of.path (first_of (state_of b)))) c.self.view_is
    (detour_merges s r to cells c.in-Ok.kinds.items c.in-Ok-copy_of.path (record { 0 = 0 }) (site_is i k) is room are c.in-Ok-copy_of.ensures)
