use Rattle.std.proofs.Common.{◌≡◌, ℕ, ◌||◌, sym, ap, subst, ◌∙◌, arith}
use Rattle.std.specs.FinSet.{contains-empty, empty}
use Rattle.std.specs.Ordering.{nat_cmp}
use Rattle.std.specs.List.{list_any}
use Rattle.fleet_base.specs.declared.numbers.CellNo.{CellNo}
use Rattle.fleet_base.specs.declared.numbers.ClaimNo.{ClaimNo}
use Rattle.fleet_model.specs.Sites.{footprint_of}
use Rattle.site_map.specs.Claims.{site_of}
use Rattle.deferral.specs.Backlogs.{is_kept_from}
use Rattle.coordinator.specs.Replans.{is_shut_in}
use Rattle.coordinator.proofs.ShutCells.{IsFilled, all_filled, none_filled, one_filled, one_left, past_cells}
use Rattle.coordinator.proofs.shut.shut_cells.Goals as goal
use Rattle.coordinator.proofs.shut.shut_cells.Goals.{then-keeps_any, else-keeps_any}

pub loop-number-init : goal.loop-number-init
loop-number-init c =
    let shut = λ (k : ℕ). is_shut_in c.args.deferrals.now (site_of c.args.site.now) c.args.robot.0 (record { 0 = k }) in
    subst (λ s. IsFilled empty shut s 0) (sym c.new-shut.ensures) (none_filled empty shut)

pub loop-number-preserved : goal.loop-number-preserved
loop-number-preserved c =
    let site = site_of c.args.site.now in
    let n = c.loop-number.number in
    let cell : CellNo = record { 0 = n } in
    let shut = λ (k : ℕ). is_shut_in c.args.deferrals.now site c.args.robot.0 (record { 0 = k }) in
    let claims : c.list.result.now ≡ footprint_of site cell = c.list.ensures.claims ∙ c.footprint-footprint.ensures.claims in
    let tested : shut n ≡ c.keeps_any.result =
    sym (c.keeps_any.ensures ∙ ap (list_any (λ (d : ClaimNo). is_kept_from c.args.deferrals.now c.args.robot.0 d.0)) claims) in
    elim c.if-keeps_any.branch [
      | then-keeps_any w ↦ one_filled empty shut c.loop-number.shut n c.loop-number.invariant c.if-keeps_any.shut (w.shut-is ∙ w.put.ensures) (tested ∙ w.if-keeps_any.true)
      | else-keeps_any w ↦ one_left empty shut c.loop-number.shut n c.loop-number.invariant c.if-keeps_any.shut w.shut-is (tested ∙ w.if-keeps_any.false)
    ]

pub returns : goal.returns
returns c = λ a.
    let site = site_of c.args.site.now in
    let shut = λ (k : ℕ). is_shut_in c.args.deferrals.now site c.args.robot.0 (record { 0 = k }) in
    all_filled empty shut c.loop-number.shut c.loop-number.number c.loop-number.invariant
    (λ k past. past_cells c.args.site.now c.args.deferrals.now c.args.robot.0 k (omega (arith, past, c.loop-number-test.false, c.cell_count-number-end.ensures.count))) a.0
    ∙ ap (λ b. b || shut a.0) (contains-empty nat_cmp a.0)
