use Rattle.std.proofs.Common.{length, map, replicate, None, ap, ◌∙◌, refl}
use Rattle.fleet_base.specs.declared.numbers.ClaimGroup.{ClaimGroup}
use Rattle.fleet_model.specs.Sites.{footprint_of}
use Rattle.site_map.specs.Claims.{site_of}
use Rattle.deferral.specs.Backlogs.{Backlog}
use Rattle.std.proofs.Common.{List}
use Rattle.coordinator.proofs.OpeningShown.{opening_shown}
use Rattle.coordinator.proofs.opening.tables_of.Goals as goal

pub returns-clause-tables : goal.returns-clause-tables
returns-clause-tables c = λ cap.
    let starts = c.args.starts.now in
    let site = site_of c.args.site.now in
    let groups = c.deref.ensures.value ∙ c.in_ok-groups.ensures.groups in
    let groups' = c.deref-2.ensures.value ∙ c.in_ok-groups.ensures.groups in
    opening_shown site starts c.args.next.0 cap c.cell_count-cells.ensures.site c.cell_count-cells.ensures.counted
    (record { graph = c.in_ok-new.field-0; robots = c.in_ok-new-2.field-0; deferrals = c.tell_starts.new.deferrals; owed = 0 })
    c.in_ok-new.ensures.robots (c.in_ok-new.ensures.groups ∙ groups') c.in_ok-new.ensures.events c.in_ok-new.ensures.next
    c.in_ok-new-2.ensures.ends c.in_ok-new-2.ensures.places c.in_ok-new-2.ensures.holdings
    (c.tell_starts.ensures
    ∙ ap (λ (b : Backlog). record b { ends = map (footprint_of site) starts }) c.in_ok-deferrals.ensures
    ∙ ap (λ (gs : List ClaimGroup). record { groups = gs; pending = replicate (length starts) None; ends = map (footprint_of site) starts }) groups)
    refl
