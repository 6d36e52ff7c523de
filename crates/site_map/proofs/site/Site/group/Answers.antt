use Rattle.std.proofs.Common.{◌≡◌, ◌+◌, ◌-◌, ℕ, List, Some, true, map, get_or, take, arith, ap, sym, subst, ◌∙◌}
use Rattle.std.specs.List.{slice_get}
use Rattle.site_map.specs.Built.{BuiltSite, completed_site, no_crossing}
use Rattle.site_map.specs.Claims.{groups_of, is_alone}
use Rattle.site_map.specs.Crossings.{BuiltCrossing, completed, crossing_claims}
use Rattle.site_map.proofs.SiteLemmas.{group_behind_cells, group_of_cell, owner_place}
use Rattle.site_map.proofs.site.Site.group.Goals as goal

pub returns-then-claim-cells : goal.returns-then-claim-cells
returns-then-claim-cells c =
    subst (λ (s : BuiltSite). slice_get (groups_of s) c.args.claim.0 ≡ Some (record { group = c.args.claim.0; alone = true })) c.self.view_is
    (group_of_cell (completed_site c.self.inside.built) c.args.claim.0 (omega (arith, c.cell_count-cells.ensures.count)))

pub returns : goal.returns
returns c =
    let xs : List BuiltCrossing = map completed c.self.inside.built.crossings in
    let k : ℕ = c.crossing_of-crossing.result in
    let before : ℕ = crossing_claims (take k xs) in
    let i : ℕ = c.args.claim.0 - c.cell_count-cells.result - before in
    let owner = c.crossing_of-crossing.ensures in
    let at : c.args.claim.0 ≡ c.self.inside.built.cells + (before + i) = omega (arith, c.cell_count-cells.ensures.count, owner.from) in
    subst (λ (s : BuiltSite). slice_get (groups_of s) c.args.claim.0 ≡ Some (record { group = c.cell_count-cells.result + c.first_of.result; alone = c.is_alone.result })) c.self.view_is
    (ap (slice_get (groups_of (completed_site c.self.inside.built))) at
    ∙ group_behind_cells (completed_site c.self.inside.built) k i owner.known (owner_place xs (c.args.claim.0 - c.cell_count-cells.result) k owner)
    ∙ ap (λ n. Some (record { group = n + before; alone = is_alone (get_or xs k no_crossing) })) (sym c.cell_count-cells.ensures.count)
    ∙ ap (λ n. Some (record { group = c.cell_count-cells.result + n; alone = is_alone (get_or xs k no_crossing) })) (sym c.first_of.ensures.first)
    ∙ ap (λ b. Some (record { group = c.cell_count-cells.result + c.first_of.result; alone = b })) (sym c.is_alone.ensures))
