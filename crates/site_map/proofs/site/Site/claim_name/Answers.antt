use Rattle.std.proofs.Common.{◌≡◌, ◌+◌, ◌-◌, Bool, cond, ℕ, List, Some, None, map, take, arith, ap, sym, subst, ◌∙◌}
use Rattle.std.specs.List.{slice_get}
use Rattle.site_map.specs.declared.names.ClaimName.TheVariants.{Cell, Crossing}
use Rattle.site_map.specs.Built.{BuiltSite, completed_site}
use Rattle.site_map.specs.Claims.{names_of}
use Rattle.site_map.specs.Crossings.{BuiltCrossing, completed, crossing_claims}
use Rattle.site_map.proofs.SiteLemmas.{name_behind_cells, name_of_cell, owner_place}
use Rattle.site_map.proofs.site.Site.claim_name.Goals as goal

pub returns-then-claim-cells : goal.returns-then-claim-cells
returns-then-claim-cells c =
    subst (λ (s : BuiltSite). slice_get (names_of s) c.args.claim.0 ≡ Some (Cell (record { 0 = c.args.claim.0 }))) c.self.view_is
    (name_of_cell (completed_site c.self.inside.built) c.args.claim.0 (omega (arith, c.cell_count-cells.ensures.count)))

pub returns-then-is_alone : goal.returns-then-is_alone
returns-then-is_alone c =
    let xs : List BuiltCrossing = map completed c.self.inside.built.crossings in
    let k : ℕ = c.crossing_of-crossing.result in
    let before : ℕ = crossing_claims (take k xs) in
    let i : ℕ = c.args.claim.0 - c.cell_count-cells.result - before in
    let owner = c.crossing_of-crossing.ensures in
    let at : c.args.claim.0 ≡ c.self.inside.built.cells + (before + i) = omega (arith, c.cell_count-cells.ensures.count, owner.from) in
    subst (λ (s : BuiltSite). slice_get (names_of s) c.args.claim.0 ≡ Some (Crossing k None)) c.self.view_is
    (ap (slice_get (names_of (completed_site c.self.inside.built))) at
    ∙ name_behind_cells (completed_site c.self.inside.built) k i owner.known (owner_place xs (c.args.claim.0 - c.cell_count-cells.result) k owner)
    ∙ ap (λ (b : Bool). Some (Crossing k (cond b None (Some i)))) (sym c.is_alone.ensures ∙ c.if-is_alone.true))

pub returns-else-is_alone : goal.returns-else-is_alone
returns-else-is_alone c =
    let xs : List BuiltCrossing = map completed c.self.inside.built.crossings in
    let k : ℕ = c.crossing_of-crossing.result in
    let before : ℕ = crossing_claims (take k xs) in
    let i : ℕ = c.args.claim.0 - c.cell_count-cells.result - before in
    let owner = c.crossing_of-crossing.ensures in
    let at : c.args.claim.0 ≡ c.self.inside.built.cells + (before + i) = omega (arith, c.cell_count-cells.ensures.count, owner.from) in
    subst (λ (s : BuiltSite). slice_get (names_of s) c.args.claim.0 ≡ Some (Crossing k (Some (c.args.claim.0 - c.cell_count-cells.result - c.first_of.result)))) c.self.view_is
    (ap (slice_get (names_of (completed_site c.self.inside.built))) at
    ∙ name_behind_cells (completed_site c.self.inside.built) k i owner.known (owner_place xs (c.args.claim.0 - c.cell_count-cells.result) k owner)
    ∙ ap (λ (b : Bool). Some (Crossing k (cond b None (Some i)))) (sym c.is_alone.ensures ∙ c.if-is_alone.false)
    ∙ ap (λ n. Some (Crossing k (Some (c.args.claim.0 - c.cell_count-cells.result - n)))) (sym c.first_of.ensures.first))
