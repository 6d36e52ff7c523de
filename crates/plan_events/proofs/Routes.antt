-- A legal route has the shape of one.
use Rattle.std.proofs.Common.{◌≡◌, ℕ, zero, suc, ◌+◌, ◌<◌, ◌≤◌, List, [], ◌∷◌, length, None, ◌∙◌, refl, arith}
use Rattle.std.proofs.lemmas.List.Elements.{All-cons, All-nil}
use Rattle.std.specs.Prelude.{All}
use Rattle.fleet_base.specs.declared.numbers.CellNo.{CellNo}
use Rattle.fleet_model.specs.Sites.{Site, IsSite, IsWalk, IsWalkFrom, cell_count}
use Rattle.fleet_model.specs.Calls.{first_unlinked}
use Rattle.fleet_model.proofs.Shortcuts.{link_within}
use Rattle.plan_events.specs.Shapes.{shape_cause}
use Rattle.plan_events.proofs.Causes.{cause_none, unknown_begin, unknown_end, unknown_more, unknown_on}

none_unknown : (site : Site) (cells : List CellNo) (n at : ℕ) → n + at ≡ length cells → All (λ (c : CellNo). c.0 < cell_count site) cells → unknown_on site cells at ≡ None
none_unknown site cells zero at all known = unknown_end site cells at (omega arith)
none_unknown site cells (suc n) at all known =
    let d : CellNo = record { 0 = 0 } in
    unknown_more site cells at d (omega arith) (known at d (omega arith)) ∙ none_unknown site cells n (at + 1) (omega arith) known

pub none_unlinked : (site : Site) (at : ℕ) (a : CellNo) (bs : List CellNo) → IsWalkFrom site a bs → first_unlinked site at a bs ≡ None
none_unlinked site at a [] walk = refl
none_unlinked site at a (b ∷ bs) walk = rw (walk.0, none_unlinked site (at + 1) b bs walk.1) refl

walk_cells : (site : Site) → IsSite site → (a : CellNo) (bs : List CellNo) → a.0 < cell_count site → IsWalkFrom site a bs → All (λ (c : CellNo). c.0 < cell_count site) (a ∷ bs)
walk_cells site is_site a [] known walk = All-cons (λ (c : CellNo). c.0 < cell_count site) a [] known (All-nil (λ (c : CellNo). c.0 < cell_count site))
walk_cells site is_site a (b ∷ bs) known walk = All-cons (λ (c : CellNo). c.0 < cell_count site) a (b ∷ bs) known (walk_cells site is_site b bs (link_within site is_site a b walk.0).1 walk.1)

-- a walk of 2 to 1,024 cells has no refusal
pub walk_shape : (site : Site) → IsSite site → (cells : List CellNo) → 2 ≤ length cells → length cells ≤ 1024 → IsWalk site cells → shape_cause site cells ≡ None
walk_shape site is_site [] long short walk = absurd (omega arith)
walk_shape site is_site (a ∷ []) long short walk = absurd (omega arith)
walk_shape site is_site (a ∷ b ∷ bs) long short walk =
    let cells : List CellNo = a ∷ b ∷ bs in
    let known = walk_cells site is_site a (b ∷ bs) (link_within site is_site a b walk.0).0 walk in
    cause_none site cells long short (unknown_begin site cells ∙ none_unknown site cells (length cells) 0 (omega arith) known) (none_unlinked site 1 a (b ∷ bs) walk)
