-- Each robot is and ends in a cell of the site.
use Rattle.std.proofs.Common.{◌≡◌, ℕ, ◌<◌, sym, ap, subst, ◌∙◌, List, [], ◌∷◌, ◌++◌, map, Some}
use Rattle.std.proofs.lemmas.List.{map-append}
use Rattle.std.specs.Prelude.{slice_get}
use Rattle.fleet_base.specs.declared.numbers.CellNo.{CellNo}
use Rattle.fleet_base.specs.declared.numbers.Event.{Event}
use Rattle.fleet_base.specs.declared.numbers.Kind.{Kind}
use Rattle.fleet_model.specs.Sites.{Site, IsSite, IsWalkFrom, cell_count, last_cell, moved_to, steps_from}
use Rattle.fleet_model.specs.Replays.{AreSteps, IsStanding, Spot, after_kinds, opening, standing, start_at}
use Rattle.fleet_model.specs.Plans.{Fleet, cell_of, end_of, kinds, own}
use Rattle.fleet_model.specs.Good.{IsGoodPlan}
use Rattle.fleet_model.proofs.Alone.{replay_own}
use Rattle.fleet_model.proofs.Steps.{moved_to-append, moved_to-steps}
use Rattle.fleet_model.proofs.Tables.{finished_kept}
use Rattle.coordinator.proofs.WholeWalks.{cell_behind}
use Rattle.fleet_model.proofs.Good.{end_is}
use Rattle.fleet_model.proofs.Shortcuts.{link_within}
use Rattle.fleet_model.proofs.Walks.{start_stands, steps_stand}

-- a walk from a cell of the site ends in one
pub last_known : (site : Site) → IsSite site → (a : CellNo) (bs : List CellNo) → a.0 < cell_count site → IsWalkFrom site a bs → (last_cell a bs).0 < cell_count site
last_known site is_site a [] known walk = known
last_known site is_site a (b ∷ bs) known walk = last_known site is_site b bs (link_within site is_site a b walk.0).1 walk.1

pub end_known : (m : Fleet) → IsSite m.site → IsGoodPlan m → (r : ℕ) (a : CellNo) → slice_get m.starts r ≡ Some a → a.0 < cell_count m.site → (end_of m r).0 < cell_count m.site
end_known m is_site good r a start known =
    let walked : AreSteps m.site (Some a) (kinds r m.plan) = subst (λ o. AreSteps m.site o (kinds r m.plan)) start (good.walks r) in
    let stands : IsStanding m.site (after_kinds (standing m.site a) (steps_from m.site a walked.0)) (last_cell a walked.0) = (steps_stand m.site is_site (standing m.site a) a walked.0 (start_stands m.site is_site a)).1 in
    let same : end_of m r ≡ last_cell a walked.0 =
    end_is m r
    ∙ ap (λ o. (after_kinds (start_at m.site o) (kinds r m.plan)).cell) start
    ∙ ap (λ ks. (after_kinds (standing m.site a) ks).cell) walked.2
    ∙ stands.cell in
    subst (λ (c : CellNo). c.0 < cell_count m.site) (sym same) (last_known m.site is_site a walked.0 known walked.1)

-- a walk from a cell of the site is in one behind each of its beginnings
walk_known : (site : Site) → IsSite site → (a : CellNo) (bs cs : List CellNo) → a.0 < cell_count site → IsWalkFrom site a (bs ++ cs) → (last_cell a bs).0 < cell_count site
walk_known site is_site a [] cs known walk = known
walk_known site is_site a (b ∷ bs) cs known walk = walk_known site is_site b bs cs (link_within site is_site a b walk.0).1 walk.1

-- what a robot has reported is the beginning of its walk
pub cell_known : (m : Fleet) → IsSite m.site → IsGoodPlan m → (r : ℕ) (a : CellNo) → slice_get m.starts r ≡ Some a → a.0 < cell_count m.site → (cell_of m r).0 < cell_count m.site
cell_known m is_site good r a start known =
    let walked : AreSteps m.site (Some a) (kinds r m.plan) = subst (λ o. AreSteps m.site o (kinds r m.plan)) start (good.walks r) in
    let done : List CellNo = moved_to (kinds r m.finished) in
    let split = (finished_kept m good).first r in
    let left : List Kind = map (λ (e : Event). e.kind) split.0 in
    let parts : kinds r m.plan ≡ kinds r m.finished ++ left = ap (map (λ (e : Event). e.kind)) split.1 ∙ map-append (λ (e : Event). e.kind) (own r m.finished) split.0 in
    let cells : walked.0 ≡ done ++ moved_to left =
    sym (moved_to-steps m.site a walked.0)
    ∙ ap moved_to (sym walked.2 ∙ parts)
    ∙ moved_to-append (kinds r m.finished) left in
    let same : cell_of m r ≡ last_cell a done =
    ap (λ (s : Spot). s.cell) (replay_own (opening m.site m.starts) m.finished r)
    ∙ ap (λ o. (after_kinds (start_at m.site o) (kinds r m.finished)).cell) start
    ∙ cell_behind (start_at m.site (Some a)) (kinds r m.finished) in
    subst (λ (c : CellNo). c.0 < cell_count m.site) (sym same)
    (walk_known m.site is_site a done (moved_to left) known (subst (λ cs. IsWalkFrom m.site a cs) cells walked.1))
