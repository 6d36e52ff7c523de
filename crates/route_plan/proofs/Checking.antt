-- Which routes the check accepts.
use Rattle.std.proofs.Common.{◌≡◌, ℕ, ◌<◌, Bool, true, false, eqb, refl, sym, ap, ◌∙◌, subst, List, [], ◌∷◌, Option, Some, None, arith}
use Rattle.std.proofs.lemmas.Option.{same_Some}
use Rattle.std.proofs.lemmas.Bool.{both_ways, eqb-true, eq-eqb}
use Rattle.std.specs.Option.{option_eq}
use Rattle.fleet_base.specs.declared.numbers.CellNo.{CellNo}
use Rattle.fleet_model.specs.Sites.{Site, IsSite, cell_count}
use Rattle.fleet_model.specs.Routes.{walk_cost}
use Rattle.fleet_model.proofs.LeastRoutes.{least_route_found}
use Rattle.fleet_model.proofs.SameNumbers.{same_cell}
use Rattle.route_plan.specs.Labels.{label_at, label_of, LabelledRoute, IsLeastWithLabels}
use Rattle.route_plan.specs.Tight.{IsNext, IsDescentFrom}
use Rattle.route_plan.proofs.LeastLabels.{descent, descent_cost, descent_least, label_of_cost}
use Rattle.route_plan.proofs.Agreement.{right_labels}

-- one cell is next at most
pub one_next : (site : Site) (label : CellNo → Option ℕ) (a b c : CellNo) → IsNext site label a b → IsNext site label a c → b ≡ c
one_next site label a b c h g = let p = h.least c g.tight in let q = g.least b h.tight in same_cell b c (omega arith)

-- the test of two labels
pub same_label : (o : Option ℕ) (n : ℕ) → option_eq eqb o (Some n) ≡ true → o ≡ Some n
same_label None n h = absurd (both_ways false refl h)
same_label (Some m) n h = ap (λ k. Some k) (eqb-true m n h)

pub label_same : (o : Option ℕ) (n : ℕ) → o ≡ Some n → option_eq eqb o (Some n) ≡ true
label_same o n h = ap (λ p. option_eq eqb p (Some n)) h ∙ eq-eqb n n refl

module _ (site : Site) (goal avoid : CellNo → Bool) (is_site : IsSite site) (from : CellNo) (known : from.0 < cell_count site) where
  module _ (route : LabelledRoute) where
    -- a route whose cells, cost and labels pass is the least one
    pub passed_least : ((c : CellNo) → label_at route.labels c ≡ label_of site goal avoid c) → label_at route.labels from ≡ Some route.cost → IsDescentFrom site (label_at route.labels) from route.path → IsLeastWithLabels site goal avoid from route
    passed_least labels cost steps = go route.path refl steps
      where
        go : (cells : List CellNo) → route.path ≡ cells → IsDescentFrom site (label_at route.labels) from cells → IsLeastWithLabels site goal avoid from route
        go [] e d = absurd d
        go (x ∷ rest) e d =
            let are = right_labels site goal avoid is_site route.labels labels in
            let least = descent_least site goal avoid is_site (label_at route.labels) are from rest d.1 known in
            let path : from ∷ rest ≡ route.path = ap (λ y. y ∷ rest) (sym d.0) ∙ sym e in
            record {
              path = least_route_found site goal avoid from is_site (from ∷ rest) least ∙ ap (λ cells. Some cells) path;
              cost = same_Some route.cost (walk_cost site route.path) (sym cost ∙ descent_cost site goal avoid is_site (label_at route.labels) are from rest d.1 ∙ ap (λ cells. Some (walk_cost site cells)) path);
              labels = labels;
            }

    -- and the least one passes
    pub least_cost : IsLeastWithLabels site goal avoid from route → label_at route.labels from ≡ Some route.cost
    least_cost h = h.labels from ∙ label_of_cost site goal avoid is_site from known route.path h.path ∙ ap (λ n. Some n) (sym h.cost)

    pub least_steps : IsLeastWithLabels site goal avoid from route → IsDescentFrom site (label_at route.labels) from route.path
    least_steps h =
        let are = right_labels site goal avoid is_site route.labels h.labels in
        let d = descent site goal avoid is_site (label_at route.labels) are route.cost from route.cost (omega arith) (least_cost h) in
        let least = descent_least site goal avoid is_site (label_at route.labels) are from d.0 d.1 known in
        let path : route.path ≡ from ∷ d.0 = same_Some route.path (from ∷ d.0) (sym h.path ∙ least_route_found site goal avoid from is_site (from ∷ d.0) least) in
        subst (IsDescentFrom site (label_at route.labels) from) (sym path) (refl, d.1)
