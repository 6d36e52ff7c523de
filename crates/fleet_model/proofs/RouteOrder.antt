-- The order of routes, by cost and then as lists of cells, is total.
use Rattle.std.proofs.Common.{◌≡◌, ℕ, ◌<◌, true, false, ◌⊎◌, inl, inr, refl, List, map, arith}
use Rattle.fleet_base.specs.declared.numbers.CellNo.{CellNo}
use Rattle.fleet_model.specs.Cycles.{is_upto}
use Rattle.fleet_model.specs.Sites.{Site}
use Rattle.fleet_model.specs.Routes.{walk_cost, route_precedes}
use Rattle.fleet_model.proofs.SameNumbers.{same_cells}
use Rattle.fleet_model.proofs.Dictionary.{upto_parts, upto_less, upto_same, upto_total, upto_trans, upto_one, is_upto_total, is_upto_itself, is_upto_trans, is_upto_one}

-- the cells' numbers
abbrev numbers : List CellNo → List ℕ
numbers v = map (λ a. a.0) v

module _ (site : Site) where
  -- of two routes one isn't behind the other
  pub route_precedes_total : (v w : List CellNo) → route_precedes site v w ≡ false → route_precedes site w v ≡ true
  route_precedes_total v w h = upto_total (walk_cost site v) (walk_cost site w) (is_upto (numbers v) (numbers w)) (is_upto (numbers w) (numbers v)) (is_upto_total (numbers v) (numbers w)) h

  -- a route isn't behind itself
  pub route_precedes_itself : (v : List CellNo) → route_precedes site v v ≡ true
  route_precedes_itself v = upto_same (walk_cost site v) (walk_cost site v) (is_upto (numbers v) (numbers v)) refl (is_upto_itself (numbers v))

  -- what isn't behind a route isn't behind one that is further back
  pub route_precedes_trans : (u v w : List CellNo) → route_precedes site u v ≡ true → route_precedes site v w ≡ true → route_precedes site u w ≡ true
  route_precedes_trans u v w h g =
      upto_trans (walk_cost site u) (walk_cost site v) (walk_cost site w) (is_upto (numbers u) (numbers v)) (is_upto (numbers v) (numbers w)) (is_upto (numbers u) (numbers w)) (is_upto_trans (numbers u) (numbers v) (numbers w)) h g

  -- lists of cells that are not behind each other are one
  pub route_precedes_one : (v w : List CellNo) → route_precedes site v w ≡ true → route_precedes site w v ≡ true → v ≡ w
  route_precedes_one v w h g =
      let p = upto_one (walk_cost site v) (walk_cost site w) (is_upto (numbers v) (numbers w)) (is_upto (numbers w) (numbers v)) h g in
      same_cells v w (is_upto_one (numbers v) (numbers w) p.1 p.2)

  -- a cheaper list comes before
  pub cheaper_precedes : (v w : List CellNo) → walk_cost site v < walk_cost site w → route_precedes site v w ≡ true
  cheaper_precedes v w l = upto_less (walk_cost site v) (walk_cost site w) (is_upto (numbers v) (numbers w)) l

  -- what comes before isn't dearer
  pub precedes_cost : (v w : List CellNo) → route_precedes site v w ≡ true → walk_cost site w < walk_cost site v → ⊥
  precedes_cost v w h l = go (upto_parts (walk_cost site v) (walk_cost site w) (is_upto (numbers v) (numbers w)) h)
    where
      go : (walk_cost site v < walk_cost site w) ⊎ ((walk_cost site v ≡ walk_cost site w) × (is_upto (numbers v) (numbers w) ≡ true)) → ⊥
      go (inl k) = omega arith
      go (inr k) = let e = k.0 in omega arith
