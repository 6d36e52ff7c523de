-- The crossings of a grid, one after the other.
use Rattle.std.proofs.Common.{◌≡◌, ℕ, ◌+◌, ◌-◌, ◌*◌, ◌<◌, ◌≤◌, Bool, true, false, cond, refl, sym, ap, ◌∙◌, List, [], ◌∷◌, ◌++◌, length, map, replicate, take, get_or, append_assoc}
use Rattle.std.proofs.lemmas.Bool.{lt-ltb, le-ltb}
use Rattle.std.proofs.lemmas.List.{append-nil, map-append}
use Rattle.std.proofs.lemmas.List.Concat.{flat_map-cons}
use Rattle.std.proofs.lemmas.List.Elements.{filter_more}
use Rattle.std.proofs.lemmas.Grind.{flat_map-append}
use Rattle.std.specs.Prelude.{flat_map, nat_lt}
use Rattle.std.specs.List.{filter}
use Rattle.site_map.specs.Built.{BuiltSite, completed_site, no_site}
use Rattle.site_map.specs.Cells.{in_order}
use Rattle.site_map.specs.Crossings.{BuiltCrossing, completed}
use Rattle.scenario_gen.specs.Grids.{corners, crossing, crossings, crossings_in, links, row_cells, site}

module _ {X : Type 0} (f : ℕ → List X) (p : ℕ → Bool) (xs : List ℕ) (i : ℕ) (within : i < length xs) where
  more : (b : Bool) → p (get_or xs i 0) ≡ b → flat_map f (filter p (take (i + 1) xs)) ≡ flat_map f (filter p (take i xs)) ++ flat_map f (cond b (get_or xs i 0 ∷ []) [])
  more b is =
      ap (flat_map f) (filter_more p xs i 0 within ∙ ap (λ c. filter p (take i xs) ++ cond c (get_or xs i 0 ∷ []) []) is)
      ∙ flat_map-append f (filter p (take i xs)) (cond b (get_or xs i 0 ∷ []) [])

  -- one more number that passes
  pub passed_more : (front : List X) → p (get_or xs i 0) ≡ true → (front ++ flat_map f (filter p (take i xs))) ++ f (get_or xs i 0) ≡ front ++ flat_map f (filter p (take (i + 1) xs))
  passed_more front is =
      append_assoc front (flat_map f (filter p (take i xs))) (f (get_or xs i 0))
      ∙ ap (λ ys. front ++ ys)
      (ap (λ ys. flat_map f (filter p (take i xs)) ++ ys) (sym (flat_map-cons f (get_or xs i 0) [] ∙ append-nil (f (get_or xs i 0)))) ∙ sym (more true is))

  -- one more that doesn't
  pub failed_more : p (get_or xs i 0) ≡ false → flat_map f (filter p (take i xs)) ≡ flat_map f (filter p (take (i + 1) xs))
  failed_more is = sym (append-nil (flat_map f (filter p (take i xs)))) ∙ sym (more false is)

-- crossings without flow lines are complete
row_complete : (cells w y : ℕ) (xs : List ℕ) → map completed (map (λ x. crossing cells w x y) xs) ≡ map (λ x. crossing cells w x y) xs
row_complete cells w y [] = refl
row_complete cells w y (x ∷ xs) = ap (λ qs. crossing cells w x y ∷ qs) (row_complete cells w y xs)

pub all_complete : (cells w : ℕ) (ys : List ℕ) → map completed (flat_map (crossings_in cells w) ys) ≡ flat_map (crossings_in cells w) ys
all_complete cells w [] = refl
all_complete cells w (y ∷ ys) =
    ap (map completed) (flat_map-cons (crossings_in cells w) y ys)
    ∙ (map-append completed (crossings_in cells w y) (flat_map (crossings_in cells w) ys)
    ∙ (ap (λ qs. qs ++ map completed (flat_map (crossings_in cells w) ys)) (row_complete cells w y _)
    ∙ (ap (λ qs. crossings_in cells w y ++ qs) (all_complete cells w ys) ∙ sym (flat_map-cons (crossings_in cells w) y ys))))

-- the crossings of one more row, where it is one of the grid's
pub rows_more : (old b new : BuiltSite) (cells w h : ℕ) (xs : List ℕ) (i : ℕ) → i < length xs → get_or xs i 0 + 1 < h
    → b ≡ record old { crossings = old.crossings ++ flat_map (crossings_in cells w) (filter (λ k. nat_lt (k + 1) h) (take i xs)) }
    → new ≡ record b { crossings = b.crossings ++ crossings_in cells w (get_or xs i 0) }
    → new ≡ record old { crossings = old.crossings ++ flat_map (crossings_in cells w) (filter (λ k. nat_lt (k + 1) h) (take (i + 1) xs)) }
rows_more old b new cells w h xs i within there is adds =
    adds
    ∙ (ap (λ (s : BuiltSite). record s { crossings = s.crossings ++ crossings_in cells w (get_or xs i 0) }) is
    ∙ ap (λ qs. record old { crossings = qs }) (passed_more (crossings_in cells w) (λ k. nat_lt (k + 1) h) xs i within old.crossings (lt-ltb (get_or xs i 0 + 1) h there)))

-- and where it isn't
pub rows_same : (old b : BuiltSite) (cells w h : ℕ) (xs : List ℕ) (i : ℕ) → i < length xs → h ≤ get_or xs i 0 + 1
    → b ≡ record old { crossings = old.crossings ++ flat_map (crossings_in cells w) (filter (λ k. nat_lt (k + 1) h) (take i xs)) }
    → b ≡ record old { crossings = old.crossings ++ flat_map (crossings_in cells w) (filter (λ k. nat_lt (k + 1) h) (take (i + 1) xs)) }
rows_same old b cells w h xs i within past is =
    is ∙ ap (λ qs. record old { crossings = old.crossings ++ qs }) (failed_more (crossings_in cells w) (λ k. nat_lt (k + 1) h) xs i within (le-ltb (get_or xs i 0 + 1) h past))

-- the site that is built step by step
pub built_is : (one two three four out : BuiltSite) (w h x : ℕ)
    → one ≡ record no_site { cells = w * h; links = replicate (w * h) [] }
    → two ≡ record one { crossings = one.crossings ++ crossings w h }
    → three ≡ record two { areas = two.areas ++ in_order (w * h) (row_cells w 0) ∷ in_order (w * h) (row_cells w (h - 1)) ∷ [] }
    → four ≡ record three { links = links w h x }
    → out ≡ completed_site four → out ≡ site w h x
built_is one two three four out w h x e1 e2 e3 e4 e5 =
    e5
    ∙ (ap completed_site e4
    ∙ (ap (λ (s : BuiltSite). completed_site (record s { links = links w h x })) e3
    ∙ (ap (λ (s : BuiltSite). completed_site (record s { areas = s.areas ++ in_order (w * h) (row_cells w 0) ∷ in_order (w * h) (row_cells w (h - 1)) ∷ []; links = links w h x })) e2
    ∙ (ap (λ (s : BuiltSite). completed_site (record s { crossings = s.crossings ++ crossings w h; areas = s.areas ++ in_order (w * h) (row_cells w 0) ∷ in_order (w * h) (row_cells w (h - 1)) ∷ []; links = links w h x })) e1
    ∙ ap (λ qs. record (site w h x) { crossings = qs }) (all_complete (w * h) w (corners h))))))
