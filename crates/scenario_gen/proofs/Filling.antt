-- The legs, the missions and the links of a drill, one after the other.
use Rattle.std.proofs.Common.{◌≡◌, ℕ, zero, suc, ◌+◌, ◌-◌, ◌*◌, ◌<◌, refl, sym, ap, ◌∙◌, List, [], ◌∷◌, ◌++◌, length, map, replicate, get_or, set, arith, get_or-set_same, Option}
use Rattle.std.proofs.lemmas.List.{length-set}
use Rattle.std.proofs.lemmas.List.FromFn.{map-range_with_len_more}
use Rattle.fleet_base.specs.declared.numbers.Link.{Link}
use Rattle.fleet_model.specs.Lists.{numbers_below}
use Rattle.scenario.specs.Scenarios.{legs_of}
use Rattle.site_map.specs.Built.{BuiltSite}
use Rattle.site_map.specs.declared.goal.Goal.{Goal}
use Rattle.scenario_gen.specs.Draws.{after_draws, drawn}
use Rattle.scenario_gen.specs.Grids.{across, after_link, along, before_cell, links_of, with_drawn}
use Rattle.scenario_gen.specs.Generated.{leg}
use Rattle.scenario_gen.proofs.Drawn.{drawn_twice}
use Rattle.scenario_gen.proofs.Fills.{filled, filled_at, filled_more, length-filled}

-- what is put in one place twice
pub set-set : {X : Type 0} (xs : List X) (i : ℕ) (x y : X) → set (set xs i x) i y ≡ set xs i y
set-set [] i x y = refl
set-set (z ∷ zs) zero x y = refl
set-set (z ∷ zs) (suc i) x y = ap (λ ys. z ∷ ys) (set-set zs i x y)

-- one more leg of a robot
pub record LegMore (old new : List (List Goal)) (r : ℕ) (all : List Goal) : Type 0 where
  pub same : new ≡ set old r (legs_of new r)
  pub legs : legs_of new r ≡ all

pub leg_more : (old m new : List (List Goal)) (r : ℕ) (goal : Goal) → r < length old → m ≡ set old r (legs_of m r) → new ≡ set m r (legs_of m r ++ goal ∷ []) → LegMore old new r (legs_of m r ++ goal ∷ [])
leg_more old m new r goal known same adds = record {
  same = adds ∙ (ap (λ xs. set xs r (legs_of m r ++ goal ∷ [])) same ∙ (set-set old r (legs_of m r) (legs_of m r ++ goal ∷ []) ∙ ap (set old r) (sym legs)));
  legs = legs;
}
  where
    within : r < length m
    within = let e = ap length same ∙ length-set old r (legs_of m r) in omega arith

    legs : legs_of new r ≡ legs_of m r ++ goal ∷ []
    legs = ap (λ xs. legs_of xs r) adds ∙ get_or-set_same m r (legs_of m r ++ goal ∷ []) [] within

-- the legs that are drawn, with the next one
pub drawn_more : (cells x i number next : ℕ) (legs : List Goal) (goal : Goal) → legs ≡ map (λ i. leg cells (after_draws (2 * i) x)) (numbers_below i) → number ≡ after_draws (2 * i) x → goal ≡ leg cells number
    → legs ++ goal ∷ [] ≡ map (λ i. leg cells (after_draws (2 * i) x)) (numbers_below (i + 1))
drawn_more cells x i number next legs goal are at is =
    ap (λ gs. gs ++ goal ∷ []) are
    ∙ (ap (λ g. map (λ i. leg cells (after_draws (2 * i) x)) (numbers_below i) ++ g ∷ []) (is ∙ ap (leg cells) at)
    ∙ sym (map-range_with_len_more (λ i. leg cells (after_draws (2 * i) x)) 0 i i (omega arith)))

pub number_more : (x i number next : ℕ) → number ≡ after_draws (2 * i) x → next ≡ drawn (drawn number) → next ≡ after_draws (2 * (i + 1)) x
number_more x i number next at is = is ∙ (ap (λ n. drawn (drawn n)) at ∙ drawn_twice i x)

-- the links of one more cell
module _ (w h x n c : ℕ) (within : c < n) (rows first second : List (List Link)) (number : ℕ) where
  abbrev row : ℕ → List Link
  row k = links_of w h k (before_cell w h x k)

  pub cell_more : rows ≡ filled row [] n c → number ≡ before_cell w h x c
      → first ≡ set rows c (with_drawn (across w c) number (get_or rows c []))
      → second ≡ set first c (with_drawn (along w h c) (after_link (across w c) number) (get_or first c []))
      → second ≡ map row (numbers_below (c + 1)) ++ replicate (n - (c + 1)) []
  cell_more are at one two =
      two
      ∙ (ap (λ l. set first c (with_drawn (along w h c) (after_link (across w c) number) l)) there
      ∙ (ap (λ xs. set xs c whole) one
      ∙ (set-set rows c (with_drawn (across w c) number (get_or rows c [])) whole
      ∙ (ap (λ xs. set xs c whole) are ∙ filled_more row [] n c whole within (ap (links_of w h c) at)))))
    where
      whole : List Link
      whole = links_of w h c number

      long : c < length rows
      long = let e = ap length are ∙ length-filled row [] n c (omega arith) in omega arith

      there : get_or first c [] ≡ with_drawn (across w c) number []
      there =
          ap (λ xs. get_or xs c []) one
          ∙ (get_or-set_same rows c (with_drawn (across w c) number (get_or rows c [])) [] long
          ∙ ap (with_drawn (across w c) number) (ap (λ xs. get_or xs c []) are ∙ filled_at row [] n c within))

-- the site with the links of one more cell
pub cell_built : (old b one two : BuiltSite) (w h x n c number next : ℕ) (over down : Option ℕ) → c < n → b ≡ record old { links = filled (λ k. links_of w h k (before_cell w h x k)) [] n c } → number ≡ before_cell w h x c
    → over ≡ across w c → one ≡ record b { links = set b.links c (with_drawn over number (get_or b.links c [])) } → next ≡ after_link over number
    → down ≡ along w h c → two ≡ record one { links = set one.links c (with_drawn down next (get_or one.links c [])) }
    → two ≡ record old { links = map (λ k. links_of w h k (before_cell w h x k)) (numbers_below (c + 1)) ++ replicate (n - (c + 1)) [] }
cell_built old b one two w h x n c number next over down within are at is_over first is_next is_down second =
    second
    ∙ (ap (λ (s : BuiltSite). record s { links = set s.links c (with_drawn down next (get_or s.links c [])) }) first
    ∙ (ap (λ (s : BuiltSite). record s { links = set (set s.links c (with_drawn over number (get_or s.links c []))) c (with_drawn down next (get_or (set s.links c (with_drawn over number (get_or s.links c []))) c [])) }) are
    ∙ ap (λ rows. record old { links = rows })
    ((λ i. set (set rows c (with_drawn (is_over i) number (get_or rows c []))) c (with_drawn (is_down i) (is_next i) (get_or (set rows c (with_drawn (is_over i) number (get_or rows c []))) c [])))
    ∙ ((λ i. set (set rows c (with_drawn (across w c) number (get_or rows c []))) c (with_drawn (along w h c) (after_link (is_over i) number) (get_or (set rows c (with_drawn (across w c) number (get_or rows c []))) c [])))
    ∙ cell_more w h x n c within rows (set rows c (with_drawn (across w c) number (get_or rows c [])))
    (set (set rows c (with_drawn (across w c) number (get_or rows c []))) c (with_drawn (along w h c) (after_link (across w c) number) (get_or (set rows c (with_drawn (across w c) number (get_or rows c []))) c [])))
    number refl at refl refl))))
  where
    rows : List (List Link)
    rows = filled (λ k. links_of w h k (before_cell w h x k)) [] n c

-- the number behind the links of one more cell
pub cell_next : (w h x c number next last : ℕ) (over down : Option ℕ) → number ≡ before_cell w h x c → over ≡ across w c → next ≡ after_link over number → down ≡ along w h c → last ≡ after_link down next → last ≡ before_cell w h x (c + 1)
cell_next w h x c number next last over down at is_over is_next is_down is_last =
    let more : suc c ≡ c + 1 = omega arith in
    is_last
    ∙ ((λ i. after_link (is_down i) (is_next i))
    ∙ ((λ i. after_link (along w h c) (after_link (is_over i) (at i)))
    ∙ ap (before_cell w h x) more))
