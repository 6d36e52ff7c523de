-- A walk that comes to a cell twice has a cheaper one; a walk without repeats is short.
use Rattle.std.proofs.Common.{◌≡◌, ℕ, ◌<◌, ◌≤◌, true, false, not, ◌==◌, inl, inr, refl, sym, ap, ◌∙◌, subst, List, [], ◌∷◌, map, length, arith}
use Rattle.std.proofs.lemmas.Bool.{both_ways, and_cases, not-false, eqb-true}
use Rattle.std.proofs.lemmas.List.{length-map}
use Rattle.std.specs.List.{list_any}
use Rattle.std.specs.Option.{unwrap_or}
use Rattle.fleet_base.specs.declared.numbers.CellNo.{CellNo}
use Rattle.fleet_model.specs.Lists.{In, here, there}
use Rattle.fleet_model.specs.Cycles.{are_distinct}
use Rattle.fleet_model.specs.Sites.{Site, IsSite, cell_count, link_cost, is_linked, IsWalkFrom, last_cell}
use Rattle.fleet_model.specs.Routes.{cost_from}
use Rattle.fleet_model.proofs.Lists.{In_unmap}
use Rattle.fleet_model.proofs.Options.{some_of}
use Rattle.fleet_model.proofs.Tests.{any_In}
use Rattle.fleet_model.proofs.SameNumbers.{same_cell}
use Rattle.fleet_model.proofs.Distinct.{distinct_length}

-- no cell comes twice
abbrev pub IsSimple : List CellNo → Type 0
IsSimple cells = are_distinct (map (λ a. a.0) cells) ≡ true

-- the cell is one of those with its number
numbered_In : (a : CellNo) (cells : List CellNo) → list_any (λ q. q == a.0) (map (λ b. b.0) cells) ≡ true → In a cells
numbered_In a cells h =
    let n = any_In (λ (q : ℕ). q == a.0) (map (λ b. b.0) cells) h in
    let b = In_unmap (λ (b : CellNo). b.0) cells n.1 in
    subst (λ c. In c cells) (same_cell b.0 a (sym b.2 ∙ eqb-true n.0 a.0 n.2)) b.1

-- different cells below a number are at most as many
pub pigeons : (n : ℕ) (cells : List CellNo) → IsSimple cells → ((a : CellNo) → In a cells → a.0 < n) → length cells ≤ n
pigeons n cells h below =
    let l : length (map (λ (a : CellNo). a.0) cells) ≡ length cells = length-map cells (λ (a : CellNo). a.0) in
    let few = distinct_length n (map (λ (a : CellNo). a.0) cells) h (λ x m. let a = In_unmap (λ (a : CellNo). a.0) cells m in subst (λ y. y < n) (sym a.2) (below a.0 a.1)) in
    omega arith

module _ (site : Site) where
  -- another walk to the same last cell, from x on, that is cheaper and has no other cells
  pub record Cut (x a : CellNo) (bs : List CellNo) : Type 0 where
    pub cells : List CellNo
    pub walk : IsWalkFrom site x cells
    pub last : last_cell x cells ≡ last_cell a bs
    pub cheaper : cost_from site x cells < cost_from site a bs
    pub shorter : length cells < length bs
    pub within : (y : CellNo) → In y cells → In y bs

  module _ (is_site : IsSite site) where
    -- a link costs at least 1
    pub link_costs : (a b : CellNo) → is_linked site a b ≡ true → 1 ≤ unwrap_or (link_cost site a b) 0
    link_costs a b h =
        let c = some_of (link_cost site a b) h in
        let l = (is_site.links a b c.0 c.1).0 in
        subst (λ o. 1 ≤ unwrap_or o 0) (sym c.1) l

    -- a link joins two cells of the site
    pub link_within : (a b : CellNo) → is_linked site a b ≡ true → (a.0 < cell_count site) × (b.0 < cell_count site)
    link_within a b h = let c = some_of (link_cost site a b) h in let l = is_site.links a b c.0 c.1 in (l.1, l.2)

    -- the part of a walk behind one of its cells
    pub cut : (x a : CellNo) (bs : List CellNo) → In x bs → IsWalkFrom site a bs → Cut x a bs
    cut x a [] m h = elim m [ ]
    cut x a (b ∷ bs) (here e) h =
        let one = link_costs a b h.0 in
        let same : cost_from site x bs ≡ cost_from site b bs = ap (λ c. cost_from site c bs) e in
        record {
          cells = bs;
          walk = subst (λ c. IsWalkFrom site c bs) (sym e) h.1;
          last = ap (λ c. last_cell c bs) e;
          cheaper = omega arith;
          shorter = omega arith;
          within = λ y i. there i;
        }
    cut x a (b ∷ bs) (there m) h =
        let r = cut x b bs m h.1 in
        record {
          cells = r.cells;
          walk = r.walk;
          last = r.last;
          cheaper = omega (arith, r.cheaper);
          shorter = omega (arith, r.shorter);
          within = λ y i. there (r.within y i);
        }

    -- a walk that comes to a cell twice has a cheaper one from its first cell to its last whose cells are all cells of the first
    pub shortcut : (a : CellNo) (bs : List CellNo) → IsWalkFrom site a bs → are_distinct (map (λ c. c.0) (a ∷ bs)) ≡ false → Cut a a bs
    shortcut a [] h k = absurd (both_ways true k refl)
    shortcut a (b ∷ bs) h k =
        elim (and_cases (not (list_any (λ q. q == a.0) (map (λ c. c.0) (b ∷ bs)))) (are_distinct (map (λ c. c.0) (b ∷ bs))) k) [
          | inl t ↦ cut a a (b ∷ bs) (numbered_In a (b ∷ bs) (not-false (list_any (λ q. q == a.0) (map (λ c. c.0) (b ∷ bs))) t)) h
          | inr f ↦ longer a b bs h.0 (shortcut b bs h.1 f)
        ]
      where
        within_more : (b : CellNo) (cells bs : List CellNo) → ((y : CellNo) → In y cells → In y bs) → (y : CellNo) → In y (b ∷ cells) → In y (b ∷ bs)
        within_more b cells bs f y (here e) = here e
        within_more b cells bs f y (there m) = there (f y m)

        longer : (a b : CellNo) (bs : List CellNo) → is_linked site a b ≡ true → Cut b b bs → Cut a a (b ∷ bs)
        longer a b bs h r = record {
          cells = b ∷ r.cells;
          walk = (h, r.walk);
          last = r.last;
          cheaper = omega (arith, r.cheaper);
          shorter = omega (arith, r.shorter);
          within = within_more b r.cells bs r.within;
        }

    -- each later cell of a walk is a cell of the site
    pub walk_within : (a : CellNo) (bs : List CellNo) → IsWalkFrom site a bs → (x : CellNo) → In x bs → x.0 < cell_count site
    walk_within a [] h x m = elim m [ ]
    walk_within a (b ∷ bs) h x (here e) = subst (λ (c : CellNo). c.0 < cell_count site) (sym e) (link_within a b h.0).1
    walk_within a (b ∷ bs) h x (there m) = walk_within b bs h.1 x m

    -- a walk of at least two cells without repeats has no more cells than the site
    pub simple_short : (a b : CellNo) (bs : List CellNo) → IsWalkFrom site a (b ∷ bs) → IsSimple (a ∷ b ∷ bs) → length (a ∷ b ∷ bs) ≤ cell_count site
    simple_short a b bs h k = pigeons (cell_count site) (a ∷ b ∷ bs) k below
      where
        below : (x : CellNo) → In x (a ∷ b ∷ bs) → x.0 < cell_count site
        below x (here e) = subst (λ (c : CellNo). c.0 < cell_count site) (sym e) (link_within a b h.0).0
        below x (there m) = walk_within a (b ∷ bs) h x m

    -- the steps of a walk without repeats are no more than the cells of the site
    pub simple_steps : (a : CellNo) (bs : List CellNo) → IsWalkFrom site a bs → IsSimple (a ∷ bs) → length bs ≤ cell_count site
    simple_steps a [] h k = omega arith
    simple_steps a (b ∷ bs) h k = let l = simple_short a b bs h k in omega arith
