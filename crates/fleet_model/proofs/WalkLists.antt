-- The walks of at most so many steps are all listed, and nothing else is.
use Rattle.std.proofs.Common.{◌≡◌, ℕ, zero, suc, ◌+◌, ◌≤◌, Bool, true, ◌==◌, refl, sym, ap, ◌∙◌, subst, List, [], ◌∷◌, map, length, Option, Some, arith, eq-eqb}
use Rattle.std.proofs.lemmas.Bool.{eqb-true}
use Rattle.std.specs.Prelude.{slice_get}
use Rattle.std.specs.List.{find}
use Rattle.fleet_base.specs.declared.numbers.CellNo.{CellNo}
use Rattle.fleet_base.specs.declared.numbers.Link.{Link}
use Rattle.fleet_model.specs.Lists.{In, here, there}
use Rattle.fleet_model.specs.Sites.{Site, links_from, link_cost, is_linked, IsWalk, IsWalkFrom}
use Rattle.fleet_model.specs.Routes.{walks}
use Rattle.fleet_model.proofs.Lists.{In-map, In_unmap, In-flat_map, In_unflat_map}
use Rattle.fleet_model.proofs.Options.{some_of, is_some-map}
use Rattle.fleet_model.proofs.Tests.{found_In, In_found}
use Rattle.fleet_model.proofs.SameNumbers.{same_cell}

module _ (site : Site) where
  -- a cell is linked to another where a link from it leads there
  pub link_of : (a b : CellNo) → is_linked site a b ≡ true → (l : Link) × In l (links_from site a) × (l.to ≡ b)
  unfolding link_cost
  link_of a b h =
      let test : Link → Bool = λ l. l.to.0 == b.0 in
      let o : Option Link = find test (links_from site a) in
      let l = some_of o (sym (is_some-map (λ (l : Link). l.cost) o) ∙ h) in
      let f = found_In test (links_from site a) l.0 l.1 in
      (l.0, f.0, same_cell l.0.to b (eqb-true l.0.to.0 b.0 f.1))

  -- each link leads to a cell that is linked
  pub link_to : (a : CellNo) (l : Link) → In l (links_from site a) → is_linked site a l.to ≡ true
  unfolding link_cost
  link_to a l m =
      let test : Link → Bool = λ k. k.to.0 == l.to.0 in
      is_some-map (λ (k : Link). k.cost) (find test (links_from site a)) ∙ In_found test (links_from site a) m (eq-eqb l.to.0 l.to.0 refl)

  -- a list that is a walk from a
  pub record WalkFrom (n : ℕ) (a : CellNo) (w : List CellNo) : Type 0 where
    pub rest : List CellNo
    pub is : w ≡ a ∷ rest
    pub walk : IsWalkFrom site a rest
    pub short : length rest ≤ n

  -- the walks that are listed begin with a and have at most n steps
  pub walk_of : (n : ℕ) (a : CellNo) (w : List CellNo) → In w (walks site n a) → WalkFrom n a w
  walk_of zero a w (here e) = record { rest = []; is = e; walk = tt; short = omega arith }
  walk_of zero a w (there m) = elim m [ ]
  walk_of (suc n) a w (here e) = record { rest = []; is = e; walk = tt; short = omega arith }
  walk_of (suc n) a w (there m) =
      let l = In_unflat_map (λ (l : Link). map (λ v. a ∷ v) (walks site n l.to)) (links_from site a) m in
      let v = In_unmap (λ (v : List CellNo). a ∷ v) (walks site n l.0.to) l.2 in
      let r = walk_of n l.0.to v.0 v.1 in
      record {
        rest = l.0.to ∷ r.rest;
        is = v.2 ∙ ap (λ (u : List CellNo). a ∷ u) r.is;
        walk = (link_to a l.0 l.1, r.walk);
        short = omega (arith, r.short);
      }

  -- each walk from a of at most n steps is listed
  pub walk_in : (n : ℕ) (a : CellNo) (rest : List CellNo) → IsWalkFrom site a rest → length rest ≤ n → In (a ∷ rest) (walks site n a)
  walk_in zero a [] h l = here refl
  walk_in zero a (b ∷ bs) h l = absurd (omega arith)
  walk_in (suc n) a [] h l = here refl
  walk_in (suc n) a (b ∷ bs) h l =
      let k = link_of a b h.0 in
      let m : In (b ∷ bs) (walks site n k.0.to) = subst (λ (c : CellNo). In (b ∷ bs) (walks site n c)) (sym k.2) (walk_in n b bs h.1 (omega arith)) in
      there (In-flat_map (λ (l : Link). map (λ v. a ∷ v) (walks site n l.to)) (links_from site a) k.1 (In-map (λ (v : List CellNo). a ∷ v) (walks site n k.0.to) m))

  -- a list among the walks begins with a, is a walk and has at most n + 1 cells
  pub walks_begin : (n : ℕ) (a : CellNo) (w : List CellNo) → In w (walks site n a) → (slice_get w 0 ≡ Some a) × IsWalk site w × (length w ≤ n + 1)
  walks_begin n a w m =
      let r = walk_of n a w m in
      let back : a ∷ r.rest ≡ w = sym r.is in
      (ap (λ (v : List CellNo). slice_get v 0) r.is, subst (IsWalk site) back r.walk, subst (λ (v : List CellNo). length v ≤ n + 1) back (omega (arith, r.short)))

  -- each list that begins with a, is a walk and has at most n + 1 cells is among the walks
  pub In_walks : (n : ℕ) (a : CellNo) (w : List CellNo) → slice_get w 0 ≡ Some a → IsWalk site w → length w ≤ n + 1 → In w (walks site n a)
  In_walks n a [] h k l = absurd (cc)
  In_walks n a (b ∷ bs) h k l = let e : b ≡ a = cc in subst (λ (c : CellNo). In (b ∷ bs) (walks site n c)) e (walk_in n b bs k (omega arith))
