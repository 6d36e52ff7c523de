-- The links of a cell, which ascend, and what the links from it to a cell cost.
use Rattle.std.proofs.Common.{◌≡◌, ℕ, ◌+◌, ◌≤◌, Bool, true, false, ◌==◌, ◌⊎◌, inl, inr, sym, ap, ◌∙◌, subst, List, [], ◌∷◌, Some, arith, eq-eqb, ne_eqb}
use Rattle.std.proofs.lemmas.Bool.{both_ways, cond-true, cond-false, eqb-true, cases_Bool}
use Rattle.std.proofs.lemmas.Option.{same_Some}
use Rattle.std.specs.List.{find}
use Rattle.std.specs.Option.{option_map}
use Rattle.fleet_base.specs.declared.numbers.CellNo.{CellNo}
use Rattle.fleet_base.specs.declared.numbers.Link.{Link}
use Rattle.fleet_model.specs.Lists.{In, here, there}
use Rattle.fleet_model.specs.Sites.{Site, links_from, link_cost}
use Rattle.fleet_model.proofs.Options.{map_some}
use Rattle.fleet_model.proofs.Tests.{found_In}
use Rattle.fleet_model.proofs.SameNumbers.{same_cell}
use Rattle.site_map.specs.Cells.{LinksRise}

-- a link among those that ascend leads to no cell below the first number
pub rise_In : (low : ℕ) (links : List Link) (l : Link) → LinksRise low links → In l links → low ≤ l.to.0
rise_In low [] l rise m = elim m [ ]
rise_In low (k ∷ ks) l rise (here e) = subst (λ (x : Link). low ≤ x.to.0) (sym e) rise.0
rise_In low (k ∷ ks) l rise (there m) = let b = rise_In (k.to.0 + 1) ks l rise.1 m in let a = rise.0 in omega arith

-- the link to a cell is found, where links ascend
find_link : (low : ℕ) (links : List Link) (l : Link) → LinksRise low links → In l links → find (λ k. k.to.0 == l.to.0) links ≡ Some l
find_link low [] l rise m = elim m [ ]
find_link low (k ∷ ks) l rise (here e) =
    cond-true (k.to.0 == l.to.0) (Some k) (find (λ x. x.to.0 == l.to.0) ks) (eq-eqb k.to.0 l.to.0 (ap (λ (x : Link). x.to.0) (sym e)))
    ∙ ap (λ x. Some x) (sym e)
find_link low (k ∷ ks) l rise (there m) =
    let b = rise_In (k.to.0 + 1) ks l rise.1 m in
    cond-false (k.to.0 == l.to.0) (Some k) (find (λ x. x.to.0 == l.to.0) ks) (ne_eqb k.to.0 l.to.0 (λ e. omega arith))
    ∙ find_link (k.to.0 + 1) ks l rise.1 m

-- what is found among links that ascend leads to the least cell of those that pass
pub find_least : (p : Link → Bool) (low : ℕ) (links : List Link) (l k : Link) → LinksRise low links → find p links ≡ Some l → In k links → p k ≡ true → l.to.0 ≤ k.to.0
find_least p low [] l k rise h m t = elim m [ ]
find_least p low (x ∷ xs) l k rise h m t = go (cases_Bool (p x)) m (find_least p (x.to.0 + 1) xs l k rise.1)
  where
    go : (p x ≡ true) ⊎ (p x ≡ false) → In k (x ∷ xs) → (find p xs ≡ Some l → In k xs → p k ≡ true → l.to.0 ≤ k.to.0) → l.to.0 ≤ k.to.0
    go (inl e) (here s) ih =
        let same : x ≡ l = same_Some x l (sym (cond-true (p x) (Some x) (find p xs) e) ∙ h) in
        let a : l.to.0 ≡ x.to.0 = ap (λ (y : Link). y.to.0) (sym same) in
        let b : k.to.0 ≡ x.to.0 = ap (λ (y : Link). y.to.0) s in
        omega arith
    go (inl e) (there n) ih =
        let same : x ≡ l = same_Some x l (sym (cond-true (p x) (Some x) (find p xs) e) ∙ h) in
        let a : l.to.0 ≡ x.to.0 = ap (λ (y : Link). y.to.0) (sym same) in
        let b = rise_In (x.to.0 + 1) xs k rise.1 n in
        omega arith
    go (inr e) (here s) ih = absurd (both_ways (p x) e (ap p (sym s) ∙ t))
    go (inr e) (there n) ih = ih (sym (cond-false (p x) (Some x) (find p xs) e) ∙ h) n t

module _ (site : Site) (a : CellNo) where
  -- each link from a cell costs what the site says
  pub cost_of_link : LinksRise 0 (links_from site a) → (l : Link) → In l (links_from site a) → link_cost site a l.to ≡ Some l.cost
  unfolding link_cost
  cost_of_link rise l m = ap (λ o. option_map (λ (k : Link). k.cost) o) (find_link 0 (links_from site a) l rise m)

  -- what the site says is the cost of a link
  pub link_of_cost : (b : CellNo) (c : ℕ) → link_cost site a b ≡ Some c → (l : Link) × In l (links_from site a) × (l.to ≡ b) × (l.cost ≡ c)
  unfolding link_cost
  link_of_cost b c h =
      let test : Link → Bool = λ l. l.to.0 == b.0 in
      let m = map_some {f = λ (k : Link). k.cost} (find test (links_from site a)) c h in
      let f = found_In test (links_from site a) m.0 m.1 in
      (m.0, f.0, same_cell m.0.to b (eqb-true m.0.to.0 b.0 f.1), m.2)
