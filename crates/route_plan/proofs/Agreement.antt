-- What the tests of labels along the links of a cell say.
use Rattle.std.proofs.Common.{◌≡◌, ℕ, ◌+◌, ◌-◌, ◌≤◌, Bool, true, false, cond, ◌⊎◌, inl, inr, refl, sym, ap, ◌∙◌, subst, List, [], ◌∷◌, drop, get_or, zero, suc, ◌<◌, Option, Some, None, arith}
use Rattle.std.proofs.lemmas.Bool.{both_ways, and_parts, and_from, cases_Bool, cases_lt, cond-true, cond-false, eqb-true, leb-true, le-leb, false_from_ne_true}
use Rattle.std.proofs.lemmas.List.{get_or-drop, length-map}
use Rattle.std.proofs.lemmas.List.FromFn.{length-map-range_with_len}
use Rattle.std.proofs.lemmas.Option.{same_Some}
use Rattle.std.specs.List.{find, list_all, list_any}
use Rattle.std.specs.Option.{is_none, is_some}
use Rattle.fleet_base.specs.declared.numbers.CellNo.{CellNo}
use Rattle.fleet_base.specs.declared.numbers.Link.{Link}
use Rattle.fleet_model.specs.Lists.{In}
use Rattle.fleet_model.specs.Sites.{Site, IsSite, cell_count, links_from}
use Rattle.fleet_model.proofs.Tests.{any_In, In_any, all_In, In_all, found_In, In_found}
use Rattle.site_map.specs.Cells.{LinksRise}
use Rattle.site_map.specs.Built.{BuiltSite}
use Rattle.site_map.specs.Cells.{cells_below}
use Rattle.site_map.specs.Claims.{footprint_in, site_of}
use Rattle.route_plan.specs.Labels.{label_at, label_of}
use Rattle.route_plan.specs.Tight.{adds_up, agrees, agrees_with, is_nothing, is_tight, is_within, IsNext}
use Rattle.route_plan.proofs.Links.{cost_of_link, find_least, link_of_cost}
use Rattle.route_plan.proofs.LeastLabels.{agreed_label, label_reached, labels_agree, tight_parts, AreAgreed, IsAgreed}

none_is : (o : Option ℕ) → is_none o ≡ true → o ≡ None
none_is None h = refl
none_is (Some e) h = absurd (both_ways false refl h)

is_nothing_is : (o : Option ℕ) → is_nothing o ≡ true → o ≡ Some 0
is_nothing_is None h = absurd (both_ways false refl h)
is_nothing_is (Some e) h = ap (λ n. Some n) (eqb-true e 0 h)

within_parts : (e c d : ℕ) (o : Option ℕ) → o ≡ Some d → is_within e c o ≡ true → e ≤ c + d
within_parts e c d None g h = absurd (cc)
within_parts e c d (Some x) g h = let l = leb-true (e - c) x h in let s = same_Some x d g in omega arith

within_from : (e c : ℕ) (o : Option ℕ) → ((d : ℕ) → o ≡ Some d → e ≤ c + d) → is_within e c o ≡ true
within_from e c None f = refl
within_from e c (Some d) f = let l = f d refl in le-leb (e - c) d (omega arith)

module _ (site : Site) (label : CellNo → Option ℕ) (a : CellNo) (rise : LinksRise 0 (links_from site a)) where
  -- a link from the cell is tight where its cost and the labels add up
  tight_link : (l : Link) → In l (links_from site a) → adds_up (label a) (Some l.cost) (label l.to) ≡ true → is_tight site label a l.to ≡ true
  tight_link l m h = ap (λ o. adds_up (label a) o (label l.to)) (cost_of_link site a rise l m) ∙ h

  -- each tight link is one of the cell's
  link_tight : (b : CellNo) → is_tight site label a b ≡ true → (l : Link) × In l (links_from site a) × (l.to ≡ b) × (adds_up (label a) (Some l.cost) (label l.to) ≡ true)
  link_tight b h =
      let t = tight_parts site label a b h in
      let l = link_of_cost site a b t.cost t.link in
      (l.0, l.1, l.2, ap (λ (x : CellNo). adds_up (label a) (Some l.0.cost) (label x)) l.2 ∙ ap (λ c. adds_up (label a) c (label b)) (ap (λ n. Some n) l.3 ∙ sym t.link) ∙ h)

  abbrev is_next : Link → Bool
  is_next l = adds_up (label a) (Some l.cost) (label l.to)

  -- the first link that is tight leads to the least cell
  pub first_next : (l : Link) → find is_next (links_from site a) ≡ Some l → IsNext site label a l.to
  first_next l h =
      let f = found_In is_next (links_from site a) l h in
      record {
        tight = tight_link l f.0 f.1;
        least = λ x t.
            let k = link_tight x t in
            let b = find_least is_next 0 (links_from site a) l k.0 rise h k.1 k.3 in
            subst (λ (y : CellNo). l.to.0 ≤ y.0) k.2 b;
      }

  pub no_next : find is_next (links_from site a) ≡ None → (x : CellNo) → is_tight site label a x ≡ false
  no_next h x = false_from_ne_true (is_tight site label a x) (λ t.
      let k = link_tight x t in
      both_ways (is_some (find is_next (links_from site a))) (ap is_some h) (In_found is_next (links_from site a) k.1 k.3))

  module _ (goal avoid : CellNo → Bool) where
    -- what the test of a cell out of the goal says
    agreed_with : (o : Option ℕ) → label a ≡ o → agrees_with label (links_from site a) o ≡ true → goal a ≡ false → avoid a ≡ false → IsAgreed site goal avoid label a
    agreed_with None e h away free = record {
      avoided = λ t. e;
      goals = λ _ t. absurd (both_ways (goal a) away t);
      within = λ _ b c d g k.
          let l = link_of_cost site a b c g in
          let n = none_is (label l.0.to) (all_In (λ (x : Link). is_none (label x.to)) (links_from site a) h l.1) in
          let s : label l.0.to ≡ Some d = ap label l.2 ∙ k in
          absurd (cc);
      tight = λ x g _. absurd (cc);
    }
    agreed_with (Some e) s h away free =
        let p = and_parts (list_all (λ l. is_within e l.cost (label l.to)) (links_from site a)) (list_any (λ l. adds_up (Some e) (Some l.cost) (label l.to)) (links_from site a)) h in
        record {
          avoided = λ t. absurd (both_ways (avoid a) free t);
          goals = λ _ t. absurd (both_ways (goal a) away t);
          within = λ _ b c d g k.
              let l = link_of_cost site a b c g in
              let w = all_In (λ (x : Link). is_within e x.cost (label x.to)) (links_from site a) p.0 l.1 in
              let n = within_parts e l.0.cost d (label l.0.to) (ap label l.2 ∙ k) w in
              let z = l.3 in
              (e, s, omega arith);
          tight = λ x g _.
              let l = any_In (λ (y : Link). adds_up (Some e) (Some y.cost) (label y.to)) (links_from site a) p.1 in
              (l.0.to, tight_link l.0 l.1 (ap (λ o. adds_up o (Some l.0.cost) (label l.0.to)) s ∙ l.2));
        }

    -- a cell that passes the test agrees with those that it is linked to
    pub agreed_from : agrees goal avoid label (links_from site a) a ≡ true → IsAgreed site goal avoid label a
    agreed_from h = go (cases_Bool (avoid a)) (cases_Bool (goal a))
      where
        go : (avoid a ≡ true) ⊎ (avoid a ≡ false) → (goal a ≡ true) ⊎ (goal a ≡ false) → IsAgreed site goal avoid label a
        go (inl t) g =
            let n = none_is (label a) (sym (cond-true (avoid a) (is_none (label a)) (cond (goal a) (is_nothing (label a)) (agrees_with label (links_from site a) (label a))) t) ∙ h) in
            record {
              avoided = λ _. n;
              goals = λ free. absurd (both_ways (avoid a) free t);
              within = λ free. absurd (both_ways (avoid a) free t);
              tight = λ x g _. absurd (cc);
            }
        go (inr free) (inl t) =
            let n = is_nothing_is (label a) (sym (cond-true (goal a) (is_nothing (label a)) (agrees_with label (links_from site a) (label a)) t) ∙ sym (cond-false (avoid a) (is_none (label a)) (cond (goal a) (is_nothing (label a)) (agrees_with label (links_from site a) (label a))) free) ∙ h) in
            record {
              avoided = λ t. absurd (both_ways (avoid a) free t);
              goals = λ _ _. n;
              within = λ _ b c d g k. (0, n, omega arith);
              tight = λ x g away. absurd (both_ways (goal a) away t);
            }
        go (inr free) (inr away) =
            agreed_with (label a) refl (sym (cond-false (goal a) (is_nothing (label a)) (agrees_with label (links_from site a) (label a)) away) ∙ sym (cond-false (avoid a) (is_none (label a)) (cond (goal a) (is_nothing (label a)) (agrees_with label (links_from site a) (label a))) free) ∙ h) away free

    with_agreed : (o : Option ℕ) → label a ≡ o → IsAgreed site goal avoid label a → goal a ≡ false → avoid a ≡ false → agrees_with label (links_from site a) o ≡ true
    with_agreed None e is away free = In_all (λ (l : Link). is_none (label l.to)) (links_from site a) (λ l m. none_at l m (label l.to) refl)
      where
        none_at : (l : Link) → In l (links_from site a) → (o : Option ℕ) → label l.to ≡ o → is_none o ≡ true
        none_at l m None g = refl
        none_at l m (Some d) g = let w = is.within free l.to l.cost d (cost_of_link site a rise l m) g in let z = w.1 in absurd (cc)
    with_agreed (Some e) s is away free =
        let t = is.tight e s away in
        let l = link_tight t.0 t.1 in
        and_from (list_all (λ l. is_within e l.cost (label l.to)) (links_from site a)) (list_any (λ l. adds_up (Some e) (Some l.cost) (label l.to)) (links_from site a))
        (In_all (λ (l : Link). is_within e l.cost (label l.to)) (links_from site a) (λ l m. within_from e l.cost (label l.to) (λ d g.
        let w = is.within free l.to l.cost d (cost_of_link site a rise l m) g in
        let z = same_Some e w.0 (sym s ∙ w.1) in
        omega (arith, w.2))))
        (In_any (λ (l : Link). adds_up (Some e) (Some l.cost) (label l.to)) (links_from site a) l.1 (ap (λ o. adds_up o (Some l.0.cost) (label l.0.to)) (sym s) ∙ l.3))

    -- and a cell that agrees passes
    pub from_agreed : IsAgreed site goal avoid label a → agrees goal avoid label (links_from site a) a ≡ true
    from_agreed is = go (cases_Bool (avoid a)) (cases_Bool (goal a))
      where
        go : (avoid a ≡ true) ⊎ (avoid a ≡ false) → (goal a ≡ true) ⊎ (goal a ≡ false) → agrees goal avoid label (links_from site a) a ≡ true
        go (inl t) g = cond-true (avoid a) (is_none (label a)) (cond (goal a) (is_nothing (label a)) (agrees_with label (links_from site a) (label a))) t ∙ ap is_none (is.avoided t)
        go (inr free) (inl t) =
            cond-false (avoid a) (is_none (label a)) (cond (goal a) (is_nothing (label a)) (agrees_with label (links_from site a) (label a))) free
            ∙ cond-true (goal a) (is_nothing (label a)) (agrees_with label (links_from site a) (label a)) t
            ∙ ap is_nothing (is.goals free t)
        go (inr free) (inr away) =
            cond-false (avoid a) (is_none (label a)) (cond (goal a) (is_nothing (label a)) (agrees_with label (links_from site a) (label a))) free
            ∙ cond-false (goal a) (is_nothing (label a)) (agrees_with label (links_from site a) (label a)) away
            ∙ with_agreed (label a) refl is away free

-- the cells of a site are as many as were built
pub cells_of : (site : BuiltSite) → cell_count (site_of site) ≡ site.cells
cells_of site = length-map (cells_below site.cells) (footprint_in site) ∙ length-map-range_with_len (λ (n : ℕ). let c : CellNo = record { 0 = n } in c) 0 site.cells

none_at : (os : List (Option ℕ)) (i : ℕ) → list_all (λ o. is_none o) os ≡ true → get_or os i None ≡ None
none_at [] i h = refl
none_at (o ∷ os) zero h = none_is o (and_parts (is_none o) (list_all (λ o. is_none o) os) h).0
none_at (o ∷ os) (suc i) h = none_at os i (and_parts (is_none o) (list_all (λ o. is_none o) os) h).1

all_none : (os : List (Option ℕ)) → ((i : ℕ) → get_or os i None ≡ None) → list_all (λ o. is_none o) os ≡ true
all_none [] f = refl
all_none (o ∷ os) f = and_from (is_none o) (list_all (λ o. is_none o) os) (ap is_none (f 0)) (all_none os (λ i. f (suc i)))

module _ (site : Site) (goal avoid : CellNo → Bool) (is_site : IsSite site) (labels : List (Option ℕ)) where
  -- labels that agree at each cell of the site, and none behind them, are the labels
  pub labels_right : ((a : CellNo) → a.0 < cell_count site → IsAgreed site goal avoid (label_at labels) a) → list_all (λ o. is_none o) (drop (cell_count site) labels) ≡ true → (a : CellNo) → label_at labels a ≡ label_of site goal avoid a
  labels_right agreed none = agreed_label site goal avoid is_site (label_at labels) (record {
    known = λ a e h. elim (cases_lt a.0 (cell_count site)) [
      | inl l ↦ l
      | inr past ↦
          let sum : cell_count site + (a.0 - cell_count site) ≡ a.0 = omega arith in
          let n = sym (get_or-drop (cell_count site) labels (a.0 - cell_count site) None) ∙ none_at (drop (cell_count site) labels) (a.0 - cell_count site) none in
          let z : label_at labels a ≡ None = ap (λ k. get_or labels k None) (sym sum) ∙ n in
          absurd (cc)
    ];
    agreed = agreed;
  })

  -- and the labels agree and have none behind them
  pub right_labels : ((a : CellNo) → label_at labels a ≡ label_of site goal avoid a) → AreAgreed site goal avoid (label_at labels)
  right_labels right = subst (AreAgreed site goal avoid) (λ i a. sym (right a) i) (labels_agree site goal avoid is_site)

  pub right_end : ((a : CellNo) → label_at labels a ≡ label_of site goal avoid a) → list_all (λ o. is_none o) (drop (cell_count site) labels) ≡ true
  right_end right = all_none (drop (cell_count site) labels) (λ i. get_or-drop (cell_count site) labels i None ∙ past i (label_of site goal avoid (cell i)) refl)
    where
      cell : ℕ → CellNo
      cell i = record { 0 = cell_count site + i }

      past : (i : ℕ) (o : Option ℕ) → label_of site goal avoid (cell i) ≡ o → label_at labels (cell i) ≡ None
      past i None h = right (cell i) ∙ h
      past i (Some e) h = let k = (label_reached site goal avoid is_site (cell i) e h).known in absurd (omega arith)
