-- Labels that agree with each other are the least costs, and the steps along tight links are the least route.
use Rattle.std.proofs.Common.{◌≡◌, ℕ, zero, suc, ◌+◌, ◌<◌, ◌≤◌, Bool, true, false, cond, not, ◌⊎◌, inl, inr, refl, sym, ap, ◌∙◌, subst, List, [], ◌∷◌, map, Option, Some, None, arith, eq-eqb}
use Rattle.std.proofs.lemmas.Bool.{both_ways, and_parts, and_from, cases_Bool, cond-true, cond-false, eqb-true, lt-ltb, le-ltb, not-true, not_from_false, false_from_ne_true, cases_lt, cases_order}
use Rattle.std.proofs.lemmas.Option.{same_Some}
use Rattle.std.specs.Prelude.{nat_lt, slice_get}
use Rattle.std.specs.List.{list_all}
use Rattle.std.specs.Option.{option_map, unwrap_or}
use Rattle.fleet_base.specs.declared.numbers.CellNo.{CellNo}
use Rattle.fleet_model.specs.Cycles.{is_upto}
use Rattle.fleet_model.specs.Sites.{Site, IsSite, cell_count, link_cost, is_linked, IsWalk, IsWalkFrom, last_cell}
use Rattle.fleet_model.specs.Routes.{cost_from, walk_cost, route_precedes, leads_to, IsLeastRoute, least_route}
use Rattle.fleet_model.proofs.Options.{some_of}
use Rattle.fleet_model.proofs.SameNumbers.{same_cell}
use Rattle.fleet_model.proofs.Dictionary.{upto_less, upto_same}
use Rattle.fleet_model.proofs.RouteOrder.{cheaper_precedes, precedes_cost}
use Rattle.fleet_model.proofs.LeastRoutes.{least_route_least, least_route_none, least_route_found}
use Rattle.route_plan.specs.Labels.{label_of}
use Rattle.route_plan.specs.Tight.{adds_up, is_tight, IsNext, IsDescent}

-- the parts of a sum
adds_up_parts : (o p q : Option ℕ) → adds_up o p q ≡ true → (e c d : ℕ) × (o ≡ Some e) × (p ≡ Some c) × (q ≡ Some d) × (e ≡ c + d)
adds_up_parts None p q h = absurd (both_ways false refl h)
adds_up_parts (Some e) None q h = absurd (both_ways false refl h)
adds_up_parts (Some e) (Some c) None h = absurd (both_ways false refl h)
adds_up_parts (Some e) (Some c) (Some d) h = (e, c, d, refl, refl, refl, eqb-true e (c + d) h)

adds_up_from : (o p q : Option ℕ) (e c d : ℕ) → o ≡ Some e → p ≡ Some c → q ≡ Some d → e ≡ c + d → adds_up o p q ≡ true
adds_up_from o p q e c d h g k s = rw (h, g, k) (eq-eqb e (c + d) s)

-- one of the numbers below n is the least that passes, or none of them passes
first_below : (p : ℕ → Bool) (n : ℕ) → ((m : ℕ) × (p m ≡ true) × ((k : ℕ) → p k ≡ true → m ≤ k)) ⊎ ((k : ℕ) → k < n → p k ≡ false)
first_below p zero = inr (λ k l. absurd (omega arith))
first_below p (suc n) = go (first_below p n) (cases_Bool (p n))
  where
    go : ((m : ℕ) × (p m ≡ true) × ((k : ℕ) → p k ≡ true → m ≤ k)) ⊎ ((k : ℕ) → k < n → p k ≡ false) → (p n ≡ true) ⊎ (p n ≡ false) → ((m : ℕ) × (p m ≡ true) × ((k : ℕ) → p k ≡ true → m ≤ k)) ⊎ ((k : ℕ) → k < suc n → p k ≡ false)
    go (inl f) c = inl f
    go (inr f) (inl t) = inl (n, t, λ k h. elim (cases_lt k n) [ inl l ↦ absurd (both_ways (p k) (f k l) h) | inr g ↦ g ])
    go (inr f) (inr e) = inr (λ k l. elim (cases_order k n) [ inl s ↦ ap p s ∙ e | inr (inl b) ↦ f k b | inr (inr a) ↦ absurd (omega arith) ])

module _ (site : Site) where
  -- a tight link: what it costs, and the labels at its ends
  pub record Tight (label : CellNo → Option ℕ) (a b : CellNo) : Type 0 where
    pub cost : ℕ
    pub rest : ℕ
    pub link : link_cost site a b ≡ Some cost
    pub behind : label b ≡ Some rest
    pub here : label a ≡ Some (cost + rest)

  pub tight_parts : (label : CellNo → Option ℕ) (a b : CellNo) → is_tight site label a b ≡ true → Tight label a b
  tight_parts label a b h =
      let p = adds_up_parts (label a) (link_cost site a b) (label b) h in
      record { cost = p.1; rest = p.2; link = p.4; behind = p.5; here = p.3 ∙ ap (λ n. Some n) p.6 }

  pub tight_from : (label : CellNo → Option ℕ) (a b : CellNo) (e c d : ℕ) → label a ≡ Some e → link_cost site a b ≡ Some c → label b ≡ Some d → e ≡ c + d → is_tight site label a b ≡ true
  tight_from label a b e c d h g k s = adds_up_from (label a) (link_cost site a b) (label b) e c d h g k s

  -- where a link from a cell is tight, one of those leads to the least cell
  next_of : (label : CellNo → Option ℕ) (a b : CellNo) → is_tight site label a b ≡ true → (m : CellNo) × IsNext site label a m
  next_of label a b h = go (first_below (λ k. is_tight site label a (cell k)) (b.0 + 1))
    where
      cell : ℕ → CellNo
      cell k = record { 0 = k }

      go : ((m : ℕ) × (is_tight site label a (cell m) ≡ true) × ((k : ℕ) → is_tight site label a (cell k) ≡ true → m ≤ k)) ⊎ ((k : ℕ) → k < b.0 + 1 → is_tight site label a (cell k) ≡ false) → (m : CellNo) × IsNext site label a m
      go (inl f) = (cell f.0, record { tight = f.1; least = λ x t. f.2 x.0 t })
      go (inr f) = absurd (both_ways (is_tight site label a b) (f b.0 (omega arith)) h)

  -- a linked step costs what its link costs
  step_cost : (a b : CellNo) (bs : List CellNo) (c : ℕ) → link_cost site a b ≡ Some c → cost_from site a (b ∷ bs) ≡ c + cost_from site b bs
  step_cost a b bs c h = ap (λ o. unwrap_or o 0 + cost_from site b bs) h

  linked : (a b : CellNo) (c : ℕ) → link_cost site a b ≡ Some c → is_linked site a b ≡ true
  linked a b c h = rw h refl

module _ (goal avoid : CellNo → Bool) where
  -- a walk that leads to the goal from its second cell on does so from the first, if that isn't to be avoided
  leads_more : (a b : CellNo) (bs : List CellNo) → avoid a ≡ false → leads_to goal avoid (b ∷ bs) ≡ true → leads_to goal avoid (a ∷ b ∷ bs) ≡ true
  leads_more a b bs free h =
      let p = and_parts (goal (last_cell b bs)) (list_all (λ x. not (avoid x)) (b ∷ bs)) h in
      and_from (goal (last_cell b bs)) (list_all (λ x. not (avoid x)) (a ∷ b ∷ bs)) p.0 (and_from (not (avoid a)) (list_all (λ x. not (avoid x)) (b ∷ bs)) (not_from_false (avoid a) free) p.1)

  -- its first cell isn't to be avoided
  leads_free : (a : CellNo) (bs : List CellNo) → leads_to goal avoid (a ∷ bs) ≡ true → avoid a ≡ false
  leads_free a bs h =
      let p = and_parts (goal (last_cell a bs)) (list_all (λ x. not (avoid x)) (a ∷ bs)) h in
      not-true (avoid a) (and_parts (not (avoid a)) (list_all (λ x. not (avoid x)) bs) p.1).0

  -- and from the second cell on it leads there too
  leads_rest : (a b : CellNo) (bs : List CellNo) → leads_to goal avoid (a ∷ b ∷ bs) ≡ true → leads_to goal avoid (b ∷ bs) ≡ true
  leads_rest a b bs h =
      let p = and_parts (goal (last_cell b bs)) (list_all (λ x. not (avoid x)) (a ∷ b ∷ bs)) h in
      let q = and_parts (not (avoid a)) (list_all (λ x. not (avoid x)) (b ∷ bs)) p.1 in
      and_from (goal (last_cell b bs)) (list_all (λ x. not (avoid x)) (b ∷ bs)) p.0 q.1

  -- a walk of one cell leads to the goal where the cell is in it and isn't to be avoided
  leads_one : (a : CellNo) → goal a ≡ true → avoid a ≡ false → leads_to goal avoid (a ∷ []) ≡ true
  leads_one a h free = and_from (goal a) (list_all (λ x. not (avoid x)) (a ∷ [])) h (and_from (not (avoid a)) true (not_from_false (avoid a) free) refl)

  leads_goal : (a : CellNo) → leads_to goal avoid (a ∷ []) ≡ true → goal a ≡ true
  leads_goal a h = (and_parts (goal a) (list_all (λ x. not (avoid x)) (a ∷ [])) h).0

module _ (site : Site) (goal avoid : CellNo → Bool) where
  -- the label of a cell agrees with those of the cells that it is linked to
  pub record IsAgreed (label : CellNo → Option ℕ) (a : CellNo) : Type 0 where
    pub avoided : avoid a ≡ true → label a ≡ None
    pub goals : avoid a ≡ false → goal a ≡ true → label a ≡ Some 0
    pub within : avoid a ≡ false → (b : CellNo) (c d : ℕ) → link_cost site a b ≡ Some c → label b ≡ Some d → (e : ℕ) × (label a ≡ Some e) × (e ≤ c + d)
    pub tight : (e : ℕ) → label a ≡ Some e → goal a ≡ false → (b : CellNo) × (is_tight site label a b ≡ true)

  -- cells of the site alone have labels, and they all agree
  pub record AreAgreed (label : CellNo → Option ℕ) : Type 0 where
    pub known : (a : CellNo) (e : ℕ) → label a ≡ Some e → a.0 < cell_count site
    pub agreed : (a : CellNo) → a.0 < cell_count site → IsAgreed label a

  module _ (is_site : IsSite site) where
    module _ (label : CellNo → Option ℕ) (are : AreAgreed label) where
      -- no walk to the goal costs less than the label of its first cell
      pub label_least : (a : CellNo) (bs : List CellNo) → a.0 < cell_count site → IsWalkFrom site a bs → leads_to goal avoid (a ∷ bs) ≡ true → (e : ℕ) × (label a ≡ Some e) × (e ≤ cost_from site a bs)
      label_least a [] known walk leads = (0, (are.agreed a known).goals (leads_free goal avoid a [] leads) (leads_goal goal avoid a leads), omega arith)
      label_least a (b ∷ bs) known walk leads =
          let c = some_of (link_cost site a b) walk.0 in
          let l = is_site.links a b c.0 c.1 in
          let r = label_least b bs l.2 walk.1 (leads_rest goal avoid a b bs leads) in
          let s = (are.agreed a known).within (leads_free goal avoid a (b ∷ bs) leads) b c.0 r.0 c.1 r.1 in
          let k = step_cost site a b bs c.0 c.1 in
          (s.0, s.1, omega (arith, s.2, r.2, k))

      -- a cell with a label isn't to be avoided
      label_free : (a : CellNo) (e : ℕ) → label a ≡ Some e → avoid a ≡ false
      label_free a e h = false_from_ne_true (avoid a) (λ t. let n = (are.agreed a (are.known a e h)).avoided t in absurd (cc))

      -- the label of a cell out of the goal isn't 0
      label_goal : (a : CellNo) → label a ≡ Some 0 → goal a ≡ true
      label_goal a h = go (cases_Bool (goal a))
        where
          go : (goal a ≡ true) ⊎ (goal a ≡ false) → goal a ≡ true
          go (inl t) = t
          go (inr f) =
              let b = (are.agreed a (are.known a 0 h)).tight 0 h f in
              let t = tight_parts site label a b.0 b.1 in
              let l = (is_site.links a b.0 t.cost t.link).0 in
              let e = same_Some 0 (t.cost + t.rest) (sym h ∙ t.here) in
              absurd (omega arith)

      -- from each cell with a label steps along tight links lead down to 0
      pub descent : (n : ℕ) (a : CellNo) (e : ℕ) → e ≤ n → label a ≡ Some e → (bs : List CellNo) × IsDescent site label a bs
      descent zero a e few h =
          elim (cases_Bool (goal a)) [
            | inl t ↦ ([], (are.agreed a (are.known a e h)).goals (label_free a e h) t)
            | inr f ↦
                let b = (are.agreed a (are.known a e h)).tight e h f in
                let t = tight_parts site label a b.0 b.1 in
                let l = (is_site.links a b.0 t.cost t.link).0 in
                let s = same_Some e (t.cost + t.rest) (sym h ∙ t.here) in
                absurd (omega arith)
          ]
      descent (suc m) a e few h =
          elim (cases_Bool (goal a)) [
            | inl t ↦ ([], (are.agreed a (are.known a e h)).goals (label_free a e h) t)
            | inr f ↦
                let b = (are.agreed a (are.known a e h)).tight e h f in
                let x = next_of site label a b.0 b.1 in
                let t = tight_parts site label a x.0 (x.1).tight in
                let l = (is_site.links a x.0 t.cost t.link).0 in
                let s = same_Some e (t.cost + t.rest) (sym h ∙ t.here) in
                let r = descent m x.0 t.rest (omega arith) t.behind in
                (x.0 ∷ r.0, (x.1, r.1))
          ]

      -- a label without a tight link is 0
      pub no_tight : (a : CellNo) (e : ℕ) → label a ≡ Some e → ((x : CellNo) → is_tight site label a x ≡ false) → e ≡ 0
      no_tight a e h none =
          elim (cases_Bool (goal a)) [
            | inl t ↦ same_Some e 0 (sym h ∙ (are.agreed a (are.known a e h)).goals (label_free a e h) t)
            | inr f ↦
                let b = (are.agreed a (are.known a e h)).tight e h f in
                absurd (both_ways (is_tight site label a b.0) (none b.0) b.1)
          ]

      -- what steps along tight links are: a walk to the goal, which costs the label of its first cell
      pub descent_walk : (a : CellNo) (bs : List CellNo) → IsDescent site label a bs → IsWalkFrom site a bs
      descent_walk a [] h = tt
      descent_walk a (b ∷ bs) h = let t = tight_parts site label a b h.0.tight in (linked site a b t.cost t.link, descent_walk b bs h.1)

      pub descent_leads : (a : CellNo) (bs : List CellNo) → IsDescent site label a bs → leads_to goal avoid (a ∷ bs) ≡ true
      descent_leads a [] h = leads_one goal avoid a (label_goal a h) (label_free a 0 h)
      descent_leads a (b ∷ bs) h = let t = tight_parts site label a b h.0.tight in leads_more goal avoid a b bs (label_free a (t.cost + t.rest) t.here) (descent_leads b bs h.1)

      pub descent_cost : (a : CellNo) (bs : List CellNo) → IsDescent site label a bs → label a ≡ Some (cost_from site a bs)
      descent_cost a [] h = h
      descent_cost a (b ∷ bs) h =
          let t = tight_parts site label a b h.0.tight in
          let d = same_Some t.rest (cost_from site b bs) (sym t.behind ∙ descent_cost b bs h.1) in
          t.here ∙ ap (λ n. Some (t.cost + n)) d ∙ ap (λ n. Some n) (sym (step_cost site a b bs t.cost t.link))

      -- no walk to the goal that costs as little comes before them
      descent_first : (a : CellNo) (bs cs : List CellNo) → a.0 < cell_count site → IsDescent site label a bs → IsWalkFrom site a cs → leads_to goal avoid (a ∷ cs) ≡ true → cost_from site a cs ≤ cost_from site a bs → is_upto (map (λ x. x.0) bs) (map (λ x. x.0) cs) ≡ true
      descent_first a [] cs known h walk leads few = refl
      descent_first a (b ∷ bs) [] known h walk leads few =
          let t = tight_parts site label a b h.0.tight in
          let l = (is_site.links a b t.cost t.link).0 in
          let z = (are.agreed a known).goals (leads_free goal avoid a [] leads) (leads_goal goal avoid a leads) in
          let s = same_Some 0 (t.cost + t.rest) (sym z ∙ t.here) in
          absurd (omega arith)
      descent_first a (b ∷ bs) (x ∷ xs) known h walk leads few =
          let t = tight_parts site label a b h.0.tight in
          let c = some_of (link_cost site a x) walk.0 in
          let l = is_site.links a x c.0 c.1 in
          let more = leads_rest goal avoid a x xs leads in
          let r = label_least x xs l.2 walk.1 more in
          let w = (are.agreed a known).within (leads_free goal avoid a (x ∷ xs) leads) x c.0 r.0 c.1 r.1 in
          let e : w.0 ≡ cost_from site a (b ∷ bs) = same_Some w.0 (cost_from site a (b ∷ bs)) (sym w.1 ∙ descent_cost a (b ∷ bs) h) in
          let k = step_cost site a x xs c.0 c.1 in
          let sum : w.0 ≡ c.0 + r.0 = omega (arith, w.2, r.2, e, k, few) in
          let tight = tight_from site label a x w.0 c.0 r.0 w.1 c.1 r.1 sum in
          let first = h.0.least x tight in
          let rest : cost_from site x xs ≤ r.0 = omega (arith, w.2, e, k, few, sum) in
          elim (cases_order b.0 x.0) [
            | inl same ↦
                let s : b ≡ x = same_cell b x same in
                let d : label b ≡ Some r.0 = ap label s ∙ r.1 in
                let f = same_Some r.0 (cost_from site b bs) (sym d ∙ descent_cost b bs h.1) in
                let m : cost_from site b xs ≡ cost_from site x xs = ap (λ y. cost_from site y xs) s in
                upto_same b.0 x.0 (is_upto (map (λ y. y.0) bs) (map (λ y. y.0) xs)) same
                (descent_first b bs xs (is_site.links a b t.cost t.link).2 h.1 (subst (λ y. IsWalkFrom site y xs) (sym s) walk.1) (subst (λ y. leads_to goal avoid (y ∷ xs) ≡ true) (sym s) more) (omega arith))
            | inr (inl below) ↦ upto_less b.0 x.0 (is_upto (map (λ y. y.0) bs) (map (λ y. y.0) xs)) below
            | inr (inr above) ↦ absurd (omega arith)
          ]

      -- and they are the least route
      pub descent_least : (a : CellNo) (bs : List CellNo) → IsDescent site label a bs → a.0 < cell_count site → IsLeastRoute site goal avoid a (a ∷ bs)
      descent_least a bs h known = record {
        begins = refl;
        linked = descent_walk a bs h;
        leads = descent_leads a bs h;
        least = other_behind;
      }
        where
          same_begin : (x : CellNo) (cs : List CellNo) → x ≡ a → IsWalkFrom site x cs → leads_to goal avoid (x ∷ cs) ≡ true → route_precedes site (a ∷ bs) (x ∷ cs) ≡ true
          same_begin x cs s walk leads =
              let l = label_least x cs (subst (λ (y : CellNo). y.0 < cell_count site) (sym s) known) walk leads in
              let e = same_Some l.0 (cost_from site a bs) (sym l.1 ∙ ap label s ∙ descent_cost a bs h) in
              let num : a.0 ≡ x.0 = ap (λ (y : CellNo). y.0) (sym s) in
              let walk_a : IsWalkFrom site a cs = subst (λ y. IsWalkFrom site y cs) s walk in
              let leads_a : leads_to goal avoid (a ∷ cs) ≡ true = subst (λ y. leads_to goal avoid (y ∷ cs) ≡ true) s leads in
              let m : cost_from site a cs ≡ cost_from site x cs = ap (λ y. cost_from site y cs) (sym s) in
              elim (cases_order (cost_from site a bs) (cost_from site x cs)) [
                | inl same ↦
                    upto_same (cost_from site a bs) (cost_from site x cs) (is_upto (map (λ y. y.0) (a ∷ bs)) (map (λ y. y.0) (x ∷ cs))) same
                    (upto_same a.0 x.0 (is_upto (map (λ y. y.0) bs) (map (λ y. y.0) cs)) num (descent_first a bs cs known h walk_a leads_a (omega arith)))
                | inr (inl below) ↦ cheaper_precedes site (a ∷ bs) (x ∷ cs) below
                | inr (inr above) ↦ absurd (omega (arith, l.2))
              ]

          other_behind : (other : List CellNo) → slice_get other 0 ≡ Some a → IsWalk site other → leads_to goal avoid other ≡ true → route_precedes site (a ∷ bs) other ≡ true
          other_behind [] b w l = absurd (cc)
          other_behind (x ∷ cs) b w l = same_begin x cs (same_Some x a b) w l

      -- so labels that agree are the labels
      pub agreed_label : (a : CellNo) → label a ≡ label_of site goal avoid a
      unfolding label_of
      agreed_label a = go (cases_lt a.0 (cell_count site)) (label a) refl (least_route site goal avoid a) refl
        where
          go : (a.0 < cell_count site) ⊎ (cell_count site ≤ a.0) → (o : Option ℕ) → label a ≡ o → (r : Option (List CellNo)) → least_route site goal avoid a ≡ r → o ≡ cond (nat_lt a.0 (cell_count site)) (option_map (walk_cost site) r) None
          go (inr past) None h r g = sym (cond-false (nat_lt a.0 (cell_count site)) (option_map (walk_cost site) r) None (le-ltb a.0 (cell_count site) past))
          go (inr past) (Some e) h r g = let k = are.known a e h in absurd (omega arith)
          go (inl known) (Some e) h r g =
              let d = descent e a e (omega arith) h in
              let f = least_route_found site goal avoid a is_site (a ∷ d.0) (descent_least a d.0 d.1 known) in
              let s : r ≡ Some (a ∷ d.0) = sym g ∙ f in
              sym h ∙ descent_cost a d.0 d.1 ∙ ap (option_map (walk_cost site)) (sym s) ∙ sym (cond-true (nat_lt a.0 (cell_count site)) (option_map (walk_cost site) r) None (lt-ltb a.0 (cell_count site) known))
          go (inl known) None h None g = sym (cond-true (nat_lt a.0 (cell_count site)) (option_map (walk_cost site) None) None (lt-ltb a.0 (cell_count site) known))
          go (inl known) None h (Some v) g = absurd (none_at v (least_route_least site goal avoid a is_site v g))
            where
              none_at : (v : List CellNo) → IsLeastRoute site goal avoid a v → ⊥
              none_at [] is = let b = is.begins in cc
              none_at (x ∷ cs) is =
                  let s = same_Some x a is.begins in
                  let l = label_least x cs (subst (λ (y : CellNo). y.0 < cell_count site) (sym s) known) is.linked is.leads in
                  let z : label a ≡ Some l.0 = ap label (sym s) ∙ l.1 in
                  cc

    -- what a label says: some walk to the goal costs as much
    pub record Reached (a : CellNo) (n : ℕ) : Type 0 where
      pub known : a.0 < cell_count site
      pub cells : List CellNo
      pub found : least_route site goal avoid a ≡ Some (a ∷ cells)
      pub walk : IsWalkFrom site a cells
      pub leads : leads_to goal avoid (a ∷ cells) ≡ true
      pub cost : cost_from site a cells ≡ n

    pub label_reached : (a : CellNo) (n : ℕ) → label_of site goal avoid a ≡ Some n → Reached a n
    unfolding label_of
    label_reached a n h = go (cases_lt a.0 (cell_count site)) (least_route site goal avoid a) refl
      where
        route_at : a.0 < cell_count site → (v : List CellNo) → least_route site goal avoid a ≡ Some v → walk_cost site v ≡ n → IsLeastRoute site goal avoid a v → Reached a n
        route_at known [] g e is = let b = is.begins in absurd (cc)
        route_at known (x ∷ cs) g e is =
            let s = same_Some x a is.begins in
            record {
              known = known;
              cells = cs;
              found = g ∙ ap (λ y. Some (y ∷ cs)) s;
              walk = subst (λ y. IsWalkFrom site y cs) s is.linked;
              leads = subst (λ y. leads_to goal avoid (y ∷ cs) ≡ true) s is.leads;
              cost = ap (λ y. cost_from site y cs) (sym s) ∙ e;
            }

        go : (a.0 < cell_count site) ⊎ (cell_count site ≤ a.0) → (r : Option (List CellNo)) → least_route site goal avoid a ≡ r → Reached a n
        go (inr past) r g =
            let z = sym (cond-false (nat_lt a.0 (cell_count site)) (option_map (walk_cost site) (least_route site goal avoid a)) None (le-ltb a.0 (cell_count site) past)) ∙ h in
            absurd (cc)
        go (inl known) None g =
            let z = ap (option_map (walk_cost site)) (sym g) ∙ sym (cond-true (nat_lt a.0 (cell_count site)) (option_map (walk_cost site) (least_route site goal avoid a)) None (lt-ltb a.0 (cell_count site) known)) ∙ h in
            absurd (cc)
        go (inl known) (Some v) g =
            let z = ap (option_map (walk_cost site)) (sym g) ∙ sym (cond-true (nat_lt a.0 (cell_count site)) (option_map (walk_cost site) (least_route site goal avoid a)) None (lt-ltb a.0 (cell_count site) known)) ∙ h in
            route_at known v g (same_Some (walk_cost site v) n z) (least_route_least site goal avoid a is_site v g)

    -- the label of a cell with a least route is what that costs
    pub label_of_cost : (a : CellNo) → a.0 < cell_count site → (v : List CellNo) → least_route site goal avoid a ≡ Some v → label_of site goal avoid a ≡ Some (walk_cost site v)
    unfolding label_of
    label_of_cost a known v g = cond-true (nat_lt a.0 (cell_count site)) (option_map (walk_cost site) (least_route site goal avoid a)) None (lt-ltb a.0 (cell_count site) known) ∙ ap (option_map (walk_cost site)) g

    -- a cell without a label has no least route
    pub no_route : (a : CellNo) → a.0 < cell_count site → label_of site goal avoid a ≡ None → least_route site goal avoid a ≡ None
    no_route a known h = go (least_route site goal avoid a) refl
      where
        go : (r : Option (List CellNo)) → least_route site goal avoid a ≡ r → least_route site goal avoid a ≡ None
        go None g = g
        go (Some v) g = let s = label_of_cost a known v g in absurd (cc)

    -- and each walk to the goal as much or more; where there is one, there is a label
    pub label_of_least : (a : CellNo) (bs : List CellNo) → a.0 < cell_count site → IsWalkFrom site a bs → leads_to goal avoid (a ∷ bs) ≡ true → (n : ℕ) × (label_of site goal avoid a ≡ Some n) × (n ≤ cost_from site a bs)
    unfolding label_of
    label_of_least a bs known walk leads = go (least_route site goal avoid a) refl
      where
        go : (r : Option (List CellNo)) → least_route site goal avoid a ≡ r → (n : ℕ) × (cond (nat_lt a.0 (cell_count site)) (option_map (walk_cost site) (least_route site goal avoid a)) None ≡ Some n) × (n ≤ cost_from site a bs)
        go None g = absurd (least_route_none site goal avoid a is_site g (a ∷ bs) refl walk leads)
        go (Some v) g =
            let is = least_route_least site goal avoid a is_site v g in (
              walk_cost site v,
              cond-true (nat_lt a.0 (cell_count site)) (option_map (walk_cost site) (least_route site goal avoid a)) None (lt-ltb a.0 (cell_count site) known) ∙ ap (option_map (walk_cost site)) g,
              elim (cases_lt (cost_from site a bs) (walk_cost site v)) [
                | inl dear ↦ absurd (precedes_cost site v (a ∷ bs) (is.least (a ∷ bs) refl walk leads) dear)
                | inr few ↦ few
              ],
            )

    -- the labels agree with each other
    pub labels_agree : AreAgreed (label_of site goal avoid)
    labels_agree = record {
      known = λ a e h. (label_reached a e h).known;
      agreed = λ a known. record {
        avoided = λ t. none_where a t (label_of site goal avoid a) refl;
        goals = λ free t.
            let l = label_of_least a [] known tt (leads_one goal avoid a t free) in
            let z : l.0 ≡ 0 = omega (arith, l.2) in
            l.1 ∙ ap (λ n. Some n) z;
        within = λ free b c d h g.
            let r = label_reached b d g in
            let l = label_of_least a (b ∷ r.cells) known (linked site a b c h, r.walk) (leads_more goal avoid a b r.cells free r.leads) in
            let k = step_cost site a b r.cells c h in
            let s = r.cost in
            (l.0, l.1, omega (arith, l.2));
        tight = λ e h away. let r = label_reached a e h in step_of a e h away r.cells r.walk r.leads r.cost known;
      };
    }
      where
        none_where : (a : CellNo) → avoid a ≡ true → (o : Option ℕ) → label_of site goal avoid a ≡ o → label_of site goal avoid a ≡ None
        none_where a t None h = h
        none_where a t (Some e) h = absurd (both_ways (avoid a) (leads_free goal avoid a (label_reached a e h).cells (label_reached a e h).leads) t)

        step_of : (a : CellNo) (e : ℕ) → label_of site goal avoid a ≡ Some e → goal a ≡ false → (cs : List CellNo) → IsWalkFrom site a cs → leads_to goal avoid (a ∷ cs) ≡ true → cost_from site a cs ≡ e → a.0 < cell_count site → (b : CellNo) × (is_tight site (label_of site goal avoid) a b ≡ true)
        step_of a e h away [] walk leads cost known = absurd (both_ways (goal a) away (leads_goal goal avoid a leads))
        step_of a e h away (b ∷ cs) walk leads cost known =
            let c = some_of (link_cost site a b) walk.0 in
            let l = is_site.links a b c.0 c.1 in
            let d = label_of_least b cs l.2 walk.1 (leads_rest goal avoid a b cs leads) in
            let k = step_cost site a b cs c.0 c.1 in
            let r = label_reached b d.0 d.1 in
            let back = label_of_least a (b ∷ r.cells) known (linked site a b c.0 c.1, r.walk) (leads_more goal avoid a b r.cells (leads_free goal avoid a (b ∷ cs) leads) r.leads) in
            let j = step_cost site a b r.cells c.0 c.1 in
            let same = same_Some e back.0 (sym h ∙ back.1) in
            let rc = r.cost in
            (b, tight_from site (label_of site goal avoid) a b e c.0 d.0 h c.1 d.1 (omega (arith, d.2, back.2)))
