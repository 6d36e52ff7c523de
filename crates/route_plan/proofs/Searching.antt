-- The search keeps what it must, ends, and leaves the least labels.
use Rattle.std.proofs.Common.{◌≡◌, ℕ, zero, suc, ◌+◌, ◌*◌, ◌^◌, ◌<◌, ◌≤◌, Bool, true, false, cond, not, ◌&&◌, ◌⊎◌, inl, inr, refl, sym, ap, ◌∙◌, subst, List, [], ◌∷◌, ◌++◌, length, get_or, set, Option, Some, None, arith}
use Rattle.std.specs.List.{Contains}
use Rattle.std.specs.List.Sorted.{IsPermutation}
use Rattle.std.specs.Prelude.{nat_lt}
use Rattle.std.specs.declared.cmp.Reverse.{Reverse}
use Rattle.std.proofs.lemmas.Bool.{MatchBool-at_true, MatchBool-at_false, both_ways, and_parts, and_from, not-true, not_from_false, cases_Bool, cases_eq, cases_lt, cond-true, cond-false, ltb-true, lt-ltb}
use Rattle.std.proofs.lemmas.Option.{same_Some}
use Rattle.std.proofs.lemmas.List.{get_or-set_same, get_or-set_other, get_or_past, length-set, length_push}
use Rattle.std.proofs.lemmas.List.Sorted.{Contains-permutation, IsPermutation-sym, length_permutation}
use Rattle.fleet_base.specs.declared.numbers.CellNo.{CellNo}
use Rattle.fleet_model.specs.Sites.{Site, IsSite, cell_count, link_cost}
use Rattle.fleet_model.proofs.SameNumbers.{same_cell}
use Rattle.fleet_model.specs.Lists.{here, there}
use Rattle.route_plan.specs.declared.incoming.Entry.{Entry}
use Rattle.route_plan.specs.Labels.{label_at, label_of}
use Rattle.route_plan.specs.Incoming.{entry, row_at, AreIncoming}
use Rattle.route_plan.specs.Search.{first_label, gaps, is_less, open_at, weight, weights, work, AreLow, IsBegun, IsLowered, IsSearch, IsSettled}
use Rattle.route_plan.proofs.LeastLabels.{agreed_label, tight_from}
use Rattle.route_plan.proofs.Entering.{Contains_In, In_Contains}

-- members of a list with one more at its front
pub first_member : {A : Type 0} (x : A) (xs : List A) → Contains (x ∷ xs) x
first_member x xs = (0, omega arith, refl)

later_member : {A : Type 0} (x y : A) (xs : List A) → Contains xs y → Contains (x ∷ xs) y
later_member x y xs h = (suc h.0, let l = h.1 in omega arith, h.2)

member_cases : {A : Type 0} (x y : A) (xs : List A) → Contains (x ∷ xs) y → (y ≡ x) ⊎ Contains xs y
member_cases x y xs h = elim (Contains_In (x ∷ xs) y h) [ here e ↦ inl e | there m ↦ inr (In_Contains xs y m) ]

no_member : {A : Type 0} (x : A) → Contains [] x → ⊥
no_member x h = let l = h.1 in absurd (omega arith)

-- labels with one more in its place
label_same : (labels : List (Option ℕ)) (a : CellNo) (n : ℕ) → a.0 < length labels → label_at (set labels a.0 (Some n)) a ≡ Some n
label_same labels a n known = get_or-set_same labels a.0 (Some n) None known

label_other : (labels : List (Option ℕ)) (a b : CellNo) (n : ℕ) → (b.0 ≡ a.0 → ⊥) → label_at (set labels a.0 (Some n)) b ≡ label_at labels b
label_other labels a b n away = get_or-set_other labels a.0 b.0 (Some n) None away

pub label_known : (labels : List (Option ℕ)) (a : CellNo) (e : ℕ) → label_at labels a ≡ Some e → a.0 < length labels
label_known labels a e h = elim (cases_lt a.0 (length labels)) [ inl l ↦ l | inr past ↦ (let n : label_at labels a ≡ None = get_or_past labels a.0 None past in absurd (cc)) ]

-- a number that isn't less than a label is at least that
not_less : (n : ℕ) (o : Option ℕ) → is_less n o ≡ false → (e : ℕ) × (o ≡ Some e) × (e ≤ n)
not_less n None h = absurd (both_ways true h refl)
not_less n (Some e) h = (e, refl, elim (cases_lt n e) [ inl l ↦ absurd (both_ways (nat_lt n e) h (lt-ltb n e l)) | inr g ↦ g ])

less : (n e : ℕ) (o : Option ℕ) → o ≡ Some e → is_less n o ≡ true → n < e
less n e None g h = absurd (cc)
less n e (Some x) g h = let s = same_Some x e g in let l = ltb-true n x h in omega arith

module _ (site : Site) (goal avoid : CellNo → Bool) (at : CellNo) (label : ℕ) where
  module _ (x : Entry) (left : List Entry) (labels : List (Option ℕ)) (open_cells : List (Reverse (ℕ × ℕ))) (h : IsSearch site goal avoid at label (x ∷ left) labels open_cells) where
    -- the link from a cell to avoid can be left out
    pub search_skip : avoid x.from ≡ true → IsSearch site goal avoid at label left labels open_cells
    search_skip t = record {
      long = h.long;
      known = h.known;
      avoided = h.avoided;
      goals = h.goals;
      within = λ a b c d k free g. elim (h.within a b c d k free g) [
        | inl w ↦ inl w
        | inr (inl o) ↦ inr (inl o)
        | inr (inr l) ↦ elim (member_cases x (entry a c) left l.2) [
          | inl e ↦ absurd (both_ways (avoid a) free (ap avoid (ap (λ (y : Entry). y.from) e) ∙ t))
          | inr m ↦ inr (inr (l.0, l.1, m))
        ]
      ];
      tight = h.tight;
      source = λ e m. h.source e (later_member x e left m);
    }

    -- so can one whose way isn't less
    pub search_same : is_less (label + x.cost) (label_at labels x.from) ≡ false → IsSearch site goal avoid at label left labels open_cells
    search_same f = record {
      long = h.long;
      known = h.known;
      avoided = h.avoided;
      goals = h.goals;
      within = λ a b c d k free g. elim (h.within a b c d k free g) [
        | inl w ↦ inl w
        | inr (inl o) ↦ inr (inl o)
        | inr (inr l) ↦ elim (member_cases x (entry a c) left l.2) [
          | inl e ↦
              let from : a ≡ x.from = ap (λ (y : Entry). y.from) e in
              let cost : c ≡ x.cost = ap (λ (y : Entry). y.cost) e in
              let n = not_less (label + x.cost) (label_at labels x.from) f in
              let z = l.1 in
              inl (n.0, ap (label_at labels) from ∙ n.1, omega (arith, n.2))
          | inr m ↦ inr (inr (l.0, l.1, m))
        ]
      ];
      tight = h.tight;
      source = λ e m. h.source e (later_member x e left m);
    }

    module _ (is_site : IsSite site) (free : avoid x.from ≡ false) (t : is_less (label + x.cost) (label_at labels x.from) ≡ true) (open_cells' : List (Reverse (ℕ × ℕ))) (perm : IsPermutation (open_at (label + x.cost) x.from ∷ open_cells) open_cells') where
      abbrev lowered : List (Option ℕ)
      lowered = set labels x.from.0 (Some (label + x.cost))

      from_known : x.from.0 < length labels
      from_known =
          let s = h.source x (first_member x left) in
          let l = (is_site.links x.from at x.cost s.3).1 in
          let long = h.long in
          omega arith

      -- the cell at which the links end keeps its label
      away : at.0 ≡ x.from.0 → ⊥
      away e =
          let s = h.source x (first_member x left) in
          let same : at ≡ x.from = same_cell at x.from e in
          let l = less (label + x.cost) s.0 (label_at labels x.from) (ap (label_at labels) (sym same) ∙ s.1) t in
          let z = s.2 in
          omega arith

      still_open : (y : Reverse (ℕ × ℕ)) → Contains open_cells y → Contains open_cells' y
      still_open y m = Contains-permutation (open_at (label + x.cost) x.from ∷ open_cells) open_cells' y perm (later_member (open_at (label + x.cost) x.from) y open_cells m)

      -- what is known of a label afterwards
      label_cases : (a : CellNo) (e : ℕ) → label_at lowered a ≡ Some e → ((a ≡ x.from) × (e ≡ label + x.cost)) ⊎ (label_at labels a ≡ Some e)
      label_cases a e g =
          elim (cases_eq a.0 x.from.0) [
            | inl same ↦
                let s : a ≡ x.from = same_cell a x.from same in
                inl (s, same_Some e (label + x.cost) (sym g ∙ ap (label_at lowered) s ∙ label_same labels x.from (label + x.cost) from_known))
            | inr other ↦ inr (sym (label_other labels x.from a (label + x.cost) other) ∙ g)
          ]

      -- a label is still there afterwards, and not more
      label_falls : (a : CellNo) (e : ℕ) → label_at labels a ≡ Some e → (n : ℕ) × (label_at lowered a ≡ Some n) × (n ≤ e)
      label_falls a e g =
          elim (cases_eq a.0 x.from.0) [
            | inl same ↦
                let s : a ≡ x.from = same_cell a x.from same in
                let l = less (label + x.cost) e (label_at labels x.from) (ap (label_at labels) (sym s) ∙ g) t in
                (label + x.cost, ap (label_at lowered) s ∙ label_same labels x.from (label + x.cost) from_known, omega arith)
            | inr other ↦ (e, label_other labels x.from a (label + x.cost) other ∙ g, omega arith)
          ]

      -- after the way over the link became the label, the link can be left out
      pub search_lower : IsSearch site goal avoid at label left lowered open_cells'
      search_lower = record {
        long = length-set labels x.from.0 (Some (label + x.cost)) ∙ h.long;
        known = λ y m. elim (member_cases (open_at (label + x.cost) x.from) y open_cells (Contains-permutation open_cells' (open_at (label + x.cost) x.from ∷ open_cells) y (IsPermutation-sym (open_at (label + x.cost) x.from ∷ open_cells) open_cells' perm) m)) [
          | inl e ↦
              let long = h.long in
              let fits = from_known in
              subst (λ (z : Reverse (ℕ × ℕ)). z.0.1 < cell_count site) (sym e) (omega arith)
          | inr before ↦ h.known y before
        ];
        avoided = λ a e g. elim (label_cases a e g) [ inl s ↦ ap avoid s.0 ∙ free | inr before ↦ h.avoided a e before ];
        goals = λ a known g f. elim (cases_eq a.0 x.from.0) [
          | inl same ↦
              let s : a ≡ x.from = same_cell a x.from same in
              let z = less (label + x.cost) 0 (label_at labels x.from) (ap (label_at labels) (sym s) ∙ h.goals a known g f) t in
              absurd (omega arith)
          | inr other ↦ label_other labels x.from a (label + x.cost) other ∙ h.goals a known g f
        ];
        within = λ a b c d k f g. elim (label_cases b d g) [
          | inl s ↦
              let here : Contains open_cells' (open_at (label + x.cost) x.from) = Contains-permutation (open_at (label + x.cost) x.from ∷ open_cells) open_cells' (open_at (label + x.cost) x.from) perm (first_member (open_at (label + x.cost) x.from) open_cells) in
              let moved : Contains open_cells' (open_at d x.from) = subst (λ n. Contains open_cells' (open_at n x.from)) (sym s.1) here in
              inr (inl (subst (λ y. Contains open_cells' (open_at d y)) (sym s.0) moved))
          | inr before ↦ elim (h.within a b c d k f before) [
            | inl w ↦ (let n = label_falls a w.0 w.1 in inl (n.0, n.1, omega (arith, n.2, w.2)))
            | inr (inl o) ↦ inr (inl (still_open (open_at d b) o))
            | inr (inr l) ↦ elim (member_cases x (entry a c) left l.2) [
              | inl e ↦
                  let from : a ≡ x.from = ap (λ (y : Entry). y.from) e in
                  let cost : c ≡ x.cost = ap (λ (y : Entry). y.cost) e in
                  let z = l.1 in
                  inl (label + x.cost, ap (label_at lowered) from ∙ label_same labels x.from (label + x.cost) from_known, omega arith)
              | inr m ↦ inr (inr (l.0, l.1, m))
            ]
          ]
        ];
        tight = λ a e g f. elim (label_cases a e g) [
          | inl s ↦
              let w = h.source x (first_member x left) in
              let z = s.1 in
              (at, x.cost, w.0, subst (λ y. link_cost site y at ≡ Some x.cost) (sym s.0) w.3, label_other labels x.from at (label + x.cost) away ∙ w.1, omega (arith, w.2))
          | inr before ↦
              let w = h.tight a e before f in
              let n = label_falls w.0 w.2 w.4 in
              (w.0, w.1, n.0, w.3, n.1, omega (arith, n.2, w.5))
        ];
        source = λ e m.
            let w = h.source e (later_member x e left m) in
            (w.0, label_other labels x.from at (label + x.cost) away ∙ w.1, w.2, w.3);
      }

module _ (site : Site) (goal avoid : CellNo → Bool) (labels : List (Option ℕ)) where
  -- with no link left, the cell at which the links ended doesn't matter
  pub search_settled : (at : CellNo) (label : ℕ) (open_cells : List (Reverse (ℕ × ℕ))) → IsSearch site goal avoid at label [] labels open_cells → IsSettled site goal avoid labels open_cells
  search_settled at label open_cells h = record {
    long = h.long;
    known = h.known;
    avoided = h.avoided;
    goals = h.goals;
    within = λ a b c d k free g. elim (h.within a b c d k free g) [
      | inl w ↦ inl w
      | inr (inl o) ↦ inr (inl o)
      | inr (inr l) ↦ absurd (no_member (entry a c) l.2)
    ];
    tight = h.tight;
    source = λ e m. absurd (no_member e m);
  }

  module _ (at : CellNo) (label : ℕ) (open_cells : List (Reverse (ℕ × ℕ))) (h : IsSettled site goal avoid labels (open_at label at ∷ open_cells)) where
    -- an open cell is the first with its label, or one of the others
    open_cases : (b : CellNo) (d : ℕ) → Contains (open_at label at ∷ open_cells) (open_at d b) → ((b ≡ at) × (d ≡ label)) ⊎ Contains open_cells (open_at d b)
    open_cases b d o = elim (member_cases (open_at label at) (open_at d b) open_cells o) [
      | inl e ↦ inl (same_cell b at (ap (λ (z : Reverse (ℕ × ℕ)). z.0.1) e), ap (λ (z : Reverse (ℕ × ℕ)). z.0.0) e)
      | inr m ↦ inr m
    ]

    -- a cell that stood open with another label than it has can be left out
    pub search_stale : (label_at labels at ≡ Some label → ⊥) → IsSettled site goal avoid labels open_cells
    search_stale stale = record {
      long = h.long;
      known = λ y m. h.known y (later_member (open_at label at) y open_cells m);
      avoided = h.avoided;
      goals = h.goals;
      within = λ a b c d k free g. elim (h.within a b c d k free g) [
        | inl w ↦ inl w
        | inr (inl o) ↦ elim (open_cases b d o) [
          | inl e ↦ absurd (stale (ap (label_at labels) (sym e.0) ∙ g ∙ ap (λ n. Some n) e.1))
          | inr m ↦ inr (inl m)
        ]
        | inr (inr l) ↦ absurd (no_member (entry a c) l.2)
      ];
      tight = h.tight;
      source = λ e m. absurd (no_member e m);
    }

    -- of one with its label the links to it are left
    pub search_open : (rows : List (List Entry)) → AreIncoming site rows → label_at labels at ≡ Some label → IsSearch site goal avoid at label (row_at rows at) labels open_cells
    search_open rows are here_label = record {
      long = h.long;
      known = λ y m. h.known y (later_member (open_at label at) y open_cells m);
      avoided = h.avoided;
      goals = h.goals;
      within = λ a b c d k free g. elim (h.within a b c d k free g) [
        | inl w ↦ inl w
        | inr (inl o) ↦ elim (open_cases b d o) [
          | inl e ↦ inr (inr (e.0, e.1, subst (λ y. Contains (row_at rows y) (entry a c)) e.0 (are.all a b c k)))
          | inr m ↦ inr (inl m)
        ]
        | inr (inr l) ↦ absurd (no_member (entry a c) l.2)
      ];
      tight = h.tight;
      source = λ e m. (label, here_label, omega arith, are.only at e m);
    }

  -- the order of the open cells doesn't matter
  pub search_reordered : (open_cells open_cells' : List (Reverse (ℕ × ℕ))) → IsPermutation open_cells open_cells' → IsSettled site goal avoid labels open_cells → IsSettled site goal avoid labels open_cells'
  search_reordered open_cells open_cells' perm h = record {
    long = h.long;
    known = λ y m. h.known y (Contains-permutation open_cells' open_cells y (IsPermutation-sym open_cells open_cells' perm) m);
    avoided = h.avoided;
    goals = h.goals;
    within = λ a b c d k free g. elim (h.within a b c d k free g) [
      | inl w ↦ inl w
      | inr (inl o) ↦ inr (inl (Contains-permutation open_cells open_cells' (open_at d b) perm o))
      | inr (inr l) ↦ absurd (no_member (entry a c) l.2)
    ];
    tight = h.tight;
    source = λ e m. absurd (no_member e m);
  }

  -- the first labels
  pub search_begun : (open_cells : List (Reverse (ℕ × ℕ))) → IsBegun (cell_count site) goal avoid labels open_cells → IsSettled site goal avoid labels open_cells
  search_begun open_cells h = record {
    long = h.long;
    known = h.known;
    avoided = λ a e g. (first a e g).1;
    goals = λ a known g free. h.first a known ∙ cond-true (goal a && not (avoid a)) (Some 0) None (and_from (goal a) (not (avoid a)) g (not_from_false (avoid a) free));
    within = λ a b c d k free g. inr (inl (h.begun b d g));
    tight = λ a e g away. absurd (both_ways (goal a) away (first a e g).0);
    source = λ e m. absurd (no_member e m);
  }
    where
      of_test : (x : Bool) (o : Option ℕ) (e : ℕ) → o ≡ Some e → o ≡ cond x (Some 0) None → x ≡ true
      of_test true o e g f = refl
      of_test false o e g f = absurd (cc)

      first : (a : CellNo) (e : ℕ) → label_at labels a ≡ Some e → (goal a ≡ true) × (avoid a ≡ false)
      first a e g =
          let k = label_known labels a e g in
          let long = h.long in
          let p = and_parts (goal a) (not (avoid a)) (of_test (goal a && not (avoid a)) (label_at labels a) e g (h.first a (omega arith))) in
          (p.0, not-true (avoid a) p.1)

  -- with no open cell the labels are the least costs
  pub search_done : IsSite site → IsSettled site goal avoid labels [] → (a : CellNo) → label_at labels a ≡ label_of site goal avoid a
  search_done is_site h = agreed_label site goal avoid is_site (label_at labels) (record {
    known = λ a e g. let k = label_known labels a e g in let long = h.long in omega arith;
    agreed = λ a known. record {
      avoided = λ t. none_where a t (label_at labels a) refl;
      goals = λ free g. h.goals a known g free;
      within = λ free b c d k g. within_of a b c d k free g;
      tight = λ e g away.
          let w = h.tight a e g away in
          let v = within_of a w.0 w.1 w.2 w.3 (h.avoided a e g) w.4 in
          let s = same_Some e v.0 (sym g ∙ v.1) in
          (w.0, tight_from site (label_at labels) a w.0 e w.1 w.2 g w.3 w.4 (omega (arith, w.5, v.2)));
    };
  })
    where
      within_of : (a b : CellNo) (c d : ℕ) → link_cost site a b ≡ Some c → avoid a ≡ false → label_at labels b ≡ Some d → (e : ℕ) × (label_at labels a ≡ Some e) × (e ≤ c + d)
      within_of a b c d k free g = elim (h.within a b c d k free g) [
        | inl w ↦ w
        | inr (inl o) ↦ absurd (no_member (open_at d b) o)
        | inr (inr l) ↦ absurd (no_member (entry a c) l.2)
      ]

      none_where : (a : CellNo) → avoid a ≡ true → (o : Option ℕ) → label_at labels a ≡ o → label_at labels a ≡ None
      none_where a t None g = g
      none_where a t (Some e) g = absurd (both_ways (avoid a) (h.avoided a e g) t)

-- how many labels are missing after one more was set, and what all weigh
gaps_set : (labels : List (Option ℕ)) (i n : ℕ) → i < length labels → gaps (set labels i (Some n)) ≤ gaps labels
gaps_set [] i n l = absurd (omega arith)
gaps_set (None ∷ os) zero n l = omega arith
gaps_set (Some e ∷ os) zero n l = omega arith
gaps_set (None ∷ os) (suc i) n l = let r = gaps_set os i n (omega arith) in omega arith
gaps_set (Some e ∷ os) (suc i) n l = gaps_set os i n (omega arith)

gaps_fill : (labels : List (Option ℕ)) (i n : ℕ) → i < length labels → get_or labels i None ≡ None → gaps (set labels i (Some n)) + 1 ≡ gaps labels
gaps_fill [] i n l h = absurd (omega arith)
gaps_fill (None ∷ os) zero n l h = omega arith
gaps_fill (Some e ∷ os) zero n l h = absurd (cc)
gaps_fill (None ∷ os) (suc i) n l h = let r = gaps_fill os i n (omega arith) h in omega arith
gaps_fill (Some e ∷ os) (suc i) n l h = gaps_fill os i n (omega arith) h

pub gaps_few : (labels : List (Option ℕ)) → gaps labels ≤ length labels
gaps_few [] = omega arith
gaps_few (None ∷ os) = let r = gaps_few os in omega arith
gaps_few (Some e ∷ os) = let r = gaps_few os in omega arith

weights_set : (labels : List (Option ℕ)) (i n : ℕ) → i < length labels → weights (set labels i (Some n)) + weight (get_or labels i None) ≡ weights labels + n
weights_set [] i n l = absurd (omega arith)
weights_set (o ∷ os) zero n l = omega arith
weights_set (o ∷ os) (suc i) n l = let r = weights_set os i n (omega arith) in omega arith

module _ (labels : List (Option ℕ)) (a : CellNo) (n : ℕ) (known : a.0 < length labels) (t : is_less n (label_at labels a) ≡ true) where
  -- a label that falls weighs less
  pub weights_lower : n < 2 ^ 43 → weights (set labels a.0 (Some n)) < weights labels
  weights_lower small = go (label_at labels a) refl
    where
      go : (o : Option ℕ) → label_at labels a ≡ o → weights (set labels a.0 (Some n)) < weights labels
      go None h = let w = weights_set labels a.0 n known in let s = ap weight h in omega arith
      go (Some e) h = let w = weights_set labels a.0 n known in let s = ap weight h in let l = less n e (label_at labels a) h t in omega arith

  -- labels stay low where one falls to the way over a link
  pub low_lower : (label cost : ℕ) → n ≡ label + cost → cost < 2 ^ 32 → label + 2 ^ 32 * gaps labels ≤ 2 ^ 32 * length labels → AreLow labels → AreLow (set labels a.0 (Some n))
  low_lower label cost is fits lower h = record {
    few = let s = length-set labels a.0 (Some n) in let f = h.few in omega arith;
    low = λ b e g. elim (cases_eq b.0 a.0) [
      | inl same ↦
          let s : b ≡ a = same_cell b a same in
          let z = same_Some e n (sym g ∙ ap (label_at (set labels a.0 (Some n))) s ∙ label_same labels a n known) in
          new_low e z (label_at labels a) refl
      | inr other ↦
          let k = h.low b e (sym (label_other labels a b n other) ∙ g) in
          let f = gaps_set labels a.0 n known in
          let s = length-set labels a.0 (Some n) in
          omega arith
    ];
  }
    where
      new_low : (e : ℕ) → e ≡ n → (o : Option ℕ) → label_at labels a ≡ o → e + 2 ^ 32 * gaps (set labels a.0 (Some n)) ≤ 2 ^ 32 * length (set labels a.0 (Some n))
      new_low e z None g =
          let f = gaps_fill labels a.0 n known g in
          let s = length-set labels a.0 (Some n) in
          omega arith
      new_low e z (Some x) g =
          let l = less n x (label_at labels a) g t in
          let k = h.low a x g in
          let f = gaps_set labels a.0 n known in
          let s = length-set labels a.0 (Some n) in
          omega arith

  pub gaps_lower : gaps (set labels a.0 (Some n)) ≤ gaps labels
  gaps_lower = gaps_set labels a.0 n known

-- a low label is far from the greatest number
pub low_small : (labels : List (Option ℕ)) (e : ℕ) → AreLow labels → e + 2 ^ 32 * gaps labels ≤ 2 ^ 32 * length labels → e ≤ 2 ^ 42
low_small labels e h low = let f = h.few in omega arith

-- one step of the look back: what one more link leaves
pub record IsStep (avoid : CellNo → Bool) (at : CellNo) (label : ℕ) (x : Entry) (left : List Entry) (labels : List (Option ℕ)) (open_cells : List (Reverse (ℕ × ℕ))) (labels' : List (Option ℕ)) (open_cells' : List (Reverse (ℕ × ℕ))) : Type 0 where
  pub kept : (site : Site) (goal : CellNo → Bool) → IsSite site → IsSearch site goal avoid at label (x ∷ left) labels open_cells → IsSearch site goal avoid at label left labels' open_cells'
  pub long : length labels' ≡ length labels
  pub low : AreLow labels'
  pub lies : label + 2 ^ 32 * gaps labels' ≤ 2 ^ 32 * length labels'
  pub nearer : work labels' open_cells' ≤ work labels open_cells

pub step_lowered : (avoid : CellNo → Bool) (at : CellNo) (label : ℕ) (x : Entry) (left : List Entry) (labels : List (Option ℕ)) (open_cells : List (Reverse (ℕ × ℕ))) (labels' : List (Option ℕ)) (open_cells' : List (Reverse (ℕ × ℕ)))
    → IsLowered x.from (label + x.cost) labels open_cells labels' open_cells' → avoid x.from ≡ false → x.cost < 2 ^ 32 → x.from.0 < length labels → AreLow labels → label + 2 ^ 32 * gaps labels ≤ 2 ^ 32 * length labels
    → IsStep avoid at label x left labels open_cells labels' open_cells'
step_lowered avoid at label x left labels open_cells labels' open_cells' lowered free fits known low lies = go (cases_Bool (is_less (label + x.cost) (label_at labels x.from)))
  where
    go : (is_less (label + x.cost) (label_at labels x.from) ≡ true) ⊎ (is_less (label + x.cost) (label_at labels x.from) ≡ false) → IsStep avoid at label x left labels open_cells labels' open_cells'
    go (inl t) =
        let p = MatchBool-at_true ((labels' ≡ set labels x.from.0 (Some (label + x.cost))) × IsPermutation (open_at (label + x.cost) x.from ∷ open_cells) open_cells') ((labels' ≡ labels) × (open_cells' ≡ open_cells)) t lowered in
        let small = low_small labels label low lies in
        let lighter = weights_lower labels x.from (label + x.cost) known t (omega arith) in
        let longer : length open_cells' ≡ suc (length open_cells) = length_permutation (open_at (label + x.cost) x.from ∷ open_cells) open_cells' p.1 in
        let same : weights labels' ≡ weights (set labels x.from.0 (Some (label + x.cost))) = ap weights p.0 in
        let len : length labels' ≡ length labels = ap length p.0 ∙ length-set labels x.from.0 (Some (label + x.cost)) in
        let gap : gaps labels' ≡ gaps (set labels x.from.0 (Some (label + x.cost))) = ap gaps p.0 in
        let fewer = gaps_lower labels x.from (label + x.cost) known t in
        record {
          kept = λ site goal is_site h. subst (λ ls. IsSearch site goal avoid at label left ls open_cells') (sym p.0) (search_lower site goal avoid at label x left labels open_cells h is_site free t open_cells' p.1);
          long = len;
          low = subst AreLow (sym p.0) (low_lower labels x.from (label + x.cost) known t label x.cost refl fits lies low);
          lies = omega arith;
          nearer = omega arith;
        }
    go (inr f) =
        let p = MatchBool-at_false ((labels' ≡ set labels x.from.0 (Some (label + x.cost))) × IsPermutation (open_at (label + x.cost) x.from ∷ open_cells) open_cells') ((labels' ≡ labels) × (open_cells' ≡ open_cells)) f lowered in
        let same : weights labels' ≡ weights labels = ap weights p.0 in
        let long : length open_cells' ≡ length open_cells = ap length p.1 in
        let len : length labels' ≡ length labels = ap length p.0 in
        let gap : gaps labels' ≡ gaps labels = ap gaps p.0 in
        record {
          kept = λ site goal is_site h. subst (λ ls. IsSearch site goal avoid at label left ls open_cells') (sym p.0) (subst (λ os. IsSearch site goal avoid at label left labels os) (sym p.1) (search_same site goal avoid at label x left labels open_cells h f));
          long = len;
          low = subst AreLow (sym p.0) low;
          lies = omega arith;
          nearer = omega arith;
        }

pub step_skipped : (avoid : CellNo → Bool) (at : CellNo) (label : ℕ) (x : Entry) (left : List Entry) (labels : List (Option ℕ)) (open_cells : List (Reverse (ℕ × ℕ)))
    → avoid x.from ≡ true → AreLow labels → label + 2 ^ 32 * gaps labels ≤ 2 ^ 32 * length labels
    → IsStep avoid at label x left labels open_cells labels open_cells
step_skipped avoid at label x left labels open_cells t low lies = record {
  kept = λ site goal is_site h. search_skip site goal avoid at label x left labels open_cells h t;
  long = refl;
  low = low;
  lies = lies;
  nearer = omega arith;
}

-- one more cell with its first label
pushed_before : (os : List (Option ℕ)) (o : Option ℕ) (i : ℕ) → i < length os → get_or (os ++ o ∷ []) i None ≡ get_or os i None
pushed_before [] o i l = absurd (omega arith)
pushed_before (x ∷ os) o zero l = refl
pushed_before (x ∷ os) o (suc i) l = pushed_before os o i (omega arith)

pushed_at : (os : List (Option ℕ)) (o : Option ℕ) → get_or (os ++ o ∷ []) (length os) None ≡ o
pushed_at [] o = refl
pushed_at (x ∷ os) o = pushed_at os o

pushed_cases : (os : List (Option ℕ)) (o : Option ℕ) (i e : ℕ) → get_or (os ++ o ∷ []) i None ≡ Some e → (get_or os i None ≡ Some e) ⊎ ((i ≡ length os) × (o ≡ Some e))
pushed_cases [] o zero e h = inr (refl, h)
pushed_cases [] o (suc i) e h = absurd (cc)
pushed_cases (x ∷ os) o zero e h = inl h
pushed_cases (x ∷ os) o (suc i) e h = elim (pushed_cases os o i e h) [ inl b ↦ inl b | inr s ↦ (let n = s.0 in inr (omega arith, s.1)) ]

module _ (goal avoid : CellNo → Bool) (c : CellNo) (labels : List (Option ℕ)) (open_cells : List (Reverse (ℕ × ℕ))) (h : IsBegun c.0 goal avoid labels open_cells) where
  first_more : (o : Option ℕ) → o ≡ first_label goal avoid c → (a : CellNo) → a.0 < c.0 + 1 → label_at (labels ++ o ∷ []) a ≡ first_label goal avoid a
  first_more o is a below =
      let long = h.long in
      elim (cases_eq a.0 c.0) [
        | inl same ↦
            let s : a ≡ c = same_cell a c same in
            let place : a.0 ≡ length labels = omega arith in
            ap (λ i. get_or (labels ++ o ∷ []) i None) place ∙ pushed_at labels o ∙ is ∙ ap (first_label goal avoid) (sym s)
        | inr other ↦ pushed_before labels o a.0 (omega arith) ∙ h.first a (omega arith)
      ]

  pub begun_goal : (goal c && not (avoid c)) ≡ true → (open_cells' : List (Reverse (ℕ × ℕ))) → IsPermutation (open_at 0 c ∷ open_cells) open_cells' → IsBegun (c.0 + 1) goal avoid (labels ++ Some 0 ∷ []) open_cells'
  begun_goal t open_cells' perm = record {
    long = let long = h.long in length_push labels (Some 0) ∙ ap (λ k. k + 1) long;
    first = first_more (Some 0) (sym (cond-true (goal c && not (avoid c)) (Some 0) None t));
    begun = λ a e g. elim (pushed_cases labels (Some 0) a.0 e g) [
      | inl before ↦ Contains-permutation (open_at 0 c ∷ open_cells) open_cells' (open_at e a) perm (later_member (open_at 0 c) (open_at e a) open_cells (h.begun a e before))
      | inr s ↦
          let long = h.long in
          let place = s.0 in
          let same : a ≡ c = same_cell a c (omega arith) in
          let zero_is = same_Some 0 e s.1 in
          let m : Contains open_cells' (open_at 0 c) = Contains-permutation (open_at 0 c ∷ open_cells) open_cells' (open_at 0 c) perm (first_member (open_at 0 c) open_cells) in
          subst (λ k. Contains open_cells' (open_at k a)) zero_is (subst (λ y. Contains open_cells' (open_at 0 y)) (sym same) m)
    ];
    known = λ y m. elim (member_cases (open_at 0 c) y open_cells (Contains-permutation open_cells' (open_at 0 c ∷ open_cells) y (IsPermutation-sym (open_at 0 c ∷ open_cells) open_cells' perm) m)) [
      | inl e ↦ subst (λ (z : Reverse (ℕ × ℕ)). z.0.1 < c.0 + 1) (sym e) (omega arith)
      | inr before ↦ (let k = h.known y before in omega arith)
    ];
  }

  pub begun_other : (goal c && not (avoid c)) ≡ false → IsBegun (c.0 + 1) goal avoid (labels ++ None ∷ []) open_cells
  begun_other f = record {
    long = let long = h.long in length_push labels None ∙ ap (λ k. k + 1) long;
    first = first_more None (sym (cond-false (goal c && not (avoid c)) (Some 0) None f));
    begun = λ a e g. elim (pushed_cases labels None a.0 e g) [ inl before ↦ h.begun a e before | inr s ↦ (let z = s.1 in absurd (cc)) ];
    known = λ y m. let k = h.known y m in omega arith;
  }

-- first labels are low
pub begun_low : (goal avoid : CellNo → Bool) (n : ℕ) (labels : List (Option ℕ)) (open_cells : List (Reverse (ℕ × ℕ))) → n ≤ 1024 → IsBegun n goal avoid labels open_cells → AreLow labels
begun_low goal avoid n labels open_cells few h = record {
  few = let long = h.long in omega arith;
  low = λ a e g.
      let k = label_known labels a e g in
      let long = h.long in
      let z = nothing (goal a && not (avoid a)) (label_at labels a) e g (h.first a (omega arith)) in
      let f = gaps_few labels in
      omega arith;
}
  where
    nothing : (x : Bool) (o : Option ℕ) (e : ℕ) → o ≡ Some e → o ≡ cond x (Some 0) None → e ≡ 0
    nothing true o e g f = same_Some e 0 (sym g ∙ f)
    nothing false o e g f = absurd (cc)

-- a list of no length is empty
pub none_of_length : {A : Type 0} (xs : List A) → length xs ≡ 0 → xs ≡ []
none_of_length [] h = refl
none_of_length (x ∷ xs) h = absurd (omega arith)
