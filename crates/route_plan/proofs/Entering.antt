-- Links are kept by the cells that they lead to.
use Rattle.std.proofs.Common.{◌≡◌, ℕ, zero, suc, ◌+◌, ◌<◌, ◌⊎◌, inl, inr, refl, sym, ◌∙◌, subst, List, [], ◌∷◌, ◌++◌, length, get_or, set, replicate, Some, arith}
use Rattle.std.specs.List.{Contains}
use Rattle.std.proofs.lemmas.Bool.{cases_eq, cases_lt}
use Rattle.std.proofs.lemmas.List.{get_or-set_same, get_or-set_other, length-set}
use Rattle.std.proofs.lemmas.List.Elements.{Contains-append_left, Contains-push, Contains-push_cases}
use Rattle.fleet_base.specs.declared.numbers.CellNo.{CellNo}
use Rattle.fleet_base.specs.declared.numbers.Link.{Link}
use Rattle.fleet_model.specs.Sites.{Site, IsSite, cell_count, links_from, link_cost}
use Rattle.fleet_model.specs.Lists.{In, here, there}
use Rattle.fleet_model.proofs.SameNumbers.{same_cell}
use Rattle.site_map.specs.Cells.{LinksRise}
use Rattle.route_plan.specs.declared.incoming.Entry.{Entry}
use Rattle.route_plan.specs.Incoming.{entry, row_at, AreEntered, AreIncoming}
use Rattle.route_plan.proofs.Links.{cost_of_link, link_of_cost}

-- members by their places and members by their parts are the same
pub In_Contains : {A : Type 0} (xs : List A) (x : A) → In x xs → Contains xs x
In_Contains [] x m = elim m [ ]
In_Contains (y ∷ ys) x (here e) = (0, omega arith, sym e)
In_Contains (y ∷ ys) x (there m) = let r = In_Contains ys x m in (suc r.0, omega (arith, r.1), r.2)

Contains_at : {A : Type 0} (xs : List A) (x : A) (k : ℕ) → k < length xs → get_or xs k x ≡ x → In x xs
Contains_at [] x k l e = absurd (omega arith)
Contains_at (y ∷ ys) x zero l e = here (sym e)
Contains_at (y ∷ ys) x (suc k) l e = there (Contains_at ys x k (omega arith) e)

pub Contains_In : {A : Type 0} (xs : List A) (x : A) → Contains xs x → In x xs
Contains_In xs x h = Contains_at xs x h.0 h.1 h.2

no_member : {A : Type 0} (x : A) → Contains [] x → ⊥
no_member x h = let l = h.1 in absurd (omega arith)

-- nothing was added yet
pub entered_none : (from : CellNo) (rows : List (List Entry)) → AreEntered from [] rows rows
entered_none from rows = record {
  long = refl;
  kept = λ b e h. h;
  all = λ l h. absurd (no_member l h);
  only = λ b e h. inl h;
}

module _ (from : CellNo) (links : List Link) (l : Link) (old mid : List (List Entry)) (known : l.to.0 < length mid) (h : AreEntered from links old mid) where
  abbrev added : List (List Entry)
  added = set mid l.to.0 (get_or mid l.to.0 [] ++ entry from l.cost ∷ [])

  here_is : row_at added l.to ≡ row_at mid l.to ++ entry from l.cost ∷ []
  here_is = get_or-set_same mid l.to.0 (get_or mid l.to.0 [] ++ entry from l.cost ∷ []) [] known

  elsewhere : (b : CellNo) → (b.0 ≡ l.to.0 → ⊥) → row_at added b ≡ row_at mid b
  elsewhere b away = get_or-set_other mid l.to.0 b.0 (get_or mid l.to.0 [] ++ entry from l.cost ∷ []) [] away

  still : (b : CellNo) (e : Entry) → Contains (row_at mid b) e → Contains (row_at added b) e
  still b e m =
      elim (cases_eq b.0 l.to.0) [
        | inl same ↦
            let s : b ≡ l.to = same_cell b l.to same in
            let m2 : Contains (row_at mid l.to) e = subst (λ x. Contains (row_at mid x) e) s m in
            let m3 : Contains (row_at added l.to) e = subst (λ r. Contains r e) (sym here_is) (Contains-append_left (row_at mid l.to) (entry from l.cost ∷ []) e m2) in
            subst (λ x. Contains (row_at added x) e) (sym s) m3
        | inr away ↦ subst (λ r. Contains r e) (sym (elsewhere b away)) m
      ]

  -- one more link was added
  pub entered_more : AreEntered from (links ++ l ∷ []) old added
  entered_more = record {
    long = length-set mid l.to.0 (get_or mid l.to.0 [] ++ entry from l.cost ∷ []) ∙ h.long;
    kept = λ b e m. still b e (h.kept b e m);
    all = λ k m. elim (Contains-push_cases links l k m) [
      | inl before ↦ still k.to (entry from k.cost) (h.all k before)
      | inr same ↦ subst (λ (x : Link). Contains (row_at added x.to) (entry from x.cost)) same (subst (λ r. Contains r (entry from l.cost)) (sym here_is) (Contains-push (row_at mid l.to) (entry from l.cost)))
    ];
    only = λ b e m. elim (cases_eq b.0 l.to.0) [
      | inl same ↦
          let s : b ≡ l.to = same_cell b l.to same in
          let m2 : Contains (row_at mid l.to ++ entry from l.cost ∷ []) e = subst (λ r. Contains r e) here_is (subst (λ x. Contains (row_at added x) e) s m) in
          elim (Contains-push_cases (row_at mid l.to) (entry from l.cost) e m2) [
            | inl before ↦ older b e (h.only b e (subst (λ x. Contains (row_at mid x) e) (sym s) before))
            | inr is ↦ inr (l, Contains-push links l, sym s, sym is)
          ]
      | inr away ↦ older b e (h.only b e (subst (λ r. Contains r e) (elsewhere b away) m))
    ];
  }
    where
      older : (b : CellNo) (e : Entry) → Contains (row_at old b) e ⊎ ((k : Link) × Contains links k × (k.to ≡ b) × (e ≡ entry from k.cost)) → Contains (row_at old b) e ⊎ ((k : Link) × Contains (links ++ l ∷ []) k × (k.to ≡ b) × (e ≡ entry from k.cost))
      older b e (inl m) = inl m
      older b e (inr k) = inr (k.0, Contains-append_left links (l ∷ []) k.0 k.1, k.2, k.3)

module _ (site : Site) where
  -- the links from the first n cells are kept
  pub record AreIncomingFrom (n : ℕ) (rows : List (List Entry)) : Type 0 where
    pub long : length rows ≡ cell_count site
    pub all : (a b : CellNo) (c : ℕ) → a.0 < n → link_cost site a b ≡ Some c → Contains (row_at rows b) (entry a c)
    pub only : (b : CellNo) (e : Entry) → Contains (row_at rows b) e → link_cost site e.from b ≡ Some e.cost

  none_in_row : (n k : ℕ) (e : Entry) → Contains (get_or (replicate {A = List Entry} n []) k []) e → ⊥
  none_in_row zero k e h = no_member e h
  none_in_row (suc n) zero e h = no_member e h
  none_in_row (suc n) (suc k) e h = none_in_row n k e h

  pub incoming_none : length (replicate {A = List Entry} (cell_count site) []) ≡ cell_count site → AreIncomingFrom 0 (replicate (cell_count site) [])
  incoming_none long = record {
    long = long;
    all = λ a b c below h. absurd (omega arith);
    only = λ b e h. absurd (none_in_row (cell_count site) b.0 e h);
  }

  pub incoming_more : (n : ℕ) (old new : List (List Entry)) → LinksRise 0 (links_from site (record { 0 = n })) → AreIncomingFrom n old → AreEntered (record { 0 = n }) (links_from site (record { 0 = n })) old new → AreIncomingFrom (n + 1) new
  incoming_more n old new rise h entered = record {
    long = entered.long ∙ h.long;
    all = λ a b c below g. elim (cases_lt a.0 n) [
      | inl l ↦ entered.kept b (entry a c) (h.all a b c l g)
      | inr past ↦
          let num : a.0 ≡ n = omega arith in
          let s : a ≡ cell = same_cell a cell num in
          let l = link_of_cost site cell b c (subst (λ x. link_cost site x b ≡ Some c) s g) in
          let m = entered.all l.0 (In_Contains (links_from site cell) l.0 l.1) in
          let m2 : Contains (row_at new b) (entry cell l.0.cost) = subst (λ x. Contains (row_at new x) (entry cell l.0.cost)) l.2 m in
          let m3 : Contains (row_at new b) (entry cell c) = subst (λ k. Contains (row_at new b) (entry cell k)) l.3 m2 in
          subst (λ x. Contains (row_at new b) (entry x c)) (sym s) m3
    ];
    only = λ b e m. elim (entered.only b e m) [
      | inl before ↦ h.only b e before
      | inr k ↦
          let cost = cost_of_link site cell rise k.0 (Contains_In (links_from site cell) k.0 k.1) in
          let cost_b : link_cost site cell b ≡ Some k.0.cost = subst (λ x. link_cost site cell x ≡ Some k.0.cost) k.2 cost in
          subst (λ (x : Entry). link_cost site x.from b ≡ Some x.cost) (sym k.3) cost_b
    ];
  }
    where
      cell : CellNo
      cell = record { 0 = n }

  pub incoming_all : IsSite site → (rows : List (List Entry)) → AreIncomingFrom (cell_count site) rows → AreIncoming site rows
  incoming_all is_site rows h = record {
    long = h.long;
    all = λ a b c g. h.all a b c (is_site.links a b c g).1 g;
    only = h.only;
  }
