-- A state in which nothing is unfinished, without its past: the robots stand in their ends.
use Rattle.std.proofs.Common.{◌≡◌, ◌≢◌, ℕ, ◌<◌, ◌≤◌, true, false, not, ◌⊎◌, inl, inr, refl, sym, ap, ◌∙◌, subst, List, [], map, length, arith, Option, Some, None}
use Rattle.std.proofs.lemmas.Bool.{cases_Bool, cases_lt, not_from_false}
use Rattle.std.proofs.lemmas.List.{append-nil}
use Rattle.std.proofs.lemmas.List.FromFn.{length-map-range_with_len}
use Rattle.std.proofs.lemmas.Option.{slice_get_past}
use Rattle.std.specs.Prelude.{slice_get}
use Rattle.std.specs.Option.{option_map}
use Rattle.fleet_base.specs.declared.numbers.CellNo.{CellNo}
use Rattle.fleet_base.specs.declared.numbers.ClaimNo.{ClaimNo}
use Rattle.fleet_base.specs.declared.numbers.Event.{Event}
use Rattle.fleet_base.specs.declared.numbers.Kind.{Kind}
use Rattle.fleet_model.specs.Lists.{In}
use Rattle.fleet_model.specs.Sites.{Site, IsSite, in_conflict, last_cell, moved_to}
use Rattle.fleet_model.specs.Replays.{AreSteps, IsStanding, Spot, after_kinds, opening, standing, start_at}
use Rattle.fleet_model.specs.Plans.{Fleet, IsBehind, end_of, is_done, kinds, unfinished}
use Rattle.fleet_model.specs.Deferral.{ends}
use Rattle.fleet_model.specs.States.{State}
use Rattle.fleet_model.specs.Good.{IsGood, Opens}
use Rattle.fleet_model.proofs.Accepted.{start_of}
use Rattle.fleet_model.proofs.Ends.{open_at_end, route_still}
use Rattle.fleet_model.proofs.Good.{end_is}
use Rattle.fleet_model.proofs.Lists.{In-filter, In-nil}
use Rattle.fleet_model.proofs.Numbers.{from_one}
use Rattle.fleet_model.proofs.Orders as orders
use Rattle.fleet_model.proofs.Pasts.{IsPast}
use Rattle.fleet_model.proofs.PastTurns.{state_with}
use Rattle.fleet_model.proofs.Safe.{own_behind}
use Rattle.fleet_model.proofs.Steps.{moved_to-steps}
use Rattle.fleet_model.proofs.Tables.{finished_kept, table_get}
use Rattle.fleet_model.proofs.Walks.{start_stands, steps_stand}

-- the state without its past
abbrev pub settled : State → State
settled s = record s { fleet = record s.fleet { starts = ends s.fleet; plan = []; finished = [] } }

-- behind whole steps a robot stands in the last cell, as if it started there
walk_settles : (site : Site) → IsSite site → (o : Option CellNo) (ks : List Kind) → AreSteps site o ks → after_kinds (start_at site o) ks ≡ start_at site (option_map (λ a. last_cell a (moved_to ks)) o)
walk_settles site is_site None ks h = ap (after_kinds (start_at site None)) h
walk_settles site is_site (Some a) ks h = (λ i. record { cell = stands.cell i; holds = λ d. stands.holds d i }) ∙ ap (λ cells. standing site (last_cell a cells)) (sym cells_are)
  where
    stands : IsStanding site (after_kinds (standing site a) ks) (last_cell a h.0)
    stands = rw h.2 (steps_stand site is_site (standing site a) a h.0 (start_stands site is_site a)).1

    cells_are : moved_to ks ≡ h.0
    cells_are = ap moved_to h.2 ∙ moved_to-steps site a h.0

module _ (s : State) (is_site : IsSite s.fleet.site) (good : IsGood s) where
  abbrev m : Fleet
  m = s.fleet

  -- the ends are as many as the starts
  pub ends_count : length (ends m) ≡ length m.starts
  ends_count = length-map-range_with_len (end_of m) 0 (length m.starts)

  -- what a robot's steps from its start lead to
  settles : (r : ℕ) → after_kinds (opening m.site m.starts r) (kinds r m.plan) ≡ start_at m.site (option_map (λ a. last_cell a (moved_to (kinds r m.plan))) (slice_get m.starts r))
  settles r = walk_settles m.site is_site (slice_get m.starts r) (kinds r m.plan) (good.plan.walks r)

  -- each robot's end is where its steps lead
  end_there : (r : ℕ) → slice_get (ends m) r ≡ option_map (λ a. last_cell a (moved_to (kinds r m.plan))) (slice_get m.starts r)
  end_there r = go (cases_lt r (length m.starts))
    where
      at : (a : CellNo) → slice_get m.starts r ≡ Some a → end_of m r ≡ last_cell a (moved_to (kinds r m.plan))
      at a start = end_is m r ∙ (ap (λ (t : Spot). t.cell) (settles r) ∙ ap (λ o. (start_at m.site (option_map (λ b. last_cell b (moved_to (kinds r m.plan))) o)).cell) start)

      go : (r < length m.starts) ⊎ (length m.starts ≤ r) → slice_get (ends m) r ≡ option_map (λ a. last_cell a (moved_to (kinds r m.plan))) (slice_get m.starts r)
      go (inl l) =
          let a = start_of m.starts r l in
          table_get (end_of m) (length m.starts) r l ∙ (ap (λ x. Some x) (at a.0 a.1) ∙ sym (ap (option_map (λ b. last_cell b (moved_to (kinds r m.plan)))) a.1))
      go (inr l) = slice_get_past (ends m) r (omega (arith, ends_count)) ∙ sym (ap (option_map (λ b. last_cell b (moved_to (kinds r m.plan)))) (slice_get_past m.starts r l))

  -- behind its steps a robot is where it starts without the past
  stands_there : (r : ℕ) → after_kinds (opening m.site m.starts r) (kinds r m.plan) ≡ opening m.site (ends m) r
  stands_there r = settles r ∙ ap (start_at m.site) (sym (end_there r))

  -- no two robots stand on claims that conflict
  pub ends_free : (r q : ℕ) (c d : ClaimNo) → r ≢ q → in_conflict m.site.groups c d ≡ true → (opening m.site (ends m) r).holds c ≡ true → (opening m.site (ends m) q).holds d ≡ true → ⊥
  ends_free r q c d apart conflict hc hd =
      let x = open_at_end m good.plan r c (ap (λ (t : Spot). t.holds c) (stands_there r) ∙ hc) in
      let y = open_at_end m good.plan q d (ap (λ (t : Spot). t.holds d) (stands_there q) ∙ hd) in
      elim (good.plan.uses r q c d x.0 y.0 apart conflict x.1 y.1) [ inl k ↦ x.2 y.0 k | inr k ↦ y.2 x.0 k ]

  pub settled_good : IsGood (settled s)
  settled_good = record {
    plan = record {
      numbers = tt;
      first = good.plan.first;
      opened = good.plan.opened;
      next = λ e i. elim i [ ];
      walks = λ r. no_steps (slice_get (ends m) r);
      finished = tt;
      uses = λ r q c d a b apart conflict x y. absurd (held r q c d a b apart conflict x y);
    };
    places = good.places ∙ sym ends_count;
    routes = λ r route pends. route_still m (settled s).fleet r route refl (end_is m r ∙ ap (λ (t : Spot). t.cell) (stands_there r)) (good.routes r route pends);
    first = good.first;
    numbers = good.numbers;
    base = good.base;
    room = (let room = good.room in omega arith);
    total = (let total = good.total in omega arith);
  }
    where
      no_steps : (o : Option CellNo) → AreSteps m.site o []
      no_steps None = refl
      no_steps (Some a) = ([], tt, refl)

      held : (r q : ℕ) (c d : ClaimNo) (a b : ℕ) → r ≢ q → in_conflict m.site.groups c d ≡ true → Opens (settled s).fleet r c a → Opens (settled s).fleet q d b → ⊥
      held r q c d a b apart conflict (inl x) (inl y) = ends_free r q c d apart conflict x.1 y.1
      held r q c d a b apart conflict (inr x) y = In-nil x.1
      held r q c d a b apart conflict (inl x) (inr y) = In-nil y.1

  module _ (none : unfinished m ≡ []) where
    -- all is done
    done : (e : Event) → In e m.plan → is_done m.finished e ≡ true
    done e i = go (cases_Bool (is_done m.finished e))
      where
        go : (is_done m.finished e ≡ true) ⊎ (is_done m.finished e ≡ false) → is_done m.finished e ≡ true
        go (inl t) = t
        go (inr u) = absurd (In-nil (subst (λ es. In e es) none (In-filter (λ f. not (is_done m.finished f)) m.plan i (not_from_false (is_done m.finished e) u))))

    pub settled_past : IsPast m (settled s).fleet
    settled_past = record {
      done = done;
      planned = kept.planned;
      kinds_done = λ r. ap (map (λ (e : Event). e.kind)) (orders.all_own (IsBehind m.site.groups) m.plan (from_one m good.plan) (own_behind m.site) m.finished r kept (λ g i of. done g i));
      early = good.plan.next;
      late = λ e i. elim i [ ];
      next = omega arith;
      count = sym ends_count;
      walks = good.plan.walks;
      starts = end_there;
      settled = stands_there;
    }
      where
        kept : orders.IsKept (IsBehind m.site.groups) m.plan m.finished
        kept = finished_kept m good.plan

  -- with the past in front again it is the state
  pub settled_whole : state_with m (settled s) ≡ s
  settled_whole = λ i. record s { fleet = record m { plan = append-nil m.plan i; finished = append-nil m.finished i } }
