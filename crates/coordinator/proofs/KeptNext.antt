-- A coordinator is kept by an accepted call whose state its tables show.
use Rattle.std.proofs.Common.{◌≡◌, ℕ, suc, Bool, true, false, cond, not, ◌==◌, ◌+◌, ◌-◌, ◌<◌, ◌≤◌, List, [], ◌∷◌, ◌++◌, length, Option, Some, None, sym, ap, subst, ◌∙◌, arith, eq-eqb, refl}
use Rattle.std.proofs.lemmas.Bool.{not_from_true}
use Rattle.std.proofs.lemmas.List.{append-nil}
use Rattle.std.proofs.lemmas.Option.{same_Some, slice_get-get_or}
use Rattle.std.specs.Prelude.{Vec, slice_get, vec_len}
use Rattle.std.specs.Vec.{vec_capacity}
use Rattle.std.specs.Global.{Global}
use Rattle.std.specs.Option.{is_some, option_to_list}
use Rattle.fleet_base.specs.declared.entries.Entry.{Entry}
use Rattle.fleet_base.specs.declared.marks.Mark.{Mark}
use Rattle.fleet_base.specs.declared.numbers.CellNo.{CellNo}
use Rattle.fleet_model.specs.Lists.{when}
use Rattle.fleet_model.proofs.Options.{some_of}
use Rattle.fleet_model.specs.Sites.{IsSite}
use Rattle.fleet_model.specs.States.{State, base_behind, is_full, is_past, pending_of}
use Rattle.fleet_model.specs.Calls.{Call, turn}
use Rattle.fleet_model.specs.Good.{IsGood}
use Rattle.fleet_model.specs.Journals.{IsJournal}
use Rattle.fleet_model.specs.Segments.{inner_marks, mark_at, opens_segment}
use Rattle.fleet_model.specs.Segments.{marks as all_marks}
use Rattle.fleet_model.specs.Tables.{IsCounted}
use Rattle.fleet_model.proofs.GoodStates.{opening_good}
use Rattle.fleet_model.proofs.Marks.{last_mark, marks_more}
use Rattle.fleet_model.proofs.Room.{drop_owes}
use Rattle.fleet_model.proofs.Segments.{past_opens}
use Rattle.fleet_model.proofs.Turns.{own_call}
use Rattle.site_map.specs.Claims.{site_of}
use Rattle.deferral.specs.declared.pending.Pending.{Pending}
use Rattle.deferral.specs.Backlogs as backlogs
use Rattle.coordinator.specs.declared.coordinator.Coordinator.TheInside.{Inside}
use Rattle.coordinator.specs.declared.tables.Tables.{Tables}
use Rattle.coordinator.specs.Books.{Book, opening_of, state_of}
use Rattle.coordinator.specs.Changes.{route_count}
use Rattle.coordinator.specs.Kept.{IsKept, IsStateOf, Shows, shown}
use Rattle.coordinator.proofs.Standing.{Stands, reaches, stands_next}
use Rattle.coordinator.proofs.Transitions.{pending_same}

-- a value under a test, as a list
listed : (b : Bool) (mark : Mark) → option_to_list (when b mark) ≡ cond b (mark ∷ []) []
listed true mark = refl
listed false mark = refl

-- the last element ends its list
last_is : (xs : List Mark) (x : Mark) → slice_get xs (length xs - 1) ≡ Some x → (front : List Mark) × (xs ≡ front ++ x ∷ [])
last_is [] x at = absurd (cc)
last_is (y ∷ []) x at = ([], ap (λ z. z ∷ []) (same_Some y x at))
last_is (y ∷ z ∷ zs) x at =
    let place : length (y ∷ z ∷ zs) - 1 ≡ suc (length (z ∷ zs) - 1) = omega arith in
    let rest = last_is (z ∷ zs) x (subst (λ n. slice_get (y ∷ z ∷ zs) n ≡ Some x) place at) in
    (y ∷ rest.0, ap (λ ys. y ∷ ys) rest.1)

-- a list that has a first element has a last one
none_last : (xs : List Mark) (x : Mark) (rest : List Mark) → xs ≡ x ∷ rest → slice_get xs (length xs - 1) ≡ None → ⊥
none_last xs x rest are none =
    let long : 1 ≤ length xs = omega (arith, ap length are) in
    let there = slice_get-get_or xs (length xs - 1) x (omega arith) in
    absurd (cc)

module _ (c : Inside) (kept : IsKept c) where
  -- the state of the journal
  abbrev pub state : State
  state = state_of (shown c)

  pub stands : Stands (shown c)
  stands = record { site = kept.site; legal = kept.legal; state = kept.state }

  pub good : IsGood state
  good = kept.state.good

  pub site_is : IsSite state.fleet.site
  site_is = subst IsSite (sym kept.state.site) kept.site

  pub counted_is : IsCounted state.fleet.site
  counted_is = subst IsCounted (sym kept.state.site) kept.counted

  pub robot_is : (r : ℕ) → r < length c.from.at.items → r < length state.fleet.starts
  robot_is r known = omega (arith, ap length kept.state.starts)

  -- a robot of the book that callers see
  pub robot_in : (b : Book) → shown c ≡ b → (r : ℕ) → r < length b.starts → r < length state.fleet.starts
  robot_in b seen r known = robot_is r (omega (arith, known, ap (λ (d : Book). length d.starts) seen))

  -- the opening state is good
  opening_is : IsGood (opening_of (shown c))
  opening_is = opening_good (site_of c.site) c.from.at.items c.from.pending.items c.from.next.0 c.cap kept.opening

  -- the last mark is the base of the state
  pub base_is : (mark : Mark) → slice_get c.marks.items (length c.marks.items - 1) ≡ Some mark → state.base ≡ mark.before
  base_is mark at =
      let ends = last_is c.marks.items mark at in
      last_mark (opening_of (shown c)) kept.site opening_is refl refl c.journal.items kept.legal ends.0 mark (sym kept.marks ∙ ends.1)

  -- and there is one
  pub some_mark : slice_get c.marks.items (length c.marks.items - 1) ≡ None → ⊥
  some_mark none = none_last c.marks.items (mark_at (opening_of (shown c))) (inner_marks (opening_of (shown c)) c.journal.items) kept.marks none

  -- the journal with one more entry, and with its mark where it opens a segment, and tables of the state that the call leaves
  module _ (journal : Vec Entry Global) (marks : Vec Mark Global) (tables : Tables) (r : ℕ) (call : Call) (entry : Entry) (gives : (turn state r call).entry ≡ Some entry)
      (items : journal.items ≡ c.journal.items ++ entry ∷ []) (shows : Shows tables (turn state r call).after) (room : vec_len journal + tables.owed ≤ vec_capacity journal)
      (opens : Bool) (opens_is : not ((turn state r call).after.base == state.base) ≡ opens) (marks_are : marks.items ≡ c.marks.items ++ cond opens (mark_at state ∷ []) []) where
    abbrev book : List Entry → Book
    book entries = record (shown c) { journal = entries }

    marks_now : marks.items ≡ all_marks (opening_of (shown c)) journal.items
    marks_now =
        let own = own_call state r call entry site_is gives in
        let opens_there : opens ≡ opens_segment state entry = sym opens_is ∙ ap (λ (n : State). not (n.base == state.base)) (sym own.after) in
        marks_are
        ∙ ((λ i. kept.marks i ++ cond (opens_there i) (mark_at state ∷ []) [])
        ∙ (sym (marks_more (opening_of (shown c)) c.journal.items entry) ∙ ap (all_marks (opening_of (shown c))) (sym items)))

    pub kept_next : IsKept (record c { journal = journal; marks = marks; tables = tables })
    kept_next = record {
      site = kept.site;
      counted = kept.counted;
      known = kept.known;
      opening = kept.opening;
      legal = subst (λ es. IsJournal (opening_of (shown c)) es) (sym items) (stands_next (shown c) r call entry stands gives).legal;
      state = subst (λ es. IsStateOf (state_of (book es)) (book es)) (sym items) (stands_next (shown c) r call entry stands gives).state;
      tables = subst (λ es. Shows tables (state_of (book es))) (sym items) (subst (λ s. Shows tables s) (sym (reaches (shown c) r call entry stands gives)) shows);
      marks = marks_now;
      room = room;
      some = kept.some;
      few = kept.few;
      small = kept.small;
    }

  -- the same for a call that opens no segment
  pub kept_on : (journal : Vec Entry Global) (tables : Tables) (r : ℕ) (call : Call) (entry : Entry) → (turn state r call).entry ≡ Some entry → journal.items ≡ c.journal.items ++ entry ∷ [] → Shows tables (turn state r call).after
      → vec_len journal + tables.owed ≤ vec_capacity journal → (turn state r call).after.base ≡ state.base → IsKept (record c { journal = journal; tables = tables })
  kept_on journal tables r call entry gives items shows room stays =
      kept_next journal c.marks tables r call entry gives items shows room false (not_from_true ((turn state r call).after.base == state.base) (eq-eqb (turn state r call).after.base state.base stays)) (sym (append-nil c.marks.items))

  -- the same for one that grows entries and what is owed by so much
  pub kept_grown : (journal : Vec Entry Global) (marks : Vec Mark Global) (tables : Tables) (r : ℕ) (call : Call) (entry : Entry) (growth : ℕ) → (turn state r call).entry ≡ Some entry → journal.items ≡ c.journal.items ++ entry ∷ [] → Shows tables (turn state r call).after
      → vec_len journal + tables.owed ≤ vec_capacity journal → is_full state growth ≡ false → (turn state r call).after.base ≡ base_behind state growth → marks.items ≡ c.marks.items ++ option_to_list (when (is_past state growth) (mark_at state)) → IsKept (record c { journal = journal; marks = marks; tables = tables })
  kept_grown journal marks tables r call entry growth gives items shows room free base marks_are =
      kept_next journal marks tables r call entry gives items shows room (is_past state growth) (ap (λ n. not (n == state.base)) base ∙ past_opens state growth good.base free)
      (marks_are ∙ ap (λ ms. c.marks.items ++ ms) (listed (is_past state growth) (mark_at state)))

  -- a pending route is owed
  owed_by : (r : ℕ) (o : Option Pending) → backlogs.pending_of c.tables.deferrals r ≡ o → route_count o ≤ c.tables.owed
  owed_by r None is = omega arith
  owed_by r (Some p) is = omega (arith, kept.tables.owed, drop_owes state r p.route (pending_same c.tables state r (Some p) kept.tables is))

  pub route_owed : (r : ℕ) → route_count (backlogs.pending_of c.tables.deferrals r) ≤ c.tables.owed
  route_owed r = owed_by r (backlogs.pending_of c.tables.deferrals r) refl

  -- what is pending by the tables is pending in the state
  pub pending_route : (r : ℕ) (waiting : Bool) → waiting ≡ is_some (backlogs.route_of c.tables.deferrals r) → waiting ≡ true → (route : List CellNo) × (pending_of state r ≡ Some route)
  pending_route r waiting is true_is =
      let some = some_of (backlogs.route_of c.tables.deferrals r) (sym is ∙ true_is) in
      (some.0, sym (kept.tables.deferrals.routes r) ∙ some.1)
