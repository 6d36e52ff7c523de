-- The legs that are served at a robot's stops, as the journal grows.
use Rattle.std.proofs.Common.{◌≡◌, ℕ, suc, ◌+◌, Bool, true, false, cond, ◌==◌, ◌⊎◌, inl, inr, refl, sym, ap, ◌∙◌, subst, List, [], ◌∷◌, ◌++◌, drop, arith, Some, eq-eqb}
use Rattle.std.proofs.lemmas.Bool.{cases_eq, ne_eqb}
use Rattle.std.proofs.lemmas.List.{append-nil, append_assoc, drop-drop}
use Rattle.std.specs.Prelude.{nat_le}
use Rattle.std.specs.List.{filter, prefix_len}
use Rattle.fleet_base.specs.declared.entries.Act.{Act}
use Rattle.fleet_base.specs.declared.entries.Act.TheVariants.{Merged, Deferred, Retried, Canceled, Withdrawn, Replanned, Reported}
use Rattle.fleet_base.specs.declared.entries.Entry.{Entry}
use Rattle.fleet_base.specs.declared.numbers.CellNo.{CellNo}
use Rattle.fleet_model.specs.Lists.{has_cell}
use Rattle.fleet_model.specs.Sites.{IsSite}
use Rattle.fleet_model.specs.Plans.{own, end_of}
use Rattle.fleet_model.specs.States.{State}
use Rattle.fleet_model.specs.Good.{IsGood}
use Rattle.fleet_model.specs.Journals.{turn_at, IsJournal, state_after}
use Rattle.fleet_model.proofs.Changes.{Change, Kept, Dropped, Did, changed, Tells, Accepts}
use Rattle.fleet_model.proofs.GoodStates.{accepts_at, journal_good, turn_good}
use Rattle.fleet_model.proofs.Soundness.{journal_parts}
use Rattle.mission_model.specs.Stops.{Leg, Stop, last_number, last_stop, stops_after, stops_from, stops_of, serve_on, serve_along, served}
use Rattle.mission_model.specs.Serving.{AreOthers, KeepsEvents}
use Rattle.mission_model.proofs.Journals.{end_still, state_more, last_told}

-- Serving on.

-- how many legs from the front on have goals that contain the cell
abbrev reached : CellNo → List Leg → ℕ
reached a legs = prefix_len (λ goal. has_cell goal a) legs

-- behind the legs whose goals contain the cell there is none at the front
reached_all : (a : CellNo) (legs : List Leg) → reached a (drop (reached a legs) legs) ≡ 0
reached_all a [] = refl
reached_all a (goal ∷ goals) = go (has_cell goal a) refl (reached_all a goals)
  where
    go : (b : Bool) → has_cell goal a ≡ b → reached a (drop (reached a goals) goals) ≡ 0 → reached a (drop (cond b (1 + reached a goals) 0) (goal ∷ goals)) ≡ 0
    go true e ih = let more : 1 + reached a goals ≡ suc (reached a goals) = omega arith in ap (λ n. reached a (drop n (goal ∷ goals))) more ∙ ih
    go false e ih = ap (λ b. cond b (1 + reached a goals) 0) e

-- what is behind a place behind another
drop_more : {A : Type 0} (n k : ℕ) (xs : List A) → drop (n + k) xs ≡ drop k (drop n xs)
drop_more n k xs = sym (drop-drop k n xs)

-- serving on at a cell twice serves no more than once
pub serve_on_twice : (legs : List Leg) (a : CellNo) (count : ℕ) → serve_on legs a (serve_on legs a count) ≡ serve_on legs a count
serve_on_twice legs a count =
    let k = reached a (drop count legs) in
    ap (λ xs. count + k + reached a xs) (drop_more count k legs) ∙ (ap (λ n. count + k + n) (reached_all a (drop count legs)) ∙ omega arith)

pub serve_along-append : (legs : List Leg) (count : ℕ) (front back : List Stop) → serve_along legs count (front ++ back) ≡ serve_along legs (serve_along legs count front) back
serve_along-append legs count [] back = refl
serve_along-append legs count (stop ∷ stops) back = serve_along-append legs (serve_on legs stop.cell count) stops back

-- Stops.

pub stops_from-append : (s : State) (r : ℕ) (stops : List Stop) (before behind : List Entry) → stops_from s r stops (before ++ behind) ≡ stops_from (state_after s before) r (stops_from s r stops before) behind
stops_from-append s r stops [] behind = refl
stops_from-append s r stops (x ∷ xs) behind =
    stops_from-append (turn_at s x).after r (cond (x.robot.0 == r) (stops_after (turn_at s x).after.fleet r x.act stops) stops) xs behind

-- the last of these stops is in the cell
pub record EndIn (stops : List Stop) (a : CellNo) : Type 0 where
  pub front : List Stop
  pub stop : Stop
  pub splits : stops ≡ front ++ stop ∷ []
  pub cell : stop.cell ≡ a

-- an accepted act of the robot's own leaves its last stop at its end
own_ends : (s : State) (r : ℕ) (c : Change) (act : Act) (stops : List Stop) → Tells s r c act → EndIn stops (end_of s.fleet r) → EndIn (stops_after (changed s r c).fleet r act stops) (end_of (changed s r c).fleet r)
own_ends s r c (Merged route first) stops t h = record { front = stops; stop = last_stop (changed s r c).fleet r; splits = refl; cell = refl }
own_ends s r c (Retried first) stops t h = record { front = stops; stop = last_stop (changed s r c).fleet r; splits = refl; cell = refl }
own_ends s r c (Replanned route first) stops t h = record { front = stops; stop = last_stop (changed s r c).fleet r; splits = refl; cell = refl }
own_ends s r c (Withdrawn removed end) stops t h = record {
  front = filter (λ (stop : Stop). nat_le stop.number (last_number 0 (own r (changed s r c).fleet.plan))) stops;
  stop = last_stop (changed s r c).fleet r;
  splits = refl;
  cell = refl;
}
own_ends s r (Kept route) (Deferred cells cycle) stops t h = h
own_ends s r c (Deferred cells cycle) stops t h = absurd t
own_ends s r Dropped Canceled stops t h = h
own_ends s r c Canceled stops t h = absurd t
own_ends s r (Did e) (Reported event) stops t h = record { front = h.front; stop = h.stop; splits = h.splits; cell = h.cell }
own_ends s r c (Reported event) stops t h = absurd t

-- an accepted call leaves the last stop of each robot at its end
ends_on : (s : State) (entry : Entry) (r : ℕ) (stops : List Stop) → IsSite s.fleet.site → IsGood s → (turn_at s entry).entry ≡ Some entry → EndIn stops (end_of s.fleet r)
    → EndIn (cond (entry.robot.0 == r) (stops_after (turn_at s entry).after.fleet r entry.act stops) stops) (end_of (turn_at s entry).after.fleet r)
ends_on s entry r stops is_site good told h = go (cases_eq entry.robot.0 r)
  where
    a : Accepts s entry.robot.0 entry (turn_at s entry).after
    a = accepts_at s entry is_site good told

    Ends : Bool → Type 0
    Ends b = EndIn (cond b (stops_after (turn_at s entry).after.fleet r entry.act stops) stops) (end_of (turn_at s entry).after.fleet r)

    go : (entry.robot.0 ≡ r) ⊎ (entry.robot.0 ≡ r → ⊥) → Ends (entry.robot.0 == r)
    go (inl e) =
        let at : EndIn (stops_after (changed s entry.robot.0 a.change).fleet entry.robot.0 entry.act stops) (end_of (changed s entry.robot.0 a.change).fleet entry.robot.0)
        = own_ends s entry.robot.0 a.change entry.act stops a.tells (subst (λ n. EndIn stops (end_of s.fleet n)) (sym e) h) in
        let after : EndIn (stops_after (turn_at s entry).after.fleet entry.robot.0 entry.act stops) (end_of (turn_at s entry).after.fleet entry.robot.0)
        = subst (λ n. EndIn (stops_after n.fleet entry.robot.0 entry.act stops) (end_of n.fleet entry.robot.0)) (sym a.after_is) at in
        subst Ends (sym (eq-eqb entry.robot.0 r e)) (subst (λ n. EndIn (stops_after (turn_at s entry).after.fleet n entry.act stops) (end_of (turn_at s entry).after.fleet n)) e after)
    go (inr n) =
        subst Ends (sym (ne_eqb entry.robot.0 r n)) (subst (λ c. EndIn stops c) (sym (end_still s entry r is_site good told n)) h)

-- the last stop of each robot is at its end
stops_end : (s : State) (r : ℕ) (stops : List Stop) (journal : List Entry) → IsSite s.fleet.site → IsGood s → IsJournal s journal → EndIn stops (end_of s.fleet r) → EndIn (stops_from s r stops journal) (end_of (state_after s journal).fleet r)
stops_end s r stops [] is_site good legal h = h
stops_end s r stops (x ∷ xs) is_site good legal h =
    let g = turn_good s x is_site good legal.0 in
    stops_end (turn_at s x).after r (cond (x.robot.0 == r) (stops_after (turn_at s x).after.fleet r x.act stops) stops) xs g.1 g.0 legal.1 (ends_on s x r stops is_site good legal.0 h)

pub last_stop_at_end : (opening : State) (journal : List Entry) (r : ℕ) → IsSite opening.fleet.site → IsGood opening → IsJournal opening journal → EndIn (stops_of opening journal r) (end_of (state_after opening journal).fleet r)
last_stop_at_end opening journal r is_site good legal =
    stops_end opening r (record { number = 0; cell = end_of opening.fleet r } ∷ []) journal is_site good legal (record { front = []; stop = record { number = 0; cell = end_of opening.fleet r }; splits = refl; cell = refl })

-- Served legs.

-- at a robot's end nothing is left to be served
pub served_at_end : (legs : List Leg) (opening : State) (journal : List Entry) (r : ℕ) → IsSite opening.fleet.site → IsGood opening → IsJournal opening journal
    → serve_on legs (end_of (state_after opening journal).fleet r) (served legs opening journal r) ≡ served legs opening journal r
served_at_end legs opening journal r is_site good legal =
    let e = last_stop_at_end opening journal r is_site good legal in
    let count = serve_along legs 0 e.front in
    let is : served legs opening journal r ≡ serve_on legs (end_of (state_after opening journal).fleet r) count
    = ap (serve_along legs 0) e.splits ∙ (serve_along-append legs 0 e.front (e.stop ∷ []) ∙ ap (λ c. serve_on legs c count) e.cell) in
    ap (serve_on legs (end_of (state_after opening journal).fleet r)) is ∙ (serve_on_twice legs (end_of (state_after opening journal).fleet r) count ∙ sym is)

-- the stops behind one entry more
stops_more : (opening : State) (journal : List Entry) (entry : Entry) (r : ℕ) (b : Bool) → (entry.robot.0 == r) ≡ b
    → stops_of opening (journal ++ entry ∷ []) r ≡ cond b (stops_after (turn_at (state_after opening journal) entry).after.fleet r entry.act (stops_of opening journal r)) (stops_of opening journal r)
stops_more opening journal entry r b e =
    stops_from-append opening r (record { number = 0; cell = end_of opening.fleet r } ∷ []) journal (entry ∷ [])
    ∙ ap (λ x. cond x (stops_after (turn_at (state_after opening journal) entry).after.fleet r entry.act (stops_of opening journal r)) (stops_of opening journal r)) e

-- an entry of another robot leaves the count
pub served_by_others : (legs : List Leg) (opening : State) (journal : List Entry) (entry : Entry) (r : ℕ) → (entry.robot.0 ≡ r → ⊥) → served legs opening (journal ++ entry ∷ []) r ≡ served legs opening journal r
served_by_others legs opening journal entry r n = ap (serve_along legs 0) (stops_more opening journal entry r false (ne_eqb entry.robot.0 r n))

-- entries of other robots leave the stops
pub stops_still : (opening : State) (journal entries : List Entry) (r : ℕ) → AreOthers r entries → stops_of opening (journal ++ entries) r ≡ stops_of opening journal r
stops_still opening journal [] r others = ap (λ j. stops_of opening j r) (append-nil journal)
stops_still opening journal (entry ∷ entries) r others =
    ap (λ j. stops_of opening j r) (sym (append_assoc journal (entry ∷ []) entries))
    ∙ (stops_still opening (journal ++ entry ∷ []) entries r others.1 ∙ stops_more opening journal entry r false (ne_eqb entry.robot.0 r others.0))

-- an own act that takes no event back serves on at the end that it leaves
own_served : (legs : List Leg) (s : State) (r : ℕ) (c : Change) (act : Act) (stops : List Stop) → Tells s r c act → KeepsEvents act → serve_on legs (end_of s.fleet r) (serve_along legs 0 stops) ≡ serve_along legs 0 stops
    → serve_along legs 0 (stops_after (changed s r c).fleet r act stops) ≡ serve_on legs (end_of (changed s r c).fleet r) (serve_along legs 0 stops)
own_served legs s r c (Merged route first) stops t keeps h = serve_along-append legs 0 stops (last_stop (changed s r c).fleet r ∷ [])
own_served legs s r c (Retried first) stops t keeps h = serve_along-append legs 0 stops (last_stop (changed s r c).fleet r ∷ [])
own_served legs s r c (Replanned route first) stops t keeps h = serve_along-append legs 0 stops (last_stop (changed s r c).fleet r ∷ [])
own_served legs s r c (Withdrawn removed end) stops t keeps h = absurd keeps
own_served legs s r (Kept route) (Deferred cells cycle) stops t keeps h = sym h
own_served legs s r c (Deferred cells cycle) stops t keeps h = absurd t
own_served legs s r Dropped Canceled stops t keeps h = sym h
own_served legs s r c Canceled stops t keeps h = absurd t
own_served legs s r (Did e) (Reported event) stops t keeps h = sym h
own_served legs s r c (Reported event) stops t keeps h = absurd t

module _ (legs : List Leg) (opening : State) (journal : List Entry) (entry : Entry) (is_site : IsSite opening.fleet.site) (good : IsGood opening) (legal : IsJournal opening (journal ++ entry ∷ [])) where
  -- the state in front of the entry
  abbrev before : State
  before = state_after opening journal

  -- the entry of an accepted call that takes no event back serves on at the end that it leaves
  pub served_by_own : KeepsEvents entry.act → served legs opening (journal ++ entry ∷ []) entry.robot.0 ≡ serve_on legs (end_of (state_after opening (journal ++ entry ∷ [])).fleet entry.robot.0) (served legs opening journal entry.robot.0)
  served_by_own keeps =
      let parts = last_told opening journal entry legal in
      let g = journal_good opening journal is_site good parts.0 in
      let a = accepts_at before entry g.1 g.0 parts.1 in
      let stops = stops_of opening journal entry.robot.0 in
      let own = own_served legs before entry.robot.0 a.change entry.act stops a.tells keeps (served_at_end legs opening journal entry.robot.0 is_site good parts.0) in
      let after : serve_along legs 0 (stops_after (turn_at before entry).after.fleet entry.robot.0 entry.act stops) ≡ serve_on legs (end_of (turn_at before entry).after.fleet entry.robot.0) (serve_along legs 0 stops)
      = subst (λ n. serve_along legs 0 (stops_after n.fleet entry.robot.0 entry.act stops) ≡ serve_on legs (end_of n.fleet entry.robot.0) (serve_along legs 0 stops)) (sym a.after_is) own in
      ap (serve_along legs 0) (stops_more opening journal entry entry.robot.0 true (eq-eqb entry.robot.0 entry.robot.0 refl))
      ∙ (after ∙ ap (λ n. serve_on legs (end_of n.fleet entry.robot.0) (served legs opening journal entry.robot.0)) (sym (state_more opening journal entry)))

  -- an entry of another robot leaves a robot its end
  pub end_by_others : (r : ℕ) → (entry.robot.0 ≡ r → ⊥) → end_of (state_after opening (journal ++ entry ∷ [])).fleet r ≡ end_of (state_after opening journal).fleet r
  end_by_others r apart =
      let parts = last_told opening journal entry legal in
      let g = journal_good opening journal is_site good parts.0 in
      ap (λ n. end_of n.fleet r) (state_more opening journal entry) ∙ end_still before entry r g.1 g.0 parts.1 apart

-- entries of other robots leave a robot its end and its count
pub others_leave : (legs : List Leg) (opening : State) (journal entries : List Entry) (r : ℕ) → IsSite opening.fleet.site → IsGood opening → IsJournal opening (journal ++ entries) → AreOthers r entries
    → (end_of (state_after opening (journal ++ entries)).fleet r ≡ end_of (state_after opening journal).fleet r) × (served legs opening (journal ++ entries) r ≡ served legs opening journal r)
others_leave legs opening journal [] r is_site good legal others = (ap (λ j. end_of (state_after opening j).fleet r) (append-nil journal), ap (λ j. served legs opening j r) (append-nil journal))
others_leave legs opening journal (entry ∷ entries) r is_site good legal others =
    let more : journal ++ (entry ∷ entries) ≡ (journal ++ entry ∷ []) ++ entries = sym (append_assoc journal (entry ∷ []) entries) in
    let legal_on : IsJournal opening ((journal ++ entry ∷ []) ++ entries) = subst (IsJournal opening) more legal in
    let ih = others_leave legs opening (journal ++ entry ∷ []) entries r is_site good legal_on others.1 in
    let one = (journal_parts opening (journal ++ entry ∷ []) entries legal_on).0 in (
      ap (λ j. end_of (state_after opening j).fleet r) more ∙ (ih.0 ∙ end_by_others legs opening journal entry is_site good one r others.0),
      ap (λ j. served legs opening j r) more ∙ (ih.1 ∙ served_by_others legs opening journal entry r others.0),
    )
