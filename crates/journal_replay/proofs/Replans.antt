-- A replan that is replayed.
use Rattle.std.proofs.Common.{◌≡◌, ◌≢◌, ℕ, ◌-◌, ◌<◌, ◌≤◌, ◌||◌, ◌==◌, Bool, true, eqb, eq-eqb, inl, inr, List, [], ◌∷◌, ◌++◌, length, Some, None, Ok, Err, Result, refl, sym, ap, subst, ◌∙◌, arith}
use lib.Pointwise.{pointwise}
use Rattle.std.proofs.lemmas.Bool.{and_from, and_parts, eqb-true, false≢true}
use Rattle.std.proofs.lemmas.List.{length_push}
use Rattle.std.proofs.lemmas.Option.{same_Some}
use Rattle.std.specs.Cmp.{nat_cmp_total, unsigned_tied}
use Rattle.std.specs.FinSet.{FinSet, contains, contains-empty, contains-insert, empty, insert}
use Rattle.std.specs.Option.{option_to_list, unwrap_or}
use Rattle.std.specs.Ordering.{nat_cmp}
use Rattle.std.specs.Prelude.{IsErrAnd, slice_get}
use Rattle.fleet_base.specs.declared.answers.ReplanRefused.{ReplanRefused}
use Rattle.fleet_base.specs.declared.answers.ReplanRefused.TheVariants as replan_refused
use Rattle.fleet_base.specs.declared.entries.Act.TheVariants.{Replanned}
use Rattle.fleet_base.specs.declared.entries.Entry.{Entry}
use Rattle.fleet_base.specs.declared.numbers.CellNo.{CellNo}
use Rattle.fleet_base.specs.declared.numbers.EventNo.{EventNo}
use Rattle.fleet_base.specs.declared.numbers.Span.{Span}
use Rattle.fleet_model.specs.Calls.{accepted, detour_of, first_of, in_segment, merge_growth, replan, replan_refusals, span_of, with_route}
use Rattle.fleet_model.specs.Journals.{last_of}
use Rattle.fleet_model.specs.Lists.{In, first_some, here, there, has_cell}
use Rattle.fleet_model.specs.Plans.{IsRoute, end_of}
use Rattle.fleet_model.specs.Sites.{IsSite, IsWalk, Site, last_cell}
use Rattle.fleet_model.specs.States.{State}
use Rattle.fleet_model.proofs.Accepted.{replanned}
use Rattle.fleet_model.proofs.Detours.{detour_route}
use Rattle.fleet_model.proofs.Options.{when_none}
use Rattle.fleet_model.proofs.Shortcuts.{walk_within}
use Rattle.fleet_model.proofs.Tables.{same_test}
use Rattle.route_plan.specs.Labels.{has}
use Rattle.coordinator.specs.Books.{Book, state_of, with_entries}
use Rattle.coordinator.specs.Replans.{IsReplanAnswer}
use Rattle.journal_replay.specs.declared.entry.EntryRefused.{EntryRefused}
use Rattle.journal_replay.specs.Taken.{IsGiven, IsTaken, of_replan}
use Rattle.journal_replay.proofs.Gives.{accepted_gives, entry_of, refused_gives}

at_last : (a : CellNo) (bs : List CellNo) → slice_get (a ∷ bs) (length bs) ≡ Some (last_cell a bs)
at_last a [] = refl
at_last a (b ∷ bs) = at_last b bs

-- the cell at the last place is the last
pub last_is : (cells : List CellNo) (cell : CellNo) → slice_get cells (length cells - 1) ≡ Some cell → last_of cells ≡ cell ∷ []
last_is [] cell is = absurd (cc)
last_is (a ∷ bs) cell is =
    let count : length bs ≡ length (a ∷ bs) - 1 = omega arith in
    ap (λ c. c ∷ []) (same_Some (last_cell a bs) cell (sym (at_last a bs) ∙ ap (slice_get (a ∷ bs)) count ∙ is))

-- the set of one cell
pub only_cell : (numbers : FinSet nat_cmp) (cell : CellNo) → numbers ≡ insert empty cell.0 → (a : CellNo) → has numbers a ≡ has_cell (cell ∷ []) a
only_cell numbers cell is a =
    ap (λ u. has u a) is
    ∙ contains-insert nat_cmp_total empty cell.0 a.0
    ∙ ap (λ b. b || contains none a.0) (unsigned_tied a.0 cell.0 ∙ same_test a.0 cell.0)
    ∙ ap (λ b. (cell.0 == a.0) || b) (contains-empty nat_cmp a.0)
  where
    none : FinSet nat_cmp
    none = empty

-- lists of cells that are equal place by place are the same
pub equal_same : (xs ys : List CellNo) → pointwise (λ x y. eqb x.0 y.0) xs ys ≡ true → xs ≡ ys
equal_same [] [] is = refl
equal_same [] (y ∷ ys) is = absurd (false≢true is)
equal_same (x ∷ xs) [] is = absurd (false≢true is)
equal_same (x ∷ xs) (y ∷ ys) is =
    let parts = and_parts (eqb x.0 y.0) (pointwise (λ x y. eqb x.0 y.0) xs ys) is in
    let first = eqb-true x.0 y.0 parts.0 in
    let rest = equal_same xs ys parts.1 in
    λ i. record { 0 = first i } ∷ rest i

pub same_equal : (xs : List CellNo) → pointwise (λ x y. eqb x.0 y.0) xs xs ≡ true
same_equal [] = refl
same_equal (x ∷ xs) = and_from (eqb x.0 x.0) (pointwise (λ x y. eqb x.0 y.0) xs xs) (eq-eqb x.0 x.0 refl) (same_equal xs)

pushed_at : (xs : List Entry) (e : Entry) → slice_get (xs ++ e ∷ []) (length xs) ≡ Some e
pushed_at [] e = refl
pushed_at (x ∷ xs) e = pushed_at xs e

-- an entry that was added last is the last
last_pushed : (xs : List Entry) (e : Entry) → slice_get (xs ++ e ∷ []) (length (xs ++ e ∷ []) - 1) ≡ Some e
last_pushed xs e =
    let count : length (xs ++ e ∷ []) - 1 ≡ length xs = omega (arith, length_push xs e) in
    ap (slice_get (xs ++ e ∷ [])) count ∙ pushed_at xs e

-- a refusal that is handed on
pub handed_on : (entry : Entry) (old new : Book) (result : Result (Unit {0}) EntryRefused) (e : EntryRefused) → IsErrAnd result (λ x. x ≡ e) → IsTaken entry old new (Err e) → IsTaken entry old new result
handed_on entry old new (Ok done) e is taken = absurd is
handed_on entry old new (Err x) e is taken = subst (λ y. IsTaken entry old new (Err y)) (sym is) taken

last_in : (b : CellNo) (bs : List CellNo) → In (last_cell b bs) (b ∷ bs)
last_in b [] = here refl
last_in b (c ∷ bs) = there (last_in c bs)

-- a legal route ends in a cell of its site
end_within : (site : Site) (route : List CellNo) → IsSite site → 2 ≤ length route → IsWalk site route → (cell : CellNo) × (last_of route ≡ cell ∷ []) × (cell.0 < 1024)
end_within site [] is long walk = absurd (omega arith)
end_within site (a ∷ []) is long walk = absurd (omega arith)
end_within site (a ∷ b ∷ bs) is long walk = (
  last_cell b bs,
  refl,
  (let within = walk_within site is a (b ∷ bs) walk (last_cell b bs) (last_in b bs) in omega (arith, within, is.small)),
)

pub route_of_replan : (v w : List CellNo) (m n : EventNo) → Replanned v m ≡ Replanned w n → v ≡ w
route_of_replan v w m n e = cc

-- the route of a replan that the machine gives ends in a cell of the site
pub given_end : (s : State) (r : ℕ) (route : List CellNo) (first : EventNo) → IsSite s.fleet.site → (replan s r (has_cell (last_of route))).entry ≡ Some (entry_of r (Replanned route first)) → (cell : CellNo) × (last_of route ≡ cell ∷ []) × (cell.0 < 1024)
given_end s r route first is_site gives =
    let goal = has_cell (last_of route) in
    let found = replanned s r goal (entry_of r (Replanned route first)) gives in
    let same : found.route ≡ route = sym (route_of_replan route found.route first (first_of s) found.act) in
    let legal : IsRoute s.fleet r route = subst (IsRoute s.fleet r) same (detour_route s.fleet r goal found.route is_site (when_none (goal (end_of s.fleet r)) replan_refused.AtGoal found.none.1.1.0) found.found) in
    end_within s.fleet.site route is_site legal.long legal.linked

ok_is : (span : Span) (due : Result Span ReplanRefused) → IsReplanAnswer (Ok span) due → due ≡ Ok span
ok_is span due (inl is) = sym is
ok_is span due (inr p) = absurd (let other = p.0 in cc)

err_is : (e : ReplanRefused) (due : Result Span ReplanRefused) → e ≢ replan_refused.NoMemory → IsReplanAnswer (Err e) due → due ≡ Err e
err_is e due some (inl is) = sym is
err_is e due some (inr p) = absurd (some (let other = p.0 in cc))

-- an accepted replan adds the entry of its detour
pub replan_gives : (s : State) (r : ℕ) (goal : CellNo → Bool) (span : Span) → IsReplanAnswer (Ok span) (replan s r goal).answer → (route : List CellNo) × ((replan s r goal).entry ≡ Some (entry_of r (Replanned route (first_of s))))
replan_gives s r goal span answer =
    let detour = detour_of s.fleet r goal in
    let route = unwrap_or detour [] in
    (route, (accepted_gives (first_some (replan_refusals s r goal detour)) s (span_of s route) r (Replanned route (first_of s)) (in_segment s (merge_growth s route) (with_route s r route)) span (ok_is span (replan s r goal).answer answer)).0)

-- a refused one adds none
replan_adds_none : (s : State) (r : ℕ) (goal : CellNo → Bool) (e : ReplanRefused) → e ≢ replan_refused.NoMemory → IsReplanAnswer (Err e) (replan s r goal).answer → (replan s r goal).entry ≡ None
replan_adds_none s r goal e some answer =
    let detour = detour_of s.fleet r goal in
    let route = unwrap_or detour [] in
    refused_gives (first_some (replan_refusals s r goal detour)) s (accepted (span_of s route) r (Replanned route (first_of s)) (in_segment s (merge_growth s route) (with_route s r route))) (span_of s route) e refl (err_is e (replan s r goal).answer some answer)

not_taken : (s : State) (r : ℕ) (goal : CellNo → Bool) (entry : Entry) (e : ReplanRefused) → e ≢ replan_refused.NoMemory → IsReplanAnswer (Err e) (replan s r goal).answer → (replan s r goal).entry ≡ Some entry → ⊥
not_taken s r goal entry e some answer given = (let none = replan_adds_none s r goal e some answer in cc)

module _ (old : Book) (r : ℕ) (route : List CellNo) (first : EventNo) (goal : CellNo → Bool) (same : (a : CellNo) → goal a ≡ has_cell (last_of route) a) where
  tests : has_cell (last_of route) ≡ goal
  tests = λ i a. sym (same a) i

  abbrev entry : Entry
  entry = entry_of r (Replanned route first)

  given_here : IsGiven (state_of old) entry → (replan (state_of old) r goal).entry ≡ Some entry
  given_here given = subst (λ g. (replan (state_of old) r g).entry ≡ Some entry) tests given

  -- an entry whose replan is refused isn't given
  pub refused_taken : (new : Book) (e : ReplanRefused) → IsReplanAnswer (Err e) (replan (state_of old) r goal).answer → IsTaken entry old new (Err (of_replan e))
  refused_taken new replan_refused.UnknownRobot answer = λ given. not_taken (state_of old) r goal entry replan_refused.UnknownRobot (λ x. absurd (cc)) answer (given_here given)
  refused_taken new replan_refused.NoPending answer = λ given. not_taken (state_of old) r goal entry replan_refused.NoPending (λ x. absurd (cc)) answer (given_here given)
  refused_taken new replan_refused.AtGoal answer = λ given. not_taken (state_of old) r goal entry replan_refused.AtGoal (λ x. absurd (cc)) answer (given_here given)
  refused_taken new replan_refused.NoDetour answer = λ given. not_taken (state_of old) r goal entry replan_refused.NoDetour (λ x. absurd (cc)) answer (given_here given)
  refused_taken new replan_refused.Full answer = λ given. not_taken (state_of old) r goal entry replan_refused.Full (λ x. absurd (cc)) answer (given_here given)
  refused_taken new replan_refused.NoMemory answer = tt

  -- of an accepted replan the journal's last entry decides
  module _ (new : Book) (span : Span) (answer : IsReplanAnswer (Ok span) (replan (state_of old) r goal).answer) (book : new ≡ with_entries old (option_to_list (replan (state_of old) r goal).entry)) where
    abbrev added : Entry
    added = entry_of r (Replanned (replan_gives (state_of old) r goal span answer).0 (first_of (state_of old)))

    added_is : (replan (state_of old) r goal).entry ≡ Some added
    added_is = (replan_gives (state_of old) r goal span answer).1

    grown : new ≡ with_entries old (added ∷ [])
    grown = book ∙ ap (λ o. with_entries old (option_to_list o)) added_is

    last_added : slice_get new.journal (length new.journal - 1) ≡ Some added
    last_added = subst (λ (b : Book). slice_get b.journal (length b.journal - 1) ≡ Some added) (sym grown) (last_pushed old.journal added)

    pub some_last : slice_get new.journal (length new.journal - 1) ≡ None → ⊥
    some_last none = (let some = last_added in cc)

    pub named : (told : Entry) → Some told ≡ slice_get new.journal (length new.journal - 1) → told.act ≡ Replanned route first → IsTaken entry old new (Ok tt)
    named told is act =
        let found : told ≡ added = same_Some told added (is ∙ last_added) in
        let same_act : added.act ≡ Replanned route first = ap (λ (e : Entry). e.act) (sym found) ∙ act in
        let same_entry : added ≡ entry = ap (λ a. entry_of r a) same_act in (
          subst (λ g. (replan (state_of old) r g).entry ≡ Some entry) (sym tests) (added_is ∙ ap (λ e. Some e) same_entry),
          grown ∙ ap (λ e. with_entries old (e ∷ [])) same_entry,
        )

    pub other : (told : Entry) → Some told ≡ slice_get new.journal (length new.journal - 1) → (told.act ≡ Replanned route first → ⊥) → IsGiven (state_of old) entry → ⊥
    other told is differs given =
        let found : told ≡ added = same_Some told added (is ∙ last_added) in
        let same_entry : added ≡ entry = same_Some added entry (sym added_is ∙ given_here given) in
        differs (ap (λ (e : Entry). e.act) (found ∙ same_entry))
