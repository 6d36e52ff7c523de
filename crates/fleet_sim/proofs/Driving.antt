-- How robots go on, one after the other.
use Rattle.std.proofs.Common.{◌≡◌, ℕ, zero, suc, ◌-◌, ◌<◌, Bool, true, false, inl, inr, refl, sym, ap, ◌∙◌, subst, List, [], ◌∷◌, ◌++◌, length, get_or, set, arith, Option, Some, None, get_or-set_other, get_or-set_same}
use Rattle.std.proofs.lemmas.Bool.{both_ways, cases_eq}
use Rattle.std.proofs.lemmas.List.{append_assoc, append-nil, length-append, length-set}
use Rattle.std.proofs.lemmas.List.Elements.{All-nil, All-cons, All-head, All-tail}
use Rattle.std.specs.Prelude.{All, slice_get, Result, Ok, Err}
use Rattle.std.specs.Result.{OnErr}
use Rattle.std.specs.Option.{is_some, option_to_list}
use Rattle.fleet_base.specs.declared.entries.Act.{Act}
use Rattle.fleet_base.specs.declared.entries.Act.TheVariants.{Merged, Deferred, Retried, Canceled, Withdrawn, Replanned, Reported}
use Rattle.fleet_base.specs.declared.entries.Entry.{Entry}
use Rattle.fleet_base.specs.declared.limits.TheConstants.{MAX_COUNT}
use Rattle.fleet_base.specs.declared.numbers.CellNo.{CellNo}
use Rattle.fleet_model.specs.Sites.{IsSite}
use Rattle.fleet_model.specs.Plans.{Fleet, end_of}
use Rattle.fleet_model.specs.Good.{IsGood}
use Rattle.fleet_model.specs.Journals.{IsJournal}
use Rattle.fleet_model.proofs.Options.{some_of}
use Rattle.mission_model.specs.Stops.{Leg, legs_of, serve_on, next_leg}
use Rattle.mission_model.specs.Policies.{policy_entry, goes_on}
use Rattle.mission_model.specs.Runs.{IsNext, IsTrueAct}
use Rattle.mission_model.specs.Serving.{KeepsEvents}
use Rattle.mission_model.proofs.PolicyCalls.{goes_on_is}
use Rattle.mission_model.proofs.Serial.{one_run, quiet_if, run_found}
use Rattle.mission_model.proofs.Serving.{others_leave, served_by_own}
use Rattle.mission_model.proofs.Truth.{serial_more}
use Rattle.scenario.specs.Scenarios.{IsMission, legs_of as goals_of}
use Rattle.site_map.specs.Built.{BuiltSite}
use Rattle.site_map.specs.Claims.{site_of}
use Rattle.site_map.specs.Goals.{IsGoal}
use Rattle.site_map.specs.declared.goal.Goal.{Goal}
use Rattle.coordinator.specs.Books.{Book, opening_of, state_of, with_entries}
use Rattle.robot_worker.specs.Legs.{leg_cells, plain_legs, plain_missions}
use Rattle.robot_worker.proofs.Counts.{leg_plain}
use Rattle.fleet_outcomes.specs.Fleets.{HasMissions, missions_in}
use Rattle.fleet_sim.specs.Drives.{Advanced, AreCounts, HasDriven, IsQuietIn, WentNext, WentOn, goes_in, served_in, serial_in}

-- the legs of a robot as plain lists
pub legs_plain : (site : BuiltSite) (missions : List (List Goal)) (r : ℕ) → legs_of (plain_missions site missions) r ≡ plain_legs site (goals_of missions r)
legs_plain site [] r = refl
legs_plain site (legs ∷ rest) zero = refl
legs_plain site (legs ∷ rest) (suc r) = legs_plain site rest r

-- the policy act of a robot with its count is that by which it goes on
pub goes_here : (book : Book) (missions : List (List Goal)) (r count : ℕ) (leg : Option Goal) → count ≡ served_in book missions r → leg ≡ slice_get (goals_of missions r) count → policy_entry (state_of book) r (leg_cells book.site leg) ≡ goes_on (missions_in book missions) (opening_of book) book.journal r
goes_here book missions r count leg counts is =
    ap (policy_entry (state_of book) r)
    (ap (leg_cells book.site) is
    ∙ (leg_plain book.site (goals_of missions r) count
    ∙ (ap (λ legs. slice_get legs count) (sym (legs_plain book.site missions r))
    ∙ ap (slice_get (legs_of (missions_in book missions) r)) counts)))

-- what a coordinator keeps
pub record IsSound (book : Book) : Type 0 where
  pub site : IsSite (site_of book.site)
  pub opening : IsGood (opening_of book)
  pub legal : IsJournal (opening_of book) book.journal

-- no entries behind a book's own leave it
pub none_more : (book : Book) → with_entries book [] ≡ book
none_more book = λ i. record book { journal = append-nil book.journal i }

true_keeps : (m : Fleet) (r : ℕ) (leg : Option Leg) (act : Act) → IsTrueAct m r leg act → KeepsEvents act
true_keeps m r leg (Merged route first) h = tt
true_keeps m r leg (Deferred route cycle) h = tt
true_keeps m r leg (Retried first) h = tt
true_keeps m r leg Canceled h = tt
true_keeps m r leg (Withdrawn removed end) h = h
true_keeps m r leg (Replanned route first) h = tt
true_keeps m r leg (Reported event) h = tt

module _ (missions : List (List Goal)) (old : Book) (is : IsSound old) where
  -- a robot that went on is the least that can, where those before it can't
  pub advanced : (new : Book) (r count : ℕ) (leg : Option Goal) (moved : Bool) → moved ≡ true → count ≡ served_in old missions r → leg ≡ slice_get (goals_of missions r) count
      → ((q : ℕ) → q < r → goes_in old missions q ≡ false)
      → WentOn (policy_entry (state_of old) r (leg_cells old.site leg)) old new moved → (w : WentNext missions old new) × (w.entry.robot.0 ≡ r)
  advanced new r count leg moved did counts leg_is passed went =
      let entry = policy_entry (state_of old) r (leg_cells old.site leg) in
      let here = goes_here old missions r count leg counts leg_is in
      let e = some_of entry (sym went.told ∙ did) in
      let g = goes_on_is (missions_in old missions) (opening_of old) old.journal r e.0 is.site is.opening is.legal (sym here ∙ e.1) in (
        record {
          entry = e.0;
          adds = went.adds ∙ ap (λ o. with_entries old (option_to_list o)) e.1;
          next = record {
            goes = ap (goes_on (missions_in old missions) (opening_of old) old.journal) g.robot ∙ (sym here ∙ e.1);
            least = λ q l. passed q (subst (λ n. q < n) g.robot l);
          };
        },
        g.robot,
      )

  -- a robot that didn't go on can't
  pub cannot : (new : Book) (r count : ℕ) (leg : Option Goal) (moved : Bool) → moved ≡ false → count ≡ served_in old missions r → leg ≡ slice_get (goals_of missions r) count → WentOn (policy_entry (state_of old) r (leg_cells old.site leg)) old new moved
      → (new ≡ old) × (goes_in old missions r ≡ false)
  cannot new r count leg moved no_move counts leg_is went =
      let entry = policy_entry (state_of old) r (leg_cells old.site leg) in
      (stood entry went.adds (sym went.told ∙ no_move), ap is_some (sym (goes_here old missions r count leg counts leg_is)) ∙ (sym went.told ∙ no_move))
    where
      stood : (o : Option Entry) → new ≡ with_entries old (option_to_list o) → is_some o ≡ false → new ≡ old
      stood None w h = w ∙ none_more old
      stood (Some e) w h = absurd (both_ways true h refl)

  -- where none of the robots can go on, the book is quiet
  pub quiet : ((q : ℕ) → q < length old.starts → goes_in old missions q ≡ false) → IsQuietIn old missions
  quiet h = quiet_if (missions_in old missions) (opening_of old) is.site is.opening old.journal is.legal h

  -- the counts behind an entry
  pub counts_on : (new : Book) (r n : ℕ) (counts : List ℕ) (w : WentNext missions old new) → w.entry.robot.0 ≡ r → r < length old.starts → AreCounts old missions counts
      → n ≡ serve_on (plain_legs old.site (goals_of missions r)) (end_of (state_of new).fleet r) (get_or counts r 0) → AreCounts new missions (set counts r n)
  counts_on new r n counts w robot known are served_on = subst (λ b. AreCounts b missions (set counts r n)) (sym w.adds) (record { all = length-set counts r n ∙ are.all; each = each })
    where
      legal : IsJournal (opening_of old) (old.journal ++ w.entry ∷ [])
      legal = (goes_on_is (missions_in old missions) (opening_of old) old.journal w.entry.robot.0 w.entry is.site is.opening is.legal w.next.goes).legal

      keeps : KeepsEvents w.entry.act
      keeps = true_keeps (state_of old).fleet w.entry.robot.0 (next_leg (legs_of (missions_in old missions) w.entry.robot.0) (opening_of old) old.journal w.entry.robot.0) w.entry.act (goes_on_is (missions_in old missions) (opening_of old) old.journal w.entry.robot.0 w.entry is.site is.opening is.legal w.next.goes).mission

      own : served_in (with_entries old (w.entry ∷ [])) missions r ≡ n
      own =
          subst (λ q. served_in (with_entries old (w.entry ∷ [])) missions q ≡ serve_on (legs_of (missions_in old missions) q) (end_of (state_of (with_entries old (w.entry ∷ []))).fleet q) (served_in old missions q)) robot
          (served_by_own (legs_of (missions_in old missions) w.entry.robot.0) (opening_of old) old.journal w.entry is.site is.opening legal keeps)
          ∙ (ap (λ l. serve_on l (end_of (state_of (with_entries old (w.entry ∷ []))).fleet r) (served_in old missions r)) (legs_plain old.site missions r)
          ∙ (ap (serve_on (plain_legs old.site (goals_of missions r)) (end_of (state_of (with_entries old (w.entry ∷ []))).fleet r)) (sym (are.each r known))
          ∙ (ap (λ b. serve_on (plain_legs old.site (goals_of missions r)) (end_of (state_of b).fleet r) (get_or counts r 0)) (sym w.adds) ∙ sym served_on)))

      others : (q : ℕ) → (w.entry.robot.0 ≡ q → ⊥) → served_in (with_entries old (w.entry ∷ [])) missions q ≡ served_in old missions q
      others q apart = (others_leave (legs_of (missions_in old missions) q) (opening_of old) old.journal (w.entry ∷ []) q is.site is.opening legal (apart, tt)).1

      each : (q : ℕ) → q < length old.starts → get_or (set counts r n) q 0 ≡ served_in (with_entries old (w.entry ∷ [])) missions q
      each q l = elim (cases_eq q r) [
        | inl e ↦ (let within : r < length counts = (let a = are.all in omega arith) in ap (λ k. get_or (set counts r n) k 0) e ∙ (get_or-set_same counts r n 0 within ∙ (sym own ∙ ap (served_in (with_entries old (w.entry ∷ [])) missions) (sym e))))
        | inr a ↦ get_or-set_other counts r q n 0 a ∙ (are.each q l ∙ sym (others q (λ h. a (sym h ∙ robot))))
      ]

-- within a list it doesn't matter what stands behind its end
get_or_any : (xs : List ℕ) (i d e : ℕ) → i < length xs → get_or xs i d ≡ get_or xs i e
get_or_any [] i d e l = absurd (omega arith)
get_or_any (x ∷ xs) zero d e l = refl
get_or_any (x ∷ xs) (suc i) d e l = get_or_any xs i d e (omega arith)

-- the kept count of a robot is that of its served legs
pub count_is : (missions : List (List Goal)) (old : Book) (counts kept : List ℕ) (r d n : ℕ) → AreCounts old missions counts → kept ≡ counts → r < length old.starts → n ≡ get_or kept r d → n ≡ served_in old missions r
count_is missions old counts kept r d n are same known is =
    let all = are.all in
    is ∙ (ap (λ xs. get_or xs r d) same ∙ (get_or_any counts r d 0 (omega arith) ∙ are.each r known))

-- what is served at the end that a robot's own entry leaves
pub served_told : (missions : List (List Goal)) (old new : Book) (r count n : ℕ) (counts : List ℕ) (site : BuiltSite) (legs : List Goal) (end : CellNo) (w : WentNext missions old new) → site ≡ new.site → legs ≡ goals_of missions r → end ≡ end_of (state_of new).fleet r
    → count ≡ served_in old missions r → AreCounts old missions counts → r < length old.starts → n ≡ serve_on (plain_legs site legs) end count
    → n ≡ serve_on (plain_legs old.site (goals_of missions r)) (end_of (state_of new).fleet r) (get_or counts r 0)
served_told missions old new r count n counts site legs end w sites goals ends told are known is =
    let here : site ≡ old.site = sites ∙ ap (λ (b : Book). b.site) w.adds in
    let kept : count ≡ get_or counts r 0 = told ∙ sym (are.each r known) in
    is ∙ (λ i. serve_on (plain_legs (here i) (goals i)) (ends i) (kept i))

-- what a robot did from a book that is the old one
pub went_at : (old fleet new : Book) (r : ℕ) (leg : Option Goal) (moved : Bool) → fleet ≡ old → WentOn (policy_entry (state_of fleet) r (leg_cells fleet.site leg)) fleet new moved → WentOn (policy_entry (state_of old) r (leg_cells old.site leg)) old new moved
went_at old fleet new r leg moved same went = subst (λ b. WentOn (policy_entry (state_of b) r (leg_cells b.site leg)) b new moved) same went

-- the goals of the legs of a robot are in the site
pub goals_in : (missions : List (List Goal)) (book : Book) (r : ℕ) → HasMissions book missions → r < length book.starts → All (IsGoal book.site) (goals_of missions r)
goals_in missions book r has known = go missions r has.legs (let all = has.all in omega arith)
  where
    go : (ms : List (List Goal)) (q : ℕ) → All (IsMission book.site) ms → q < length ms → All (IsGoal book.site) (goals_of ms q)
    go [] q all l = absurd (omega arith)
    go (m ∷ ms) zero all l = (All-head (IsMission book.site) m ms all).goals
    go (m ∷ ms) (suc q) all l = go ms q (All-tail (IsMission book.site) m ms all) (omega arith)

-- so is that of one of them
pub goal_in : (site : BuiltSite) (legs : List Goal) (n : ℕ) (leg : Option Goal) → All (IsGoal site) legs → leg ≡ slice_get legs n → All (IsGoal site) (option_to_list leg)
goal_in site legs n leg all is = subst (λ o. All (IsGoal site) (option_to_list o)) (sym is) (go legs n all)
  where
    go : (gs : List Goal) (k : ℕ) → All (IsGoal site) gs → All (IsGoal site) (option_to_list (slice_get gs k))
    go [] k all = all
    go (g ∷ gs) zero all = All-cons (IsGoal site) g [] (All-head (IsGoal site) g gs all) (All-nil (IsGoal site))
    go (g ∷ gs) (suc k) all = go gs k (All-tail (IsGoal site) g gs all)

-- what holds is so behind a refusal too
pub on_err : {A E P : Type 0} (result : Result A E) → P → OnErr result P
on_err (Ok x) h = tt
on_err (Err e) h = h

-- the first part of a run
pub driven_none : (missions : List (List Goal)) (book : Book) → HasDriven missions book book
driven_none missions book = record { entries = []; adds = sym (none_more book); serial = tt }

-- one more entry of a run
pub driven_more : (missions : List (List Goal)) (first old new : Book) → HasDriven missions first old → WentNext missions old new → HasDriven missions first new
driven_more missions first old new h w = record {
  entries = h.entries ++ w.entry ∷ [];
  adds = w.adds ∙ (ap (λ b. with_entries b (w.entry ∷ [])) h.adds ∙ (λ i. record first { journal = append_assoc first.journal h.entries (w.entry ∷ []) i }));
  serial = serial_more (missions_in first missions) (opening_of first) first.journal h.entries w.entry h.serial (subst (λ b. IsNext (missions_in b missions) (opening_of b) b.journal w.entry) h.adds w.next);
}

-- a run that ends quiet is the serial run
pub driven_exact : (missions : List (List Goal)) (first last : Book) → IsSound first → HasDriven missions first last → IsQuietIn last missions → last ≡ with_entries first (serial_in first missions)
driven_exact missions first last is h quiet =
    h.adds
    ∙ ap (with_entries first)
    (one_run (missions_in first missions) (opening_of first) first.journal h.entries (serial_in first missions)
    (record { serial = h.serial; quiet = subst (λ b. IsQuietIn b missions) h.adds quiet })
    (run_found (missions_in first missions) (opening_of first) is.site is.opening first.journal is.legal))

-- an advance that found no robot
pub at_rest : (missions : List (List Goal)) (old new : Book) (moved : Bool) → moved ≡ false → Advanced missions old new moved → (new ≡ old) × IsQuietIn old missions
at_rest missions old new true e h = absurd (cc)
at_rest missions old new false e h = h

-- an advance that found one
pub at_move : (missions : List (List Goal)) (old new : Book) (moved : Bool) → moved ≡ true → Advanced missions old new moved → WentNext missions old new
at_move missions old new true e h = h
at_move missions old new false e h = absurd (cc)

-- the missions are those of the book with more entries
pub missions_still : (missions : List (List Goal)) (old new : Book) (entries : List Entry) → new ≡ with_entries old entries → HasMissions old missions → HasMissions new missions
missions_still missions old new entries adds h = subst (λ b. HasMissions b missions) (sym adds) (record { all = h.all; legs = h.legs })

-- one more entry leaves fewer that a run may still come to
pub nearer : (missions : List (List Goal)) (old new : Book) → WentNext missions old new → IsGood (state_of new) → (state_of new).count ≡ length new.journal → MAX_COUNT - length new.journal < MAX_COUNT - length old.journal
nearer missions old new w good count =
    let total = good.total in
    let long = ap (λ (b : Book). length b.journal) w.adds ∙ length-append old.journal (w.entry ∷ []) in
    omega arith
