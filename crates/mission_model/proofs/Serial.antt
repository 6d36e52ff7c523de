-- There is exactly one serial run.
use Rattle.std.proofs.Common.{◌≡◌, ℕ, zero, suc, ◌+◌, ◌-◌, ◌<◌, ◌≤◌, false, inl, inr, refl, sym, ap, ◌∙◌, subst, List, [], ◌∷◌, ◌++◌, length, map, arith, Option, Some, None}
use Rattle.std.proofs.lemmas.Bool.{both_ways, cases_order}
use Rattle.std.proofs.lemmas.List.{append-nil, append_assoc}
use Rattle.std.proofs.lemmas.Option.{same_Some}
use Rattle.std.specs.List.{range_with_len}
use Rattle.std.specs.Option.{is_some}
use Rattle.fleet_base.specs.declared.entries.Entry.{Entry}
use Rattle.fleet_base.specs.declared.limits.TheConstants.{MAX_COUNT}
use Rattle.fleet_model.specs.Lists.{first_some}
use Rattle.fleet_model.specs.Sites.{IsSite}
use Rattle.fleet_model.specs.States.{State}
use Rattle.fleet_model.specs.Good.{IsGood}
use Rattle.fleet_model.specs.Journals.{IsJournal, state_after}
use Rattle.fleet_model.proofs.GoodStates.{journal_good}
use Rattle.fleet_model.proofs.Options.{none_of}
use Rattle.mission_model.specs.Stops.{Missions}
use Rattle.mission_model.specs.Policies.{goes_on, can_go_on, IsQuiet}
use Rattle.mission_model.specs.Runs.{IsNext, AreSerial, IsSerialRun, next_entry, entries_on, serial_entries}
use Rattle.mission_model.proofs.Journals.{counted, journal_keeps, state_more}
use Rattle.mission_model.proofs.PolicyCalls.{goes_on_is}

-- where no value of a range is first, each is none
first_none : {A : Type 0} (f : ℕ → Option A) (low n : ℕ) → first_some (map f (range_with_len low n)) ≡ None → (r : ℕ) → low ≤ r → r < low + n → f r ≡ None
first_none f low zero h r a b = absurd (omega arith)
first_none {A} f low (suc n) h r a b = go (f low) refl h (first_none f (low + 1) n)
  where
    go : (o : Option A) → f low ≡ o → first_some (o ∷ map f (range_with_len (low + 1) n)) ≡ None → (first_some (map f (range_with_len (low + 1) n)) ≡ None → (r : ℕ) → low + 1 ≤ r → r < low + 1 + n → f r ≡ None) → f r ≡ None
    go (Some x) e h ih = absurd (cc)
    go None e h ih = elim (cases_order low r) [ inl s ↦ ap f (sym s) ∙ e | inr s ↦ elim s [ inl l ↦ ih h r (omega arith) (omega arith) | inr l ↦ absurd (omega arith) ] ]

-- the place of the first value of a range
record IsFirst {A : Type 0} (f : ℕ → Option A) (low : ℕ) (x : A) : Type 0 where
  place : ℕ
  within : low ≤ place
  there : f place ≡ Some x
  before : (q : ℕ) → low ≤ q → q < place → f q ≡ None

first_is : {A : Type 0} (f : ℕ → Option A) (low n : ℕ) (x : A) → first_some (map f (range_with_len low n)) ≡ Some x → IsFirst f low x
first_is f low zero x h = absurd (cc)
first_is {A} f low (suc n) x h = go (f low) refl h (first_is f (low + 1) n x)
  where
    go : (o : Option A) → f low ≡ o → first_some (o ∷ map f (range_with_len (low + 1) n)) ≡ Some x → (first_some (map f (range_with_len (low + 1) n)) ≡ Some x → IsFirst f (low + 1) x) → IsFirst f low x
    go (Some y) e h ih = record { place = low; within = omega arith; there = e ∙ h; before = λ q a b. absurd (omega arith) }
    go None e h ih =
        let r = ih h in
        record {
          place = r.place;
          within = (let w = r.within in omega arith);
          there = r.there;
          before = λ q a b. elim (cases_order low q) [ inl s ↦ ap f (sym s) ∙ e | inr s ↦ elim s [ inl l ↦ r.before q (omega arith) b | inr l ↦ absurd (omega arith) ] ];
        }

is_none_some : {A : Type 0} (o : Option A) → o ≡ None → is_some o ≡ false
is_none_some o h = ap is_some h

-- who can't go on has no entry
cant : {A : Type 0} (o : Option A) (x : A) → is_some o ≡ false → o ≡ Some x → ⊥
cant o x h e = both_ways (is_some o) h (ap is_some e)

module _ (missions : Missions) (opening : State) (is_site : IsSite opening.fleet.site) (good : IsGood opening) where
  -- the robots of the fleet, at any place of a legal journal
  known : (journal : List Entry) (r : ℕ) (entry : Entry) → IsJournal opening journal → goes_on missions opening journal r ≡ Some entry → r < length opening.fleet.starts
  known journal r entry legal h =
      let g = goes_on_is missions opening journal r entry is_site good legal h in
      subst (λ starts. r < length starts) (journal_keeps opening journal is_site good legal).1 g.known

  none_by : (journal : List Entry) (r : ℕ) (o : Option Entry) → IsJournal opening journal → goes_on missions opening journal r ≡ o → (r < length opening.fleet.starts → goes_on missions opening journal r ≡ None) → o ≡ None
  none_by journal r None legal e h = refl
  none_by journal r (Some entry) legal e h = absurd (let k = h (known journal r entry legal e) in cc)

  -- where no entry is next, the state is quiet
  pub next_none : (journal : List Entry) → IsJournal opening journal → next_entry missions opening journal ≡ None → IsQuiet missions opening journal
  next_none journal legal h r =
      is_none_some (goes_on missions opening journal r) (none_by journal r (goes_on missions opening journal r) legal refl
      (λ k. first_none (goes_on missions opening journal) 0 (length opening.fleet.starts) h r (omega arith) (omega arith)))

  -- where no robot of the fleet can go on, no robot can
  pub quiet_if : (journal : List Entry) → IsJournal opening journal → ((r : ℕ) → r < length opening.fleet.starts → can_go_on missions opening journal r ≡ false) → IsQuiet missions opening journal
  quiet_if journal legal h r =
      is_none_some (goes_on missions opening journal r) (none_by journal r (goes_on missions opening journal r) legal refl
      (λ k. none_of (goes_on missions opening journal r) (h r k)))

  -- the entry that is next is that of the least robot that can go on
  pub next_is : (journal : List Entry) (entry : Entry) → IsJournal opening journal → next_entry missions opening journal ≡ Some entry → IsNext missions opening journal entry
  next_is journal entry legal h =
      let f = first_is (goes_on missions opening journal) 0 (length opening.fleet.starts) entry h in
      let g = goes_on_is missions opening journal f.place entry is_site good legal f.there in
      record {
        goes = subst (λ r. goes_on missions opening journal r ≡ Some entry) (sym g.robot) f.there;
        least = λ r l. is_none_some (goes_on missions opening journal r) (f.before r (omega arith) (subst (λ q. r < q) g.robot l));
      }

  -- the journal behind an entry by which a robot goes on is legal
  pub next_legal : (journal : List Entry) (entry : Entry) → IsJournal opening journal → IsNext missions opening journal entry → IsJournal opening (journal ++ entry ∷ [])
  next_legal journal entry legal next = (goes_on_is missions opening journal entry.robot.0 entry is_site good legal next.goes).legal

  -- each entry makes the count one more, up to what a run may come to
  counts : (journal : List Entry) (entry : Entry) → IsJournal opening journal → IsNext missions opening journal entry → ((state_after opening (journal ++ entry ∷ [])).count ≡ (state_after opening journal).count + 1) × ((state_after opening journal).count + 1 ≤ MAX_COUNT)
  counts journal entry legal next =
      let j = journal_good opening journal is_site good legal in
      let g = goes_on_is missions opening journal entry.robot.0 entry is_site good legal next.goes in
      let c = counted (state_after opening journal) entry j.1 j.0 g.told in
      (ap (λ s. s.count) (state_more opening journal entry) ∙ c.count, c.room)

  -- the entries that are found go on until the state is quiet
  run_on : (n : ℕ) (journal : List Entry) (o : Option Entry) → IsJournal opening journal → MAX_COUNT ≤ n + (state_after opening journal).count → next_entry missions opening journal ≡ o → IsSerialRun missions opening journal (entries_on n missions opening journal o)
  run_on n journal None legal l h = record { serial = tt; quiet = subst (IsQuiet missions opening) (sym (append-nil journal)) (next_none journal legal h) }
  run_on zero journal (Some entry) legal l h = let c = counts journal entry legal (next_is journal entry legal h) in absurd (let k = c.1 in omega arith)
  run_on (suc n) journal (Some entry) legal l h =
      let next = next_is journal entry legal h in
      let more = next_legal journal entry legal next in
      let c = counts journal entry legal next in
      let rest = run_on n (journal ++ entry ∷ []) (next_entry missions opening (journal ++ entry ∷ [])) more (let k = c.0 in omega arith) refl in
      record {
        serial = (next, rest.serial);
        quiet = subst (IsQuiet missions opening) (append_assoc journal (entry ∷ []) (entries_on n missions opening (journal ++ entry ∷ []) (next_entry missions opening (journal ++ entry ∷ [])))) rest.quiet;
      }

  pub run_found : (journal : List Entry) → IsJournal opening journal → IsSerialRun missions opening journal (serial_entries missions opening journal)
  run_found journal legal = run_on (MAX_COUNT - (state_after opening journal).count) journal (next_entry missions opening journal) legal (omega arith) refl

-- two entries that are next are one
next_one : (missions : Missions) (opening : State) (journal : List Entry) (x y : Entry) → IsNext missions opening journal x → IsNext missions opening journal y → x ≡ y
next_one missions opening journal x y a b = elim (cases_order x.robot.0 y.robot.0) [
  | inl e ↦ same_Some x y (sym a.goes ∙ (ap (goes_on missions opening journal) e ∙ b.goes))
  | inr s ↦ elim s [
    | inl l ↦ absurd (cant (goes_on missions opening journal x.robot.0) x (b.least x.robot.0 l) a.goes)
    | inr l ↦ absurd (cant (goes_on missions opening journal y.robot.0) y (a.least y.robot.0 l) b.goes)
  ]
]

-- two serial runs from one journal are one
runs_one : (missions : Missions) (opening : State) (xs ys : List Entry) (journal : List Entry) → AreSerial missions opening journal xs → AreSerial missions opening journal ys → IsQuiet missions opening (journal ++ xs) → IsQuiet missions opening (journal ++ ys) → xs ≡ ys
runs_one missions opening [] [] journal a b p q = refl
runs_one missions opening [] (y ∷ ys) journal a b p q = absurd (cant (goes_on missions opening journal y.robot.0) y (subst (IsQuiet missions opening) (append-nil journal) p y.robot.0) b.0.goes)
runs_one missions opening (x ∷ xs) [] journal a b p q = absurd (cant (goes_on missions opening journal x.robot.0) x (subst (IsQuiet missions opening) (append-nil journal) q x.robot.0) a.0.goes)
runs_one missions opening (x ∷ xs) (y ∷ ys) journal a b p q =
    let e = next_one missions opening journal x y a.0 b.0 in
    let rest = runs_one missions opening xs ys (journal ++ x ∷ []) a.1
    (subst (λ z. AreSerial missions opening (journal ++ z ∷ []) ys) (sym e) b.1)
    (subst (IsQuiet missions opening) (sym (append_assoc journal (x ∷ []) xs)) p)
    (subst (IsQuiet missions opening) (ap (λ z. journal ++ z ∷ ys) (sym e) ∙ sym (append_assoc journal (x ∷ []) ys)) q) in
    ap (λ z. z ∷ xs) e ∙ ap (λ zs. y ∷ zs) rest

pub one_run : (missions : Missions) (opening : State) (journal xs ys : List Entry) → IsSerialRun missions opening journal xs → IsSerialRun missions opening journal ys → xs ≡ ys
one_run missions opening journal xs ys a b = runs_one missions opening xs ys journal a.serial b.serial a.quiet b.quiet
