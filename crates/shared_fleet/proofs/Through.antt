-- What one turn of a pass adds up to.
use Rattle.std.proofs.Common.{◌≡◌, inl, inr, ℕ, ◌+◌, ◌<◌, Bool, true, not, Option, Some, None, Ok, Err, List, [], ◌∷◌, ◌++◌, length, refl, ap, sym, subst, ◌∙◌, append-nil}
use Rattle.std.specs.Prelude.{Result, IfOk, IsOk, OnOk, OnErr, nat_lt}
use Rattle.std.specs.Option.{option_map, option_to_list}
use Rattle.std.proofs.lemmas.Bool.{lt-ltb}
use Rattle.std.proofs.Math.Seq.{drop-append_seam}
use Rattle.fleet_base.specs.declared.answers.UnknownRobot.{UnknownRobot}
use Rattle.fleet_base.specs.declared.entries.Entry.{Entry}
use Rattle.fleet_base.specs.declared.path.NoMemory.{NoMemory}
use Rattle.fleet_base.specs.declared.answers.Look.{Look}
use Rattle.fleet_base.specs.declared.answers.ReplanRefused.{ReplanRefused}
use Rattle.fleet_base.specs.declared.answers.ReplanRefused.TheVariants as replan_refused
use Rattle.fleet_base.specs.declared.numbers.Span.{Span}
use Rattle.fleet_calls.specs.declared.answer.Answer.{Answer}
use Rattle.fleet_calls.specs.declared.request.Request.{Request}
use Rattle.fleet_calls.specs.Calls.{answer_of, call_of}
use Rattle.fleet_model.specs.Lists.{first_some, when}
use Rattle.fleet_model.specs.Calls.{Call, Step, look, look_of, turn, unless_refused}
use Rattle.fleet_model.specs.Journals.{IsJournal, state_after}
use Rattle.fleet_model.specs.States.{State, is_robot}
use Rattle.coordinator.specs.Replans.{IsReplanAnswer}
use Rattle.coordinator.specs.Books.{Book, IsAnswer, opening_of, state_of, with_entries, book_after}
use Rattle.site_map.specs.Built.{BuiltSite}
use Rattle.turn_lock.specs.Locks.{Lock, Seat, IsGrown, behind, with_history}
use Rattle.turn_lock.specs.Locks.{IsOf as IsSeatOf, with_turn as seat_with_turn}
use Rattle.turn_lock.proofs.Lists.{prefix_trans, mine_more, mine_own}
use Rattle.shared_fleet.specs.declared.kept.Kept.{Kept}
use Rattle.shared_fleet.specs.Tokens.{Shared, Token, IsOf, of_robot, without_entries}
use Rattle.shared_fleet.specs.Turning.{Does, DoesStep, HasTurn, IsOfKnown, added_by}
use Rattle.shared_fleet.specs.Resting.{Fits, IsFound, IsOwn, Rests, holding, shared_of, token_of}
use Rattle.shared_fleet.proofs.Known.{known_turn}
use Rattle.shared_fleet.proofs.Own.{own_added, own_entry, own_look, own_turn}

abbrev pub maker : Entry → ℕ
maker e = e.robot.0

-- the value of a lock, by its coordinator

pub same_some : (a b : Kept) → Some a ≡ Some b → a ≡ b
same_some a b e = cc

same_kept : (s : Option Kept) (k : Kept) → option_map (λ (x : Kept). x.fleet) s ≡ Some k.fleet → s ≡ Some k
same_kept None k e = cc
same_kept (Some x) k e = let same : x.fleet ≡ k.fleet = cc in ap (λ (b : Book). Some (holding b)) same

-- of own entries nothing is left out
own_all : (n : ℕ) (added : List Entry) → IsOwn n added → of_robot n added ≡ added
own_all n added (inl e) = ap (of_robot n) e ∙ sym e
own_all n added (inr q) = ap (of_robot n) q.2 ∙ mine_own maker n q.0 q.1 ∙ sym q.2

module _ (o x : Book) (same : without_entries x ≡ without_entries o) where
  pub same_opening : opening_of x ≡ opening_of o
  same_opening = ap opening_of same

-- the robot is known where the book has as many robots as the fleet
pub known_robot : (o x : Book) (r : ℕ) → without_entries x ≡ without_entries o → (state_of x).fleet.starts ≡ x.starts → r < length o.starts → is_robot (state_of x) r ≡ true
known_robot o x r same starts few = ap (λ l. nat_lt r (length l)) (starts ∙ ap (λ (b : Book). b.starts) same) ∙ lt-ltb r (length o.starts) few

-- the seat once it had a turn
abbrev pub after_turn : Seat Kept Entry → List Entry → List Entry → Seat Kept Entry
after_turn s now added = record s { turns = s.turns + 1; taken = None; seen = now; own = s.own ++ added }

-- what a call did to the coordinator
pub record Did (x y : Book) (r : ℕ) (does : State → List Entry → Type 0) : Type 0 where
  pub added : List Entry
  pub did : does (state_of x) added
  pub grown : y ≡ with_entries x added
  pub own : IsOwn r added

-- A turn of the seat s, which is the one of a pass: it takes the book x (s₁), the call makes y of it, and that is given back (s₂)
module _ (l : Lock Kept) (n : ℕ) (s s₁ : Seat Kept Entry) (fleet : Shared) (pass : Token) (shared : shared_of l n ≡ fleet) (shown : token_of s ≡ pass) (is : IsOf fleet pass) where
  pub seat_own : IsSeatOf l s
  seat_own = record {
    lock_is = ap (λ (t : Token). t.lock) shown ∙ is.lock_is ∙ sym (ap (λ (t : Shared). t.lock) shared);
    opening_is = same_kept s.opening l.opening (ap (λ (t : Token). t.opening) shown ∙ is.opening_is ∙ sym (ap (λ (t : Shared). Some t.opening) shared));
  }

  module _ (x : Book) (took : s₁ ≡ seat_with_turn s (holding x)) where
    pub taken_own : IsSeatOf l s₁
    taken_own = record { lock_is = ap (λ (t : Seat Kept Entry). t.lock) took ∙ seat_own.lock_is; opening_is = ap (λ (t : Seat Kept Entry). t.opening) took ∙ seat_own.opening_is }

    module _ (y : Book) (does : State → List Entry → Type 0) (did : Did x y pass.robot does) where
      own : IsOwn s.number did.added
      own = subst (λ k. IsOwn k did.added) (sym (ap (λ (t : Token). t.robot) shown)) did.own

      taken : s₁.taken ≡ Some (holding x)
      taken = ap (λ (t : Seat Kept Entry). t.taken) took

      pub may_finish : (book : Book) × (added : List Entry) × (s₁.taken ≡ Some (holding book)) × (y ≡ with_entries book added) × IsOwn s₁.number added
      may_finish = (x, did.added, taken, did.grown, subst (λ k. IsOwn k did.added) (sym (ap (λ (t : Seat Kept Entry). t.number) took)) own)

      module _ (s₂ : Seat Kept Entry) (rests : Rests s) (found : IsFound l.opening.fleet s x)
          (gave : (book : Book) (added : List Entry) → s₁.taken ≡ Some (holding book) → y ≡ with_entries book added → s₂ ≡ record s₁ { taken = None; seen = y.journal; own = s₁.own ++ added }) where
        after_is : s₂ ≡ after_turn s (x.journal ++ did.added) did.added
        after_is =
            gave x did.added taken did.grown
            ∙ ap (λ (t : Seat Kept Entry). record t { taken = None; seen = y.journal; own = t.own ++ did.added }) took
            ∙ ap (λ (b : Book). after_turn s b.journal did.added) did.grown

        fits_now : Fits l.opening.fleet (after_turn s (x.journal ++ did.added) did.added)
        fits_now =
            let o = l.opening.fleet in
            let f = rests.fits l.opening seat_own.opening_is in
            record {
              robot = f.robot;
              opens = prefix_trans o.journal x.journal (x.journal ++ did.added) found.opens (did.added, refl);
              mine = mine_more maker s.number o.journal x.journal did.added found.opens ∙ ap (λ m. m ++ of_robot s.number did.added) found.mine ∙ ap (λ m. s.own ++ m) (own_all s.number did.added own);
              leads = f.leads;
            }

        rests_now : Rests (after_turn s (x.journal ++ did.added) did.added)
        rests_now = record {
          idle = refl;
          alone = rests.alone;
          fits = λ k h. let same : l.opening ≡ k = same_some l.opening k (sym seat_own.opening_is ∙ h) in subst (λ (w : Kept). Fits w.fleet (after_turn s (x.journal ++ did.added) did.added)) same fits_now;
        }

        -- it rests again
        pub rests_again : Rests s₂
        rests_again = subst (λ (t : Seat Kept Entry). Rests t) (sym after_is) rests_now

        -- the count of what it has seen
        pub seen_now : (count : ℕ) → count ≡ length y.journal → length s₂.seen ≡ count
        seen_now count long = ap (λ (t : Seat Kept Entry). length t.seen) (gave x did.added taken did.grown) ∙ sym long

        has_turn : HasTurn (shared_of l n) does (token_of s) (token_of s₂)
        has_turn =
            let at = same_opening l.opening.fleet x found.same in
            record {
              found = x.journal;
              added = did.added;
              legal = subst (λ w. IsJournal w x.journal) at found.legal;
              opens = found.opens;
              begins = found.begins;
              mine_found = found.mine;
              mine_seen = (rests.fits l.opening seat_own.opening_is).mine;
              did = subst (λ w. does (state_after w x.journal) did.added) at did.did;
              after_is = ap (λ (t : Seat Kept Entry). token_of t) after_is;
            }

        -- what callers see of the turn
        pub turned : HasTurn fleet does pass (token_of s₂)
        turned = subst (λ (w : Shared × Token). HasTurn w.0 does w.1 (token_of s₂)) (λ i. (shared i, shown i)) has_turn

        pub still_own : IsOf fleet (token_of s₂)
        still_own = record { lock_is = ap (λ (p : Token). p.lock) turned.after_is ∙ is.lock_is; opening_is = ap (λ (p : Token). p.opening) turned.after_is ∙ is.opening_is }

        pub same_robot : (token_of s₂).robot ≡ pass.robot
        same_robot = ap (λ (p : Token). p.robot) turned.after_is

unchanged : (x y : Book) → y ≡ x → y ≡ with_entries x []
unchanged x y same = same ∙ ap (λ (l : List Entry). record x { journal = l }) (sym (append-nil x.journal))

module _ (x y : Book) where
  did_call : (r : ℕ) (call : Call) (told : Result Answer NoMemory) → IfOk told (λ answer. answer_of answer ≡ (turn (state_of x) r call).answer) → OnOk told (y ≡ with_entries x (option_to_list (turn (state_of x) r call).entry)) → OnErr told (y ≡ x) → Did x y r (Does r call told)
  did_call r call (Ok answer) is grown same = record {
    added = option_to_list (turn (state_of x) r call).entry;
    did = (is, refl);
    grown = grown;
    own = own_entry r (turn (state_of x) r call).entry (own_turn (state_of x) r call);
  }
  did_call r call (Err no_memory) is grown same = record { added = []; did = refl; grown = unchanged x y same; own = inl refl }

  -- what a request did, on the site of the fleet, for the pass's robot
  pub did_request : (r robot : ℕ) (site : BuiltSite) (request : Request) (told : Result Answer NoMemory) → r ≡ robot → x.site ≡ site → IfOk told (λ answer. answer_of answer ≡ (turn (state_of x) r (call_of x.site request)).answer) → OnOk told (y ≡ with_entries x (option_to_list (turn (state_of x) r (call_of x.site request)).entry)) → OnErr told (y ≡ x)
      → Did x y robot (Does robot (call_of site request) told)
  did_request r robot site request told same at is grown unchanged = subst (λ (w : ℕ × BuiltSite). Did x y w.0 (Does w.0 (call_of w.1 request) told)) (λ i. (same i, at i)) (did_call r (call_of x.site request) told is grown unchanged)

  module _ {A E : Type 0} (answers : Result A E → Result A E → Type 0) (step : ℕ → State → Step A E) (told : Result A E) where
    grown_by : (t : Result A E) (entry : Option Entry) → y ≡ book_after t entry x → y ≡ with_entries x (added_by t entry)
    grown_by (Ok answer) entry e = e
    grown_by (Err refusal) entry e = unchanged x y e

    -- what one kind of call did, for the pass's robot
    pub did_step : (r robot : ℕ) → r ≡ robot → ((e : Entry) → (step r (state_of x)).entry ≡ Some e → e.robot.0 ≡ r) → answers told (step r (state_of x)).answer → y ≡ book_after told (step r (state_of x)).entry x → Did x y robot (DoesStep answers (step robot) told)
    did_step r robot same own is after = subst (λ (k : ℕ). Did x y k (DoesStep answers (step k) told)) same (record {
      added = added_by told (step r (state_of x)).entry;
      did = (is, refl);
      grown = grown_by told (step r (state_of x)).entry after;
      own = own_added r told (step r (state_of x)).entry own;
    })

-- a look adds nothing
look_adds : (o : Option UnknownRobot) (s : State) (step : Step Look UnknownRobot) → step.entry ≡ None → (unless_refused o s step).entry ≡ None
look_adds (Some u) s step none = refl
look_adds None s step none = none

-- what a look did, whose answer is there
pub did_look : (x : Book) (r robot : ℕ) (answer : Result Look UnknownRobot) (told : Look) → r ≡ robot → answer ≡ (look (state_of x) r).answer → answer ≡ Ok told → Did x x robot (DoesStep (λ told due. told ≡ due) (λ s. look s robot) (Ok told))
did_look x r robot answer told same is there =
    let seen : Step Look UnknownRobot = record { answer = Ok (look_of (state_of x) r); entry = None; after = state_of x } in
    let none : (look (state_of x) r).entry ≡ None = look_adds (first_some (when (not (is_robot (state_of x) r)) (record {}) ∷ [])) (state_of x) seen refl in
    did_step x x (λ told due. told ≡ due) (λ r s. look s r) (Ok told) r robot same (own_look (state_of x) r) (sym there ∙ is) (unchanged x x refl ∙ ap (λ (e : Option Entry). with_entries x (option_to_list e)) (sym none))

pub looked : (s : State) (r : ℕ) (answer : Result Look UnknownRobot) → is_robot s r ≡ true → answer ≡ (look s r).answer → answer ≡ Ok (look_of s r)
looked s r answer known is =
    let seen : Step Look UnknownRobot = record { answer = Ok (look_of s r); entry = None; after = s } in
    is ∙ ap (λ (b : Bool). (unless_refused (first_some (when (not b) (record {}) ∷ [])) s seen).answer) known

-- a robot of the fleet sees something
pub look_is_ok : (s : State) (r : ℕ) (answer : Result Look UnknownRobot) → is_robot s r ≡ true → answer ≡ (look s r).answer → IsOk answer
look_is_ok s r answer known is = subst (λ (a : Result Look UnknownRobot). IsOk a) (sym (looked s r answer known is)) refl

-- the answer to a robot of the fleet
pub known_answer : (x : Book) (r : ℕ) (call : Call) (told : Result Answer NoMemory) → is_robot (state_of x) r ≡ true → IfOk told (λ answer. answer_of answer ≡ (turn (state_of x) r call).answer) → IfOk told (λ answer. IsOfKnown (answer_of answer))
known_answer x r call (Ok answer) known is = subst IsOfKnown (sym is) (known_turn (state_of x) r call known)
known_answer x r call (Err no_memory) known is = tt

-- the robot by its pass
pub known_here : (s : Seat Kept Entry) (pass : Token) (x : Book) (r : ℕ) → token_of s ≡ pass → r ≡ pass.robot → is_robot (state_of x) s.number ≡ true → is_robot (state_of x) r ≡ true
known_here s pass x r shown same known = subst (λ (k : ℕ). is_robot (state_of x) k ≡ true) (ap (λ (t : Token). t.robot) shown ∙ sym same) known

-- what a call tells that may want memory
pub known_told : {A E : Type 0} (no_memory unknown : E) (told due : Result A E) → (no_memory ≡ unknown → ⊥) → IsAnswer no_memory told due → (due ≡ Err unknown → ⊥) → told ≡ Err unknown → ⊥
known_told no_memory unknown told (Ok a) other (inl is) due h = cc
known_told no_memory unknown told (Ok a) other (inr is) due h = let same : no_memory ≡ unknown = cc in other same
known_told no_memory unknown told (Err e) other is due h = let same : Err e ≡ Err unknown = sym is ∙ h in due same

-- what a replan tells
pub known_replanned : (told due : Result Span ReplanRefused) → IsReplanAnswer told due → (due ≡ Err replan_refused.UnknownRobot → ⊥) → told ≡ Err replan_refused.UnknownRobot → ⊥
known_replanned told due (inl is) known h = known (sym is ∙ h)
known_replanned told due (inr is) known h = let none : Err replan_refused.NoMemory ≡ Err replan_refused.UnknownRobot = sym is.0 ∙ h in cc

-- the site stays
pub site_is : (l : Lock Kept) (n : ℕ) (fleet : Shared) (x : Book) → shared_of l n ≡ fleet → without_entries x ≡ without_entries l.opening.fleet → x.site ≡ fleet.opening.site
site_is l n fleet x shared same = ap (λ (b : Book). b.site) same ∙ ap (λ (t : Shared). t.opening.site) shared

-- giving back

module _ (number : ℕ) (taken : Option Kept) (book y : Book) (added : List Entry) (took : taken ≡ Some (holding book)) (grown : y ≡ with_entries book added) (own : IsOwn number added) where
  pub give_fixed : (k : Kept) → taken ≡ Some k → without_entries y ≡ without_entries k.fleet
  give_fixed k h = let same : holding book ≡ k = same_some (holding book) k (sym took ∙ h) in ap without_entries grown ∙ ap (λ (w : Kept). without_entries w.fleet) same

  give_grown : IsGrown maker number book.journal y.journal
  give_grown = by own
    where
      by : IsOwn number added → IsGrown maker number book.journal y.journal
      by (inl none) = inl (ap (λ (b : Book). b.journal) grown ∙ ap (λ l. book.journal ++ l) none ∙ append-nil book.journal)
      by (inr q) = inr (q.0, q.1, ap (λ (b : Book). b.journal) grown ∙ ap (λ l. book.journal ++ l) q.2)

  pub give_history : (k : Kept) → taken ≡ Some k → IsGrown maker number k.fleet.journal y.journal
  give_history k h = let same : holding book ≡ k = same_some (holding book) k (sym took ∙ h) in subst (λ (w : Kept). IsGrown maker number w.fleet.journal y.journal) same give_grown

-- what the seat is then
pub given : (seat now : Seat Kept Entry) (book y : Book) (added : List Entry) → y ≡ with_entries book added → now ≡ with_history seat book.journal y.journal → now ≡ record seat { taken = None; seen = y.journal; own = seat.own ++ added }
given seat now book y added grown is = is ∙ ap (λ m. record seat { taken = None; seen = y.journal; own = seat.own ++ m }) (ap (λ (b : Book). behind book.journal b.journal) grown ∙ drop-append_seam book.journal added)
