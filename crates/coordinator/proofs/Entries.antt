-- Which answers add an entry: accepted ones do, and refusals don't.
use Rattle.std.proofs.Common.{◌≡◌, ◌≢◌, ℕ, Bool, true, false, inl, inr, List, [], ◌∷◌, Option, Some, None, Ok, Err, Result, refl, sym, ap, ◌∙◌, length, not, ◌+◌}
use Rattle.std.proofs.lemmas.List.{append-nil}
use Rattle.std.specs.Option.{is_some, option_to_list, unwrap_or}
use Rattle.fleet_base.specs.declared.answers.Block.{Block}
use Rattle.fleet_base.specs.declared.answers.Proposed.{Proposed}
use Rattle.fleet_base.specs.declared.answers.Proposed.TheVariants as proposed
use Rattle.fleet_base.specs.declared.answers.ReplanRefused.{ReplanRefused}
use Rattle.fleet_base.specs.declared.answers.UnknownRobot.{UnknownRobot}
use Rattle.fleet_base.specs.declared.answers.Withdrawn.{Withdrawn}
use Rattle.fleet_base.specs.declared.entries.Entry.{Entry}
use Rattle.fleet_base.specs.declared.entries.Act.{Act}
use Rattle.fleet_base.specs.declared.entries.Act.TheVariants as act
use Rattle.fleet_base.specs.declared.numbers.CellNo.{CellNo}
use Rattle.fleet_base.specs.declared.numbers.EventNo.{EventNo}
use Rattle.fleet_base.specs.declared.numbers.Span.{Span}
use Rattle.fleet_model.specs.Calls.{Step, accepted, deferring, detour_of, first_of, in_segment, look, look_of, merge_growth, moved, next_event, propose, propose_outcome, propose_refusals, replan, replan_refusals, report, report_refusals, reported, retry, retry_refusals, cancel, cancel_refusals, withdraw, withdraw_refusals, span_of, unless, unless_refused, with_route}
use Rattle.fleet_model.specs.Lists.{first_some, when}
use Rattle.fleet_model.specs.Plans.{Fleet, end_of, removable_tail, withdrawn}
use Rattle.fleet_model.specs.States.{State, block_of, is_robot, pending_route}
use Rattle.fleet_base.specs.declared.answers.ReplanRefused.TheVariants as replan_refused
use Rattle.coordinator.specs.Replans.{IsReplanAnswer}
use Rattle.coordinator.specs.Books.{Book, IsAnswer, book_after, with_entries}

-- a step whose answer tells whether there is an entry
pub record IsTold {A E : Type 0} (step : Step A E) : Type 0 where
  pub accepted : (a : A) → step.answer ≡ Ok a → is_some step.entry ≡ true
  pub refused : (e : E) → step.answer ≡ Err e → step.entry ≡ None

-- an accepted step behind refusals
behind : {A E : Type 0} (o : Option E) (s : State) (step : Step A E) (a : A) (entry : Entry) → step.answer ≡ Ok a → step.entry ≡ Some entry → IsTold (unless_refused o s step)
behind (Some refusal) s step a entry answer is = record { accepted = λ b told. absurd (cc); refused = λ e told. refl }
behind None s step a entry answer is = record { accepted = λ b told. ap is_some is; refused = λ e told. absurd (cc) }

abbrev outcome_of : State → List CellNo → Option Block → Proposed
outcome_of s cells None = proposed.Merged (span_of s cells)
outcome_of s cells (Some block) = proposed.Deferred block

abbrev act_for : State → List CellNo → Option Block → Act
act_for s cells None = act.Merged cells (first_of s)
act_for s cells (Some block) = act.Deferred cells block.cycle

outcome_is : (s : State) (r : ℕ) (cells : List CellNo) (block : Option Block) → (propose_outcome s r cells block).answer ≡ Ok (outcome_of s cells block)
outcome_is s r cells None = refl
outcome_is s r cells (Some block) = refl

outcome_entry : (s : State) (r : ℕ) (cells : List CellNo) (block : Option Block) → (propose_outcome s r cells block).entry ≡ Some (record { robot = record { 0 = r }; act = act_for s cells block })
outcome_entry s r cells None = refl
outcome_entry s r cells (Some block) = refl

module _ (s : State) (r : ℕ) where
  pub proposes : (cells : List CellNo) → IsTold (propose s r cells)
  proposes cells =
      let block = block_of (deferring s r cells) r cells in
      behind (first_some (propose_refusals s r cells block)) s (propose_outcome s r cells block) (outcome_of s cells block) (record { robot = record { 0 = r }; act = act_for s cells block }) (outcome_is s r cells block) (outcome_entry s r cells block)

  pub retries : IsTold (retry s r)
  retries =
      let route = pending_route s r in
      behind (first_some (retry_refusals s r route)) s (accepted (span_of s route) r (act.Retried (first_of s)) (in_segment s (merge_growth s route) (with_route s r route))) (span_of s route) (record { robot = record { 0 = r }; act = act.Retried (first_of s) }) refl refl

  pub cancels : IsTold (cancel s r)
  cancels = behind (first_some (cancel_refusals s r)) s (accepted tt r act.Canceled (moved s s.fleet r None)) tt (record { robot = record { 0 = r }; act = act.Canceled }) refl refl

  pub withdraws : IsTold (withdraw s r)
  withdraws =
      let tail = removable_tail s.fleet r in
      let fleet : Fleet = withdrawn s.fleet tail in
      let found : Withdrawn = record { removed = length tail; end = end_of fleet r } in
      behind (first_some (withdraw_refusals s r tail)) s (accepted found r (act.Withdrawn (length tail) (end_of fleet r)) (moved s fleet r None)) found (record { robot = record { 0 = r }; act = act.Withdrawn (length tail) (end_of fleet r) }) refl refl

  pub replans : (goal : CellNo → Bool) → IsTold (replan s r goal)
  replans goal =
      let detour = detour_of s.fleet r goal in
      let route = unwrap_or detour [] in
      behind (first_some (replan_refusals s r goal detour)) s (accepted (span_of s route) r (act.Replanned route (first_of s)) (in_segment s (merge_growth s route) (with_route s r route))) (span_of s route) (record { robot = record { 0 = r }; act = act.Replanned route (first_of s) }) refl refl

  pub reports : (n : EventNo) → IsTold (report s r n)
  reports n =
      let next = next_event s.fleet r in
      behind (first_some (report_refusals s r n next)) s (accepted tt r (act.Reported n) (record s { fleet = reported s.fleet next; count = s.count + 1 })) tt (record { robot = record { 0 = r }; act = act.Reported n }) refl refl

  -- a look adds no entry
  pub look_adds_nothing : (look s r).entry ≡ None
  look_adds_nothing = by_robot (not (is_robot s r)) (record {})
    where
      by_robot : (b : Bool) (unknown : UnknownRobot) → (unless (when b unknown ∷ []) s (record { answer = Ok (look_of s r); entry = None; after = s })).entry ≡ None
      by_robot true unknown = refl
      by_robot false unknown = refl

-- a book without a new entry is the book
pub none_added : (book : Book) (entry : Option Entry) → entry ≡ None → book ≡ with_entries book (option_to_list entry)
none_added book entry none = ap (λ entries. record book { journal = entries }) (sym (append-nil book.journal)) ∙ ap (λ o. with_entries book (option_to_list o)) (sym none)

-- what a call leaves is the book with its entry, where it has one
pub book_is : {A E : Type 0} (old new : Book) (step : Step A E) (answer : Result A E) → IsTold step → answer ≡ step.answer → new ≡ book_after answer step.entry old → new ≡ with_entries old (option_to_list step.entry)
book_is old new step (Ok a) told due book = book
book_is old new step (Err e) told due book = book ∙ none_added old step.entry (told.refused e (sym due))

-- a refusal that isn't want of memory is the machine's
pub refusal_is : {A E : Type 0} (no_memory refused : E) (due : Result A E) → refused ≢ no_memory → IsAnswer no_memory (Err refused) due → Err refused ≡ due
refusal_is no_memory refused (Ok a) differs (inl is) = absurd (cc)
refusal_is no_memory refused (Ok a) differs (inr is) = absurd (differs (cc))
refusal_is no_memory refused (Err e) differs is = is

-- that of a replan too
pub replan_refusal_is : (refused : ReplanRefused) (due : Result Span ReplanRefused) → refused ≢ replan_refused.NoMemory → IsReplanAnswer (Err refused) due → Err refused ≡ due
replan_refusal_is refused due differs (inl is) = is
replan_refusal_is refused due differs (inr p) = absurd (differs (let is = p.0 in cc))
