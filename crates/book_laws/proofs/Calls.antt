-- The hard properties over books.
use Rattle.std.proofs.Common.{◌≡◌, ◌≢◌, ◌↔◌, ◌⊎◌, inl, inr, ℕ, Bool, List, [], ◌∷◌, ◌++◌, Some, None, Result, Ok, Err, refl, sym, ap, subst, ◌∙◌}
use Rattle.std.specs.Option.{option_to_list}
use Rattle.fleet_base.specs.Lists.{numbers_of, robots_of}
use Rattle.fleet_base.specs.declared.answers.Block.{Block}
use Rattle.fleet_base.specs.declared.answers.ProposeRefused.{ProposeRefused}
use Rattle.fleet_base.specs.declared.answers.ProposeRefused.TheVariants as propose_refused
use Rattle.fleet_base.specs.declared.answers.Proposed.{Proposed}
use Rattle.fleet_base.specs.declared.answers.Proposed.TheVariants.{Merged, Deferred}
use Rattle.fleet_base.specs.declared.answers.ReplanRefused.{ReplanRefused}
use Rattle.fleet_base.specs.declared.answers.ReplanRefused.TheVariants as replan_refused
use Rattle.fleet_base.specs.declared.answers.ReportRefused.{ReportRefused}
use Rattle.fleet_base.specs.declared.answers.RetryRefused.{RetryRefused}
use Rattle.fleet_base.specs.declared.answers.RetryRefused.TheVariants as retry_refused
use Rattle.fleet_base.specs.declared.entries.Entry.{Entry}
use Rattle.fleet_base.specs.declared.numbers.CellNo.{CellNo}
use Rattle.fleet_base.specs.declared.numbers.Event.{Event}
use Rattle.fleet_base.specs.declared.numbers.RobotNo.{RobotNo}
use Rattle.fleet_base.specs.declared.numbers.Span.{Span}
use Rattle.fleet_model.specs.Calls.{Propose, Report, Retry, detour_of, propose, replan, report, retry}
use Rattle.fleet_model.specs.Good.{IsGood}
use Rattle.fleet_model.specs.Plans.{IsAllowed}
use Rattle.fleet_model.specs.Sites.{IsSite}
use Rattle.fleet_model.specs.Sound.{AreCyclesSound, CanInsert, IsCycle, IsTrueTo}
use Rattle.fleet_model.specs.States.{State, pending_route}
use Rattle.fleet_model.proofs.Soundness.{cycles_sound}
use Rattle.call_laws.specs.Bindings.{AreDeferred, Binds, OnlyReport}
use Rattle.call_laws.specs.Least.{AllowedSafely}
use Rattle.call_laws.specs.Proposals.{IsDeferred, IsMerged, MayPropose}
use Rattle.call_laws.proofs.Bindings.{journal_binds, proposal_binds, retry_binds_here}
use Rattle.call_laws.proofs.LegalRoutes.{deferred_exactly, merged_exactly, refused_full}
use Rattle.call_laws.proofs.Merges.{proposed_least, replanned_least, retried_least}
use Rattle.call_laws.proofs.Orders.{first_accepted}
use Rattle.coordinator.specs.Books.{Book, IsLegalBook, book_after, opening_of, state_of, with_entries}
use Rattle.coordinator.specs.Replans.{IsReplanAnswer}
use Rattle.coordinator.proofs.Leaving.{leaves, replan_leaves}
use Rattle.book_laws.specs.Calls.{AnswersPropose, AnswersReplan, AnswersReport, AnswersRetry}
use Rattle.book_laws.proofs.Answers.{due_err, due_is, due_ok}
use Rattle.book_laws.proofs.LegalBooks.{behind, earlier_legal, state_good}

-- an accepted replan was accepted by the machine
replan_ok : (span : Span) (due : Result Span ReplanRefused) → IsReplanAnswer (Ok span) due → due ≡ Ok span
replan_ok span due (inl is) = sym is
replan_ok span due (inr p) = absurd (let no = p.0 in cc)

module _ (book : Book) (legal : IsLegalBook book) where
  abbrev s : State
  s = state_of book

  abbrev now : IsGood s
  now = (state_good book legal).0

  abbrev site : IsSite s.fleet.site
  site = (state_good book legal).1

  -- a proposal
  module _ (r : ℕ) (cells : List CellNo) (told : Result Proposed ProposeRefused) (after : Book) (may : MayPropose s r cells) (call : AnswersPropose book r cells told after) where
    module _ (room : told ≢ Err propose_refused.Full) (memory : told ≢ Err propose_refused.NoMemory) where
      due : told ≡ (propose s r cells).answer
      due = due_is propose_refused.NoMemory told (propose s r cells).answer memory call.answer

      room_due : (propose s r cells).answer ≢ Err propose_refused.Full
      room_due = subst (λ answer. answer ≢ Err propose_refused.Full) due room

      pub call_merged : IsMerged told ↔ CanInsert s r cells
      call_merged = subst (λ answer. IsMerged answer ↔ CanInsert s r cells) (sym due) (merged_exactly s r cells site may now room_due)

      pub call_deferred : IsDeferred told ↔ (CanInsert s r cells → ⊥)
      call_deferred = subst (λ answer. IsDeferred answer ↔ (CanInsert s r cells → ⊥)) (sym due) (deferred_exactly s r cells site may now room_due)

  pub call_refused : (r : ℕ) (cells : List CellNo) (refused : ProposeRefused) (after : Book) → MayPropose s r cells → AnswersPropose book r cells (Err refused) after → (refused ≡ propose_refused.Full) ⊎ (refused ≡ propose_refused.NoMemory)
  call_refused r cells refused after may call = elim (due_err propose_refused.NoMemory refused (propose s r cells).answer call.answer) [
    | inl memory ↦ inr memory
    | inr due ↦ inl (refused_full s r cells site may refused due)
  ]

  -- an accepted call leaves the machine's state
  pub after_propose : (r : ℕ) (cells : List CellNo) (done : Proposed) (after : Book) → AnswersPropose book r cells (Ok done) after → state_of after ≡ (propose s r cells).after
  after_propose r cells done after call = ap state_of call.book_is ∙ leaves book legal r (Propose cells)

  pub after_retry : (r : ℕ) (span : Span) (after : Book) → AnswersRetry book r (Ok span) after → state_of after ≡ (retry s r).after
  after_retry r span after call = ap state_of call.book_is ∙ leaves book legal r Retry

  pub after_replan : (r : ℕ) (goal : CellNo → Bool) (span : Span) (after : Book) → AnswersReplan book r goal (Ok span) after → state_of after ≡ (replan s r goal).after
  after_replan r goal span after call = ap state_of call.book_is ∙ replan_leaves book legal r goal

  -- merges are least
  pub propose_least : (r : ℕ) (cells : List CellNo) (span : Span) (after : Book) (order : List Event) → AnswersPropose book r cells (Ok (Merged span)) after → AllowedSafely s r cells order → IsAllowed (state_of after).fleet order
  propose_least r cells span after order call safely =
      subst (λ (t : State). IsAllowed t.fleet order) (sym (after_propose r cells (Merged span) after call))
      (proposed_least s r cells span order site now (due_ok propose_refused.NoMemory (Merged span) (propose s r cells).answer call.answer) safely)

  pub retry_least : (r : ℕ) (span : Span) (after : Book) (order : List Event) → AnswersRetry book r (Ok span) after → AllowedSafely s r (pending_route s r) order → IsAllowed (state_of after).fleet order
  retry_least r span after order call safely =
      subst (λ (t : State). IsAllowed t.fleet order) (sym (after_retry r span after call))
      (retried_least s r span order site now (due_ok retry_refused.NoMemory span (retry s r).answer call.answer) safely)

  pub replan_least : (r : ℕ) (goal : CellNo → Bool) (route : List CellNo) (span : Span) (after : Book) (order : List Event) → AnswersReplan book r goal (Ok span) after → detour_of s.fleet r goal ≡ Some route → AllowedSafely s r route order → IsAllowed (state_of after).fleet order
  replan_least r goal route span after order call found safely =
      subst (λ (t : State). IsAllowed t.fleet order) (sym (after_replan r goal span after call))
      (replanned_least s r goal route span order site now found (replan_ok span (replan s r goal).answer call.answer) safely)

  -- cycles bind
  pub propose_binds : (r : ℕ) (cells : List CellNo) (block : Block) (after : Book) → AnswersPropose book r cells (Ok (Deferred block)) after → block.cycle ≢ [] → Binds (state_of after) (numbers_of block.cycle)
  propose_binds r cells block after call some =
      subst (λ t. Binds t (numbers_of block.cycle)) (sym (after_propose r cells (Deferred block) after call))
      (proposal_binds s r cells block site now (due_ok propose_refused.NoMemory (Deferred block) (propose s r cells).answer call.answer) some)

  pub retry_binds_still : (r : ℕ) (block : Block) (after : Book) → AnswersRetry book r (Err (retry_refused.StillDeferred block)) after → block.cycle ≢ [] → Binds (state_of after) (numbers_of block.cycle)
  retry_binds_still r block after call some = elim (due_err retry_refused.NoMemory (retry_refused.StillDeferred block) (retry s r).answer call.answer) [
    | inl memory ↦ absurd (cc)
    | inr due ↦ subst (λ (b : Book). Binds (state_of b) (numbers_of block.cycle)) (sym call.book_is) (retry_binds_here s r block site now due some)
  ]

  -- the first of an allowed order is reported
  pub report_first : (e : Event) (rest : List Event) (told : Result (Unit {0}) ReportRefused) (after : Book) → IsAllowed s.fleet (e ∷ rest) → AnswersReport book e.robot.0 e.no told after → (told ≡ Ok tt) × IsAllowed (state_of after).fleet rest
  report_first e rest told after allowed call =
      let first = first_accepted s e rest now.plan allowed in
      let ok = call.answer ∙ first.0 in
      let left = ap state_of (call.book_is ∙ ap (λ answer. book_after answer (report s e.robot.0 e.no).entry book) ok) ∙ leaves book legal e.robot.0 (Report e.no) in
      (ok, subst (λ (t : State). IsAllowed t.fleet rest) (sym left) first.1)

-- members of a cycle stay deferred as the journal grows
pub later_binds : (book earlier : Book) (entries : List Entry) (members : List ℕ) → IsLegalBook book → book ≡ with_entries earlier entries → IsCycle (state_of earlier) members → IsTrueTo members entries → AreDeferred (state_of book) members × OnlyReport members entries
later_binds book earlier entries members legal is cycle true_to =
    let before = earlier_legal earlier entries (subst IsLegalBook is legal) in
    let then = state_good earlier before.0 in
    let binds = journal_binds (state_of earlier) members entries then.1 then.0 cycle before.1 true_to in
    (subst (λ t. AreDeferred t members) (sym (ap state_of is ∙ behind earlier entries)) binds.0, binds.1)

-- the cycles of a book are sound
pub book_cycles : (book : Book) → IsLegalBook book → AreCyclesSound (opening_of book) book.journal
book_cycles book legal = cycles_sound (opening_of book) legal.site legal.opening book.journal legal.legal
