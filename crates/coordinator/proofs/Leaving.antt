-- The state that a call leaves.
use Rattle.std.proofs.Common.{◌≡◌, ℕ, Bool, List, [], ◌∷◌, Option, Some, None, refl, sym, ap, ◌∙◌}
use Rattle.std.proofs.lemmas.List.{append-nil}
use Rattle.std.specs.Option.{option_to_list, unwrap_or}
use Rattle.fleet_base.specs.declared.answers.ReplanRefused.{ReplanRefused}
use Rattle.fleet_base.specs.declared.entries.Act.TheVariants as act
use Rattle.fleet_base.specs.declared.entries.Entry.{Entry}
use Rattle.fleet_base.specs.declared.numbers.CellNo.{CellNo}
use Rattle.fleet_base.specs.declared.numbers.Span.{Span}
use Rattle.fleet_model.specs.Lists.{first_some}
use Rattle.fleet_model.specs.Sites.{IsSite}
use Rattle.fleet_model.specs.States.{State}
use Rattle.fleet_model.specs.Calls.{Call, Step, accepted, detour_of, first_of, in_segment, merge_growth, replan, replan_refusals, span_of, turn, unless_refused, with_route}
use Rattle.fleet_model.specs.Good.{IsGood}
use Rattle.fleet_model.specs.Journals.{state_after}
use Rattle.fleet_model.proofs.GoodStates.{journal_good}
use Rattle.fleet_model.proofs.Soundness.{state_after-append}
use Rattle.fleet_model.proofs.Turns.{calls_journal}
use Rattle.coordinator.specs.Books.{Book, IsLegalBook, Reaches, opening_of, state_of, with_entries}
use Rattle.coordinator.proofs.Replans.{replan_to_last}

module _ (book : Book) (legal : IsLegalBook book) where
  abbrev s : State
  s = state_of book

  good_now : IsGood s × IsSite s.fleet.site
  good_now = journal_good (opening_of book) book.journal legal.site legal.opening legal.legal

  -- the book with the entry of a call, where it has one, reaches the state that the call leaves
  pub leaves : (r : ℕ) (call : Call) → state_of (with_entries book (option_to_list (turn s r call).entry)) ≡ (turn s r call).after
  leaves r call =
      let entries : List Entry = option_to_list (turn s r call).entry in
      state_after-append (opening_of book) book.journal entries
      ∙ ap (state_after s) (sym (append-nil entries))
      ∙ (calls_journal s ((r, call) ∷ []) good_now.1 good_now.0).1

  module _ (r : ℕ) (goal : CellNo → Bool) where
    abbrev route : List CellNo
    route = unwrap_or (detour_of s.fleet r goal) []

    -- the replan where nothing refuses it
    abbrev done : Step Span ReplanRefused
    done = accepted (span_of s route) r (act.Replanned route (first_of s)) (in_segment s (merge_growth s route) (with_route s r route))

    by_refusal : (o : Option ReplanRefused) → first_some (replan_refusals s r goal (detour_of s.fleet r goal)) ≡ o → Reaches book (unless_refused o s done)
    by_refusal (Some refusal) is = ap (λ es. state_of (record book { journal = es })) (append-nil book.journal)
    by_refusal None is =
        let free : replan s r goal ≡ done = ap (λ o. unless_refused o s done) is in
        let gives : (replan s r goal).entry ≡ done.entry = ap (λ (t : Step Span ReplanRefused). t.entry) free in
        state_after-append (opening_of book) book.journal (option_to_list done.entry)
        ∙ ap (λ (t : Step Span ReplanRefused). t.after) (replan_to_last s r goal (record { 0 = r }) route (first_of s) gives good_now.1 ∙ free)

    -- also where the call is a replan to any goal
    pub replan_leaves : Reaches book (replan s r goal)
    replan_leaves = by_refusal (first_some (replan_refusals s r goal (detour_of s.fleet r goal))) refl
