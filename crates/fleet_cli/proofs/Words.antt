-- What a run says of its status, for words that may be no form.
use Rattle.std.proofs.Common.{◌≡◌, ◌≢◌, ◌≤◌, ◌⊎◌, inl, inr, ℕ, List, Option, Some, None, refl, sym, ap, subst, ◌∙◌, arith}
use Rattle.std.specs.Io.KnownBytes.{Keeps}
use Rattle.form_base.specs.Forms.{Due, status_of}
use Rattle.form_base.specs.declared.report.Ended.{Ended}
use Rattle.form_base.specs.declared.report.Ended.TheVariants.{Done, Undone, Full}
use Rattle.form_base.specs.Runs.{TellsDue, TellsFault, TellsReport, TellsWhole}
use Rattle.form_base.proofs.Causes.{refused, reported, told, whole}
use Rattle.form_base.proofs.Ready.{unread_ready}
use Rattle.fleet_cli.specs.Forms.{Form, spec_of, usage_text}
use Rattle.fleet_cli.specs.Runs.{HasStatus, IsDueFor, IsReadyFor, RunsFor}

-- words that are no form
pub unknown_ready : (form : Option Form) (left : Option (List ℕ)) (due : Due) → form ≡ None → due ≡ record { status = 2; text = usage_text } → IsReadyFor form left left due
unknown_ready form left due absent is = subst (λ f. IsReadyFor f left left due) (sym absent) (unread_ready (IsDueFor None) left due (λ input. is))

-- how a run may end
abbrev pub Ends : Option Form → ℕ → Type 0
Ends form status = (status ≡ 1) ⊎ ((status ≡ 5) ⊎ ((status ≡ 6) ⊎ HasStatus form status))

not_cut : (form : Option Form) (status : ℕ) → HasStatus form status → status ≢ 6
not_cut None status two six = omega (arith, two, six)
not_cut (Some form) status free six = free.4 six

not_silent : (form : Option Form) (status : ℕ) → HasStatus form status → (status ≢ 1) × (status ≢ 5)
not_silent None status two = (λ e. omega (arith, two, e), λ e. omega (arith, two, e))
not_silent (Some form) status free = (free.1, free.3)

at_most_seven : (form : Option Form) (status : ℕ) → HasStatus form status → status ≤ 7
at_most_seven None status two = omega (arith, two)
at_most_seven (Some form) status free = free.0

pub in_range : (form : Option Form) (status : ℕ) → Ends form status → status ≤ 7
in_range form status (inl one) = omega (arith, one)
in_range form status (inr (inl five)) = omega (arith, five)
in_range form status (inr (inr (inl six))) = omega (arith, six)
in_range form status (inr (inr (inr has))) = at_most_seven form status has

ended_told : (ended : Ended) → (status_of ended ≢ 1) × (status_of ended ≢ 5)
ended_told Done = (λ e. cc, λ e. cc)
ended_told Undone = (λ e. cc, λ e. cc)
ended_told Full = (λ e. cc, λ e. cc)

-- words that are no form are told so
pub told_unknown : (form : Option Form) (status : ℕ) → form ≡ None → (status ≡ 5 → form ≢ None) → Ends form status → (status ≡ 1) ⊎ ((status ≡ 2) ⊎ (status ≡ 6))
told_unknown form status none unread (inl one) = inl one
told_unknown form status none unread (inr (inl five)) = absurd (unread five none)
told_unknown form status none unread (inr (inr (inl six))) = inr (inr six)
told_unknown form status none unread (inr (inr (inr has))) = inr (inl (subst (λ f. HasStatus f status) none has))

module _ {left left' written written' : Option (List ℕ)} where
  -- and nothing is read
  told_usage : (form : Option Form) (status : ℕ) → status ≡ 2 → HasStatus form status → RunsFor form status left left' written written' → (form ≡ None) × Keeps left left'
  told_usage None status two has run = (refl, run.takes)
  told_usage (Some form) status two free run = absurd (free.2 two)

  pub ends_usage : (form : Option Form) (status : ℕ) → status ≡ 2 → Ends form status → RunsFor form status left left' written written' → (form ≡ None) × Keeps left left'
  ends_usage form status two (inl one) run = absurd (omega (arith, two, one))
  ends_usage form status two (inr (inl five)) run = absurd (omega (arith, two, five))
  ends_usage form status two (inr (inr (inl six))) run = absurd (omega (arith, two, six))
  ends_usage form status two (inr (inr (inr has))) run = told_usage form status two has run

  -- where nothing failed it went out whole
  pub ends_whole : (form : Option Form) (status : ℕ) (input : List ℕ) → left ≡ Some input → (status ≡ 5 → ⊥) → (status ≡ 6 → ⊥) → (status ≢ 1 → status ≢ 5 → RunsFor form status left left' written written') → Ends form status
      → (status ≡ 1) ⊎ TellsWhole (IsDueFor form input) status written written'
  ends_whole form status input is no_read no_write run (inl one) = inl one
  ends_whole form status input is no_read no_write run (inr (inl five)) = absurd (no_read five)
  ends_whole form status input is no_read no_write run (inr (inr (inl six))) = absurd (no_write six)
  ends_whole form status input is no_read no_write run (inr (inr (inr has))) =
      let some = not_silent form status has in
      inr (whole (not_cut form status has) (told input is (run some.0 some.1)))

  -- what a form's words are told
  asked : (words : Option Form) (status : ℕ) (form : Form) (input : List ℕ) → words ≡ Some form → left ≡ Some input → RunsFor words status left left' written written' → TellsDue (IsDueFor (Some form) input) status written written'
  asked words status form input is known run = told input known (subst (λ f. RunsFor f status left left' written written') is run)

  pub asked_refused : (words : Option Form) (status : ℕ) (form : Form) (input : List ℕ) → words ≡ Some form → left ≡ Some input → status ≡ 3 → RunsFor words status left left' written written' → TellsFault (spec_of form) input written written'
  asked_refused words status form input is known three run = refused (spec_of form) input three (asked words status form input is known run)

  pub asked_reported : (words : Option Form) (status : ℕ) (form : Form) (input : List ℕ) (ended : Ended) → words ≡ Some form → left ≡ Some input → status ≡ status_of ended
      → (status ≢ 1 → status ≢ 5 → RunsFor words status left left' written written') → TellsReport (spec_of form) input ended written written'
  asked_reported words status form input ended is known ends run =
      let free = ended_told ended in
      reported (spec_of form) input ended ends (asked words status form input is known (run (λ one. free.0 (sym ends ∙ one)) (λ five. free.1 (sym ends ∙ five))))
