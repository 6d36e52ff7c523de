-- What a run says of its status, for any form.
use Rattle.std.proofs.Common.{◌≡◌, ◌≢◌, ◌⊎◌, inl, inr, ℕ, ◌<◌, Bool, true, false, List, Option, Some, None, Ok, Err, Result, refl, sym, ap, subst, ◌∙◌, ltb-true, arith}
use Rattle.std.specs.Prelude.{IsSomeAnd, length}
use Rattle.form_base.specs.declared.fault.Fault.{Fault}
use Rattle.form_base.specs.declared.fault.Fault.TheVariants.{TooBig}
use Rattle.form_base.specs.declared.report.Ended.{Ended}
use Rattle.form_base.specs.declared.report.Ended.TheVariants.{Done, Undone, Full}
use Rattle.form_base.specs.Forms.{Due, FormSpec, Report, reply_for, status_of}
use Rattle.form_base.specs.Runs.{Comes, HasFault, IsDue, IsFree, Runs, TellsDue, TellsFault, TellsReport, TellsWhole, is_over, seen}

-- the input that a source tells is the one that a run is for
pub told : {limit : Option ℕ} {is_due : List ℕ → Due → Type 0} {status : ℕ} {left left' written written' : Option (List ℕ)} (input : List ℕ) → left ≡ Some input → Runs limit is_due status left left' written written' → TellsDue (is_due input) status written written'
told input is run =
    let same : input ≡ run.input = rw is at run.is in
    rw same run.told

-- where the write didn't fail it went out whole
pub whole : {is_due : Due → Type 0} {status : ℕ} {old new : Option (List ℕ)} → status ≢ 6 → TellsDue is_due status old new → TellsWhole is_due status old new
whole fine tells = record { due = tells.due; is = tells.is; whole = tells.tells.whole fine }

-- A status of a form: that of a report, or of a fault.
abbrev IsFormStatus : ℕ → Type 0
IsFormStatus status = (status ≡ 0) ⊎ ((status ≡ 3) ⊎ ((status ≡ 4) ⊎ (status ≡ 7)))

answer_status : (answer : Result Report Fault) → IsFormStatus (reply_for answer).status
answer_status (Ok report) = by_end report.ended
  where
    by_end : (ended : Ended) → IsFormStatus (status_of ended)
    by_end Done = inl refl
    by_end Undone = inr (inr (inl refl))
    by_end Full = inr (inr (inr refl))
answer_status (Err fault) = inr (inl refl)

-- it tells nothing of memory, words, reading or writing
is_free : (status : ℕ) → IsFormStatus status → IsFree status
is_free status (inl is) = (omega (arith, is), λ e. omega (arith, is, e), λ e. omega (arith, is, e), λ e. omega (arith, is, e), λ e. omega (arith, is, e))
is_free status (inr (inl is)) = (omega (arith, is), λ e. omega (arith, is, e), λ e. omega (arith, is, e), λ e. omega (arith, is, e), λ e. omega (arith, is, e))
is_free status (inr (inr (inl is))) = (omega (arith, is), λ e. omega (arith, is, e), λ e. omega (arith, is, e), λ e. omega (arith, is, e), λ e. omega (arith, is, e))
is_free status (inr (inr (inr is))) = (omega (arith, is), λ e. omega (arith, is, e), λ e. omega (arith, is, e), λ e. omega (arith, is, e), λ e. omega (arith, is, e))

pub due_free : (spec : FormSpec) (input : List ℕ) (due : Due) → IsDue spec input due → IsFree due.status
due_free spec input due is = is_free due.status (subst (λ (d : Due). IsFormStatus d.status) (sym is.is) (answer_status is.answer))

-- A form that gave its text doesn't end with the status of refusals.
not_refused : (ended : Ended) → status_of ended ≡ 3 → ⊥
not_refused Done e = cc
not_refused Undone e = cc
not_refused Full e = cc

not_cut : (ended : Ended) → status_of ended ≡ 6 → ⊥
not_cut Done e = cc
not_cut Undone e = cc
not_cut Full e = cc

-- and forms that end with one status end alike
same_end : (a b : Ended) → status_of a ≡ status_of b → a ≡ b
same_end Done Done e = refl
same_end Done Undone e = absurd (cc)
same_end Done Full e = absurd (cc)
same_end Undone Done e = absurd (cc)
same_end Undone Undone e = refl
same_end Undone Full e = absurd (cc)
same_end Full Done e = absurd (cc)
same_end Full Undone e = absurd (cc)
same_end Full Full e = refl

module _ (spec : FormSpec) (input : List ℕ) where
  big : (limit : Option ℕ) → spec.limit ≡ limit → is_over limit input ≡ true → IsSomeAnd spec.limit (λ most. most < length input)
  big None reads over = absurd (cc)
  big (Some limit) reads over = rw reads (ltb-true _ _ over)

  -- a fault that is due is in the input
  fault_in : (over : Bool) → is_over spec.limit input ≡ over → (fault : Fault) → Comes over spec input (Err fault) → HasFault spec input fault
  fault_in true is fault comes =
      let same : fault ≡ TooBig = cc in
      inl (same, big spec.limit refl is)
  fault_in false is fault comes = inr comes.cause

  -- and what is known of a report holds
  holds_in : (over : Bool) (report : Report) → Comes over spec input (Ok report) → spec.holds (seen spec.limit input) report
  holds_in true report comes = absurd (cc)
  holds_in false report comes = comes.cause

  module _ {status : ℕ} {old new : Option (List ℕ)} where
    -- status 3 tells a fault of the input
    by_fault : (answer : Result Report Fault) → Comes (is_over spec.limit input) spec input answer → (due : Due) → due ≡ reply_for answer → status ≡ 3 → TellsWhole (λ d. d ≡ due) status old new → TellsFault spec input old new
    by_fault (Ok report) comes due is three whole =
        let at : status_of report.ended ≡ 3 = sym (ap (λ (d : Due). d.status) is) ∙ (sym (ap (λ (d : Due). d.status) whole.is)) ∙ (sym whole.whole.0) ∙ three in
        absurd (not_refused report.ended at)
    by_fault (Err fault) comes due is three whole = record {
      fault = fault;
      is = fault_in (is_over spec.limit input) refl fault comes;
      told = rw (sym (ap (λ (d : Due). d.text) (whole.is ∙ is))) whole.whole.1;
    }

    pub refused : status ≡ 3 → TellsDue (IsDue spec input) status old new → TellsFault spec input old new
    refused three tells = by_fault tells.is.answer tells.is.comes tells.due tells.is.is three (record { due = tells.due; is = refl; whole = tells.tells.whole (omega (arith, three)) })

    -- the status of a form's end tells a report of which what is known holds
    by_report : (ended : Ended) (answer : Result Report Fault) → Comes (is_over spec.limit input) spec input answer → (due : Due) → due ≡ reply_for answer → status ≡ status_of ended → TellsWhole (λ d. d ≡ due) status old new → TellsReport spec input ended old new
    by_report ended (Ok report) comes due is ends whole =
        let at : status_of report.ended ≡ status_of ended = sym (ap (λ (d : Due). d.status) is) ∙ (sym (ap (λ (d : Due). d.status) whole.is)) ∙ (sym whole.whole.0) ∙ ends in
        let same : report.ended ≡ ended = same_end report.ended ended at in
        record {
          text = report.text;
          is = subst (λ e. spec.holds (seen spec.limit input) (record { ended = e; text = report.text })) same (holds_in (is_over spec.limit input) report comes);
          told = rw (sym (ap (λ (d : Due). d.text) (whole.is ∙ is))) whole.whole.1;
        }
    by_report ended (Err fault) comes due is ends whole =
        let at : status_of ended ≡ 3 = sym ends ∙ whole.whole.0 ∙ ap (λ (d : Due). d.status) whole.is ∙ ap (λ (d : Due). d.status) is in
        absurd (not_refused ended at)

    pub reported : (ended : Ended) → status ≡ status_of ended → TellsDue (IsDue spec input) status old new → TellsReport spec input ended old new
    reported ended ends tells = by_report ended tells.is.answer tells.is.comes tells.due tells.is.is ends (record { due = tells.due; is = refl; whole = tells.tells.whole (λ six. not_cut ended (sym ends ∙ six)) })
