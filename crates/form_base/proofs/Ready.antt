-- What is due for what was seen of a source.
use Rattle.std.proofs.Common.{◌≡◌, ℕ, true, false, List, [], Option, Some, None, Ok, Err, Result, refl, subst}
use Rattle.form_base.specs.declared.fault.Fault.{Fault}
use Rattle.form_base.specs.declared.fault.Fault.TheVariants.{TooBig}
use Rattle.form_base.specs.declared.fault.Stop.{Stop}
use Rattle.form_base.specs.declared.fault.Stop.TheVariants.{NoMemory, Refused}
use Rattle.form_base.specs.declared.report.Report as declared
use Rattle.form_base.specs.Forms.{Due, FormSpec, Report, reply_for, report_view}
use Rattle.form_base.specs.Runs.{IsDue, IsReady, IsTaken}
use Rattle.form_base.specs.Stops.{Answers, IsAnswer, Replies}

module _ (spec : FormSpec) {left left' : Option (List ℕ)} (due : Due) where
  -- an answer to what was seen
  of_answer : {bytes : List ℕ} → IsTaken false spec.limit left left' bytes → (answer : Result Report Fault) → IsAnswer spec bytes answer → due ≡ reply_for answer → IsReady spec.limit (IsDue spec) left left' due
  of_answer taken answer is due_is = record {
    input = taken.input;
    is = taken.is;
    takes = taken.takes;
    due_is = record { answer = answer; comes = rw taken.size (subst (λ bs. IsAnswer spec bs answer) taken.sees is); is = due_is };
  }

  by_answer : {bytes : List ℕ} → IsTaken false spec.limit left left' bytes → (answer : Result declared.Report Stop) → Answers spec bytes answer → Replies answer due → IsReady spec.limit (IsDue spec) left left' due
  by_answer taken (Ok report) is replies = of_answer taken (Ok (report_view report)) is replies
  by_answer taken (Err (Refused fault)) is replies = of_answer taken (Err fault) is replies
  by_answer taken (Err NoMemory) is replies = absurd replies

  -- what a form answers to what was seen is due
  pub answer_ready : {limit : Option ℕ} (bytes : List ℕ) (answer : Result declared.Report Stop) → limit ≡ spec.limit → IsTaken false limit left left' bytes → Answers spec bytes answer → Replies answer due → IsReady spec.limit (IsDue spec) left left' due
  answer_ready bytes answer same taken is replies = by_answer (subst (λ l. IsTaken false l left left' bytes) same taken) answer is replies

  by_size : {bytes : List ℕ} → IsTaken true spec.limit left left' bytes → due ≡ reply_for (Err TooBig) → IsReady spec.limit (IsDue spec) left left' due
  by_size taken is = record {
    input = taken.input;
    is = taken.is;
    takes = taken.takes;
    due_is = record { answer = Err TooBig; comes = rw taken.size refl; is = is };
  }

  -- an input above the limit is refused
  pub big_ready : {limit : Option ℕ} → limit ≡ spec.limit → (seen : List ℕ) × IsTaken true limit left left' seen → due ≡ reply_for (Err TooBig) → IsReady spec.limit (IsDue spec) left left' due
  big_ready same taken is = by_size (subst (λ l. IsTaken true l left left' taken.0) same taken.1) is

-- what is due whatever the input is, where nothing is read
pub unread_ready : (is_due : List ℕ → Due → Type 0) (left : Option (List ℕ)) (due : Due) → ((input : List ℕ) → is_due input due) → IsReady None is_due left left due
unread_ready is_due (Some xs) due is = record { input = xs; is = refl; takes = refl; due_is = is xs }
unread_ready is_due None due is = record { input = []; is = tt; takes = tt; due_is = is [] }
