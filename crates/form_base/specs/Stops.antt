-- What a form answers that may lack memory.
use Rattle.std.specs.Prelude.{◌≡◌, ℕ, List, Ok, Err, Result}
use Rattle.form_base.specs.declared.fault.Fault.{Fault}
use Rattle.form_base.specs.declared.fault.Stop.{Stop}
use Rattle.form_base.specs.declared.fault.Stop.TheVariants.{NoMemory, Refused}
use Rattle.form_base.specs.declared.report.Report as declared
use Rattle.form_base.specs.Forms.{Due, FormSpec, Report, reply_for, report_view}

-- what an answer says of the input
abbrev pub Means : FormSpec → List ℕ → Result Report Fault → Type 0
Means spec input (Ok report) = spec.holds input report
Means spec input (Err fault) = spec.fault input fault

-- an answer may come of an input within the limit, and has its cause there
pub record IsAnswer (spec : FormSpec) (input : List ℕ) (answer : Result Report Fault) : Type 0 where
  pub may : spec.output input answer
  pub cause : Means spec input answer

-- what a form's function answers may come of the input and has its cause there, unless memory ran out
abbrev pub Answers : FormSpec → List ℕ → Result declared.Report Stop → Type 0
Answers spec input (Ok report) = IsAnswer spec input (Ok (report_view report))
Answers spec input (Err (Refused fault)) = IsAnswer spec input (Err fault)
Answers spec input (Err NoMemory) = Unit {0}

-- this is due for what a form's function answers, which has memory
abbrev pub Replies : Result declared.Report Stop → Due → Type 0
Replies (Ok report) due = due ≡ reply_for (Ok (report_view report))
Replies (Err (Refused fault)) due = due ≡ reply_for (Err fault)
Replies (Err NoMemory) due = ⊥
