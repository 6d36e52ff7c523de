-- What a form of the program is, and what is due for what it answers.
use Rattle.std.specs.Prelude.{◌≡◌, ℕ, List, ◌++◌, codes, Ok, Err, Result}
use Rattle.std.specs.declared.option.Option.{Option}
use Rattle.std.specs.Fmt.{decimal}
use Rattle.site_lines.specs.declared.fault.At.{At}
use Rattle.site_lines.specs.Codes.{code_text}
use Rattle.form_base.specs.declared.fault.Fault.{Fault}
use Rattle.form_base.specs.declared.fault.Fault.TheVariants.{Line, TooBig, Entry, UnknownFrom, UnknownTo}
use Rattle.form_base.specs.declared.report.Ended.{Ended}
use Rattle.form_base.specs.declared.report.Ended.TheVariants.{Done, Undone, Full}
use Rattle.form_base.specs.declared.report.Report as declared
use Rattle.form_base.specs.declared.reply.Reply as declared_reply

-- how a form ended, and its text
pub record Report : Type 0 where
  pub ended : Ended
  pub text : List ℕ

-- a status, and the text that is written with it
pub record Due : Type 0 where
  pub status : ℕ
  pub text : List ℕ

-- a form of the program: the most bytes of input that it takes, None where it reads nothing; which answers may come of an input within that limit; what each fault says of the input; and what is known of the input where the form gave a report
pub record FormSpec : Type 1 where
  pub limit : Option ℕ
  pub output : List ℕ → Result Report Fault → Type 0
  pub fault : List ℕ → Fault → Type 0
  pub holds : List ℕ → Report → Type 0

-- of an input just one answer may come, which is a function of the input
abbrev pub of_function : (List ℕ → Result Report Fault) → List ℕ → Result Report Fault → Type 0
of_function answer_of input answer = answer ≡ answer_of input

-- a report and a reply without where their texts lie in memory
abbrev pub report_view : declared.Report → Report
report_view report = record { ended = report.ended; text = report.text.items }

abbrev pub due_view : declared_reply.Reply → Due
due_view reply = record { status = reply.status; text = reply.text.items }

-- the report of a form that did what was asked
abbrev pub done : List ℕ → Report
done text = record { ended = Done; text = text }

-- the status of a form that gave its text
abbrev pub status_of : Ended → ℕ
status_of Done = 0
status_of Undone = 4
status_of Full = 7

-- the line that tells a fault
abbrev pub refused_text : Fault → List ℕ
refused_text (Line at) = codes "refused line " ++ decimal at.line ++ codes " " ++ code_text at.code ++ codes "\n"
refused_text TooBig = codes "refused too big\n"
refused_text UnknownFrom = codes "refused from\n"
refused_text UnknownTo = codes "refused to\n"
refused_text (Entry entry) = codes "refused entry " ++ decimal entry ++ codes "\n"

-- what is due for a report, and for a fault
abbrev pub reply_for : Result Report Fault → Due
reply_for (Ok report) = record { status = status_of report.ended; text = report.text }
reply_for (Err fault) = record { status = 3; text = refused_text fault }

-- a fault that is a bad line; other faults there are none
abbrev pub only_line : (At → Type 0) → Fault → Type 0
only_line is_bad (Line at) = is_bad at
only_line is_bad TooBig = ⊥
only_line is_bad UnknownFrom = ⊥
only_line is_bad UnknownTo = ⊥
only_line is_bad (Entry entry) = ⊥
