-- What is due for the words, which may be no form.
use Rattle.std.specs.Prelude.{◌≡◌, ◌≤◌, ◌≢◌, ℕ, List, Some, None}
use Rattle.std.specs.declared.option.Option.{Option}
use Rattle.form_base.specs.Forms.{Due}
use Rattle.form_base.specs.Runs.{IsDue, IsFree, IsReady, Runs}
use Rattle.fleet_cli.specs.Forms.{Form, spec_of, usage_text}

-- the most bytes of input that are taken; None where nothing is read, as for words that are no form
abbrev pub limit_asked : Option Form → Option ℕ
limit_asked None = None
limit_asked (Some form) = (spec_of form).limit

-- what is due for the words and for all that the source had left
abbrev pub IsDueFor : Option Form → List ℕ → Due → Type 0
IsDueFor None input due = due ≡ record { status = 2; text = usage_text }
IsDueFor (Some form) input due = IsDue (spec_of form) input due

-- this is due, and the source was read for it
abbrev pub IsReadyFor : Option Form → Option (List ℕ) → Option (List ℕ) → Due → Type 0
IsReadyFor form left left' due = IsReady (limit_asked form) (IsDueFor form) left left' due

-- a run for the words that met no want of memory and no fault of the source
abbrev pub RunsFor : Option Form → ℕ → Option (List ℕ) → Option (List ℕ) → Option (List ℕ) → Option (List ℕ) → Type 0
RunsFor form status left left' written written' = Runs (limit_asked form) (IsDueFor form) status left left' written written'

-- a status that is written with a text: 2 where the words are no form, else one of a form
abbrev pub HasStatus : Option Form → ℕ → Type 0
HasStatus None status = status ≡ 2
HasStatus (Some form) status = IsFree status
