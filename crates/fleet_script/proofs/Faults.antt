-- What `script` answers comes of its input.
use Rattle.std.proofs.Common.{◌≡◌, ℕ, ◌+◌, inl, inr, List, drop, Ok, Err, Result, refl, sym, ap, subst}
use Rattle.fleet_commands.specs.Reading.{commands_of}
use Rattle.fleet_commands.specs.declared.command.Command.{Command}
use Rattle.fleet_commands.proofs.Texts.{refused_is_bad}
use Rattle.scenario_reader.specs.Reading.{FrontValue, front_of}
use Rattle.scenario_reader.specs.Tables.{mapped}
use Rattle.site_lines.specs.declared.fault.At.{At}
use Rattle.form_base.specs.Forms.{done}
use Rattle.form_base.specs.declared.fault.Stop.{Stop}
use Rattle.form_base.specs.Stops.{Answers, IsAnswer}
use Rattle.run_base.proofs.Fronts.{bad_front}
use Rattle.fleet_script.specs.Form.{IsBadScript, reported, script_form, stop_of}
use Rattle.fleet_script.specs.Script.{ScriptValue, printed, script_of, script_text, with_commands}
use Rattle.fleet_script.specs.Sound.{PrintsSoundly}
use Rattle.fleet_script.specs.Stops.{Fails}
use Rattle.fleet_script.specs.declared.refused.ScriptRefused.{ScriptRefused}
use Rattle.fleet_script.specs.declared.refused.ScriptRefused.TheVariants.{Bad, NoMemory}

-- a bad line that is named is the first one
in_commands : (input : List ℕ) (front : FrontValue) (r : Result (List Command) At) → front_of input ≡ Ok front → commands_of front.scenario.names (front.lines + 1) (drop front.used input) ≡ r → (at : At)
    → mapped printed (mapped (λ commands. record { scenario = front.scenario; commands = commands }) r) ≡ Err at → IsBadScript input at
in_commands input front (Ok commands) begins is at e = absurd (cc)
in_commands input front (Err found) begins is at e =
    let same : found ≡ at = cc in
    subst (IsBadScript input) same (inr (record { front = front; begins = begins; bad = refused_is_bad front.scenario.names (front.lines + 1) (drop front.used input) found is }))

in_script : (input : List ℕ) (r : Result FrontValue At) → front_of input ≡ r → (at : At) → mapped printed (with_commands input r) ≡ Err at → IsBadScript input at
in_script input (Ok front) is at e = in_commands input front (commands_of front.scenario.names (front.lines + 1) (drop front.used input)) is refl at e
in_script input (Err found) is at e =
    let same : found ≡ at = cc in
    subst (IsBadScript input) same (inl (bad_front input found is))

pub bad_script : (input : List ℕ) (at : At) → script_text input ≡ Err at → IsBadScript input at
bad_script input at is = in_script input (front_of input) refl at is

-- a bad line is the answer, and is the first one
by_cause : (input : List ℕ) (refused : ScriptRefused) → Fails refused (script_text input) → Answers script_form input (Err (stop_of refused))
by_cause input (Bad at) is = record { may = sym (ap reported is); cause = bad_script input at is }
by_cause input NoMemory is = tt

pub refused_answer : (input : List ℕ) (refused : ScriptRefused) {stop : Stop} → stop ≡ stop_of refused → Fails refused (script_text input) → Answers script_form input (Err stop)
refused_answer input refused same is = subst (λ (s : Stop). Answers script_form input (Err s)) (sym same) (by_cause input refused is)

-- a text is that of a script
by_script : (r : Result ScriptValue At) (text : List ℕ) → mapped printed r ≡ Ok text → (script : ScriptValue) × (r ≡ Ok script)
by_script (Ok script) text told = (script, refl)
by_script (Err at) text told = absurd (cc)

pub text_answer : {input text : List ℕ} → script_text input ≡ Ok text → ((script : ScriptValue) → script_of input ≡ Ok script → PrintsSoundly script text) → IsAnswer script_form input (Ok (done text))
text_answer {input} {text} told sound =
    let from = by_script (script_of input) text told in
    record { may = sym (ap reported told); cause = record { script = from.0; is = from.1; sound = sound from.0 from.1 } }
