-- What a script prints within the limit of its input is one segment.
use Rattle.std.proofs.Common.{◌≡◌, ℕ, ◌+◌, ◌*◌, ◌≤◌, true, eqb, List, [], ◌∷◌, length, drop, Ok, Err, Result, refl, ap, subst, arith}
use Rattle.std.specs.Option.{option_to_list}
use Rattle.std.proofs.lemmas.List.{length-append, length-drop, length-map}
use Rattle.fleet_base.specs.declared.marks.Mark.{Mark}
use Rattle.fleet_commands.specs.Commands.{call_of}
use Rattle.fleet_commands.specs.Reading.{commands_of}
use Rattle.fleet_commands.specs.declared.command.Command.{Command}
use Rattle.fleet_model.specs.Calls.{Call, entries_of, turn}
use Rattle.fleet_model.specs.Segments.{mark_at}
use Rattle.fleet_model.specs.States.{State}
use Rattle.fleet_model.proofs.Turns.{calls_journal}
use Rattle.fleet_script.specs.Script.{ScriptValue, calls_of, script_of, with_commands}
use Rattle.run_base.proofs.Runs.{opens}
use Rattle.scenario_reader.specs.Reading.{FrontValue, front_of}
use Rattle.scenario_reader.specs.Tables.{mapped}
use Rattle.site_lines.specs.declared.fault.At.{At}
use Rattle.run_base.specs.Openings.{is_one_segment, opening_of}
use Rattle.fleet_script.proofs.CommandCounts.{at_most_one, commands_few}
use Rattle.run_base.proofs.EarlySegments.{few_is_whole}
use Rattle.run_base.proofs.BegunFronts.{IsBegun, front_begun}

-- calls add at most one entry each
entries_few : (s : State) (calls : List (ℕ × Call)) → length (entries_of s calls) ≤ length calls
entries_few s [] = omega arith
entries_few s (c ∷ cs) =
    let one = at_most_one (turn s c.0 c.1).entry in
    let rest = entries_few (turn s c.0 c.1).after cs in
    let both = length-append (option_to_list (turn s c.0 c.1).entry) (entries_of (turn s c.0 c.1).after cs) in
    omega (arith, one, rest, both)

-- a script has a scenario that its text begins with, and few commands
record IsFew (input : List ℕ) (script : ScriptValue) : Type 0 where
  begun : IsBegun script.scenario
  few : 5 * length script.commands ≤ length input + 1

by_commands : (input : List ℕ) (front : FrontValue) → front_of input ≡ Ok front → (r : Result (List Command) At) → commands_of front.scenario.names (front.lines + 1) (drop front.used input) ≡ r → (script : ScriptValue)
    → mapped (λ commands. let s : ScriptValue = record { scenario = front.scenario; commands = commands } in s) r ≡ Ok script → IsFew input script
by_commands input front begins (Ok commands) read script is =
    let made : ScriptValue = record { scenario = front.scenario; commands = commands } in
    let same : made ≡ script = cc in
    let few = commands_few front.scenario.names (front.lines + 1) (drop front.used input) commands read in
    let left = length-drop front.used input in
    subst (IsFew input) same (record { begun = front_begun input front begins; few = omega (arith, few, left) })
by_commands input front begins (Err at) read script is = absurd (cc)

by_front : (input : List ℕ) (r : Result FrontValue At) → front_of input ≡ r → (script : ScriptValue) → with_commands input r ≡ Ok script → IsFew input script
by_front input (Ok front) begins script is = by_commands input front begins (commands_of front.scenario.names (front.lines + 1) (drop front.used input)) refl script is
by_front input (Err at) begins script is = absurd (cc)

pub script_whole : (input : List ℕ) (script : ScriptValue) → length input ≤ 4194304 → script_of input ≡ Ok script → is_one_segment (opening_of script.scenario) (entries_of (opening_of script.scenario) (calls_of script)) ≡ true
script_whole input script short is =
    let found = by_front input (front_of input) refl script is in
    let opening = opening_of script.scenario in
    let calls = calls_of script in
    let good = opens script.scenario found.begun.fits in
    let legal = (calls_journal opening calls found.begun.site good).0 in
    let made = entries_few opening calls in
    let count = length-map script.commands (call_of script.scenario.site) in
    let commands = found.few in
    let few : length (entries_of opening calls) ≤ 900000 = omega (arith, made, count, commands, short) in
    let whole = few_is_whole opening (entries_of opening calls) found.begun.site good refl refl refl found.begun.fits.few few legal in
    ap (λ (later : List Mark). eqb (length (mark_at opening ∷ later)) 1) whole
