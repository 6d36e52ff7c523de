-- A script prints a sound journal.
use Rattle.std.proofs.Common.{◌≡◌, ℕ, List, [], ◌++◌, map, refl, sym, ap, subst, ◌∙◌}
use Rattle.coordinator.specs.Books.{Book, state_of}
use Rattle.fleet_commands.specs.Commands.{call_of}
use Rattle.fleet_commands.specs.declared.command.Command.{Command}
use Rattle.fleet_model.specs.Calls.{entries_of}
use Rattle.fleet_model.specs.Sites.{IsSite}
use Rattle.fleet_model.proofs.Turns.{calls_journal}
use Rattle.fleet_names.specs.Names.{Named}
use Rattle.fleet_texts.specs.StateTexts.{state_text}
use Rattle.fleet_texts.specs.Texts.{journal_text}
use Rattle.scenario.specs.Scenarios.{ScenarioValue, IsScenario}
use Rattle.site_map.specs.Claims.{site_of}
use Rattle.run_base.specs.Openings.{opened, opening_of}
use Rattle.run_base.proofs.Runs.{opens, sound_run}
use Rattle.fleet_script.specs.Script.{ScriptValue, calls_of, printed}
use Rattle.fleet_script.specs.Carried.{AreAnswered}
use Rattle.fleet_script.specs.Sound.{PrintsSoundly, answer_lines}

-- what a script prints is its answers, and a sound journal with its state
pub prints_soundly : (script : ScriptValue) → IsScenario script.scenario → IsSite (site_of script.scenario.site) → PrintsSoundly script (printed script)
prints_soundly script is is_site =
    let opening = opening_of script.scenario in
    let good = opens script.scenario is in
    let calls = calls_of script in
    let made = calls_journal opening calls is_site good in
    let run = sound_run script.scenario (entries_of opening calls) is_site good made.0 in
    record {
      journal = entries_of opening calls;
      accepted = refl;
      printed = ap (λ s. answer_lines script ++ journal_text script.scenario.names (entries_of opening calls) ++ state_text script.scenario.names script.scenario.site s) (sym made.1);
      legal = run.legal;
      sound = run.sound;
      reported = run.reported;
    }

-- what is printed once the commands were carried out
pub whole_is : (scenario : ScenarioValue) (commands : List Command) (new : Book) (told listed whole : List ℕ) → AreAnswered scenario.names (map (call_of scenario.site) commands) (opened scenario) new [] told
    → listed ≡ told ++ journal_text scenario.names new.journal → whole ≡ listed ++ state_text scenario.names new.site (state_of new) → whole ≡ printed (record { scenario = scenario; commands = commands })
whole_is scenario commands new told listed whole answered lists ends =
    let script : ScriptValue = record { scenario = scenario; commands = commands } in
    let names = scenario.names in
    let lines = answer_lines script in
    let entries = entries_of (opening_of scenario) (calls_of script) in
    ends
    ∙ ap (λ t. t ++ state_text names new.site (state_of new)) (lists ∙ ap (λ t. t ++ journal_text names new.journal) answered.told)
    ∙ ap (λ j. lines ++ journal_text names j ++ state_text names new.site (state_of new)) (ap (λ (b : Book). b.journal) answered.book)
    ∙ ap (λ site. lines ++ journal_text names entries ++ state_text names site (state_of new)) (ap (λ (b : Book). b.site) answered.book)
    ∙ ap (λ s. lines ++ journal_text names entries ++ state_text names scenario.site s) answered.state

-- the same in what the caller holds: names, a coordinator and a text that was empty
pub run_printed : (scenario : ScenarioValue) (commands : List Command) {names : Named} {fleet new : Book} {begun told listed whole : List ℕ} → names ≡ scenario.names → fleet ≡ opened scenario → begun ≡ []
    → AreAnswered names (map (call_of fleet.site) commands) fleet new begun told → listed ≡ told ++ journal_text names new.journal → whole ≡ listed ++ state_text names new.site (state_of new) → whole ≡ printed (record { scenario = scenario; commands = commands })
run_printed scenario commands {names} {fleet} {new} {begun} {told} {listed} {whole} names_are opens none answered lists ends =
    let by_names : AreAnswered scenario.names (map (call_of fleet.site) commands) fleet new begun told = subst (λ (ns : Named). AreAnswered ns (map (call_of fleet.site) commands) fleet new begun told) names_are answered in
    let by_book : AreAnswered scenario.names (map (call_of scenario.site) commands) (opened scenario) new begun told = subst (λ (b : Book). AreAnswered scenario.names (map (call_of b.site) commands) b new begun told) opens by_names in
    let by_text : AreAnswered scenario.names (map (call_of scenario.site) commands) (opened scenario) new [] told = subst (λ (t : List ℕ). AreAnswered scenario.names (map (call_of scenario.site) commands) (opened scenario) new t told) none by_book in
    whole_is scenario commands new told listed whole by_text (lists ∙ ap (λ (ns : Named). told ++ journal_text ns new.journal) names_are) (ends ∙ ap (λ (ns : Named). listed ++ state_text ns new.site (state_of new)) names_are)
