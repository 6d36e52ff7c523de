use Rattle.std.proofs.Common.{◌≡◌, ℕ, List, ◌++◌, length, All, ap, subst, sym, ◌∙◌}
use Rattle.coordinator.specs.Books.{Book}
use Rattle.fleet_commands.specs.Commands.{IsDeclared}
use Rattle.fleet_commands.specs.declared.command.Command.{Command}
use Rattle.fleet_model.specs.Sites.{IsSite}
use Rattle.scenario.specs.Scenarios.{ScenarioValue}
use Rattle.site_map.specs.Built.{BuiltSite}
use Rattle.site_map.specs.Claims.{site_of}
use Rattle.fleet_texts.specs.Texts.{journal_text}
use Rattle.fleet_calls.specs.Calls.{HasGoal}
use Rattle.fleet_script.specs.Script.{printed}
use Rattle.fleet_script.specs.Stops.{script_value}
use Rattle.fleet_script.proofs.Goals.{goals_are}
use Rattle.fleet_script.proofs.Runs.{prints_soundly, run_printed}
use Rattle.fleet_script.proofs.script.run.Goals as goal

pub carry_out-requires : goal.carry_out-requires
carry_out-requires c =
    let scenario : ScenarioValue = c.args.script.scenario in
    let commands : List Command = c.deref.result.now in
    let declared : All (IsDeclared scenario.names) commands = subst (λ (cs : List Command). All (IsDeclared scenario.names) cs) (sym c.deref.ensures.value) c.requires in
    subst (λ (b : Book). All (λ (command : Command). HasGoal b.site command.request) commands) (sym c.in_ok-names.ensures.fleet)
    (goals_are scenario.names scenario.site (length scenario.starts) c.in_ok-names.ensures.kept.named commands declared)

pub returns-clause-is : goal.returns-clause-is
returns-clause-is c =
    let scenario : ScenarioValue = c.args.script.scenario in
    let commands : List Command = c.deref.result.now in
    run_printed scenario commands c.in_ok-names.ensures.names c.in_ok-names.ensures.fleet c.new-text.ensures.items c.in_ok-carry_out.ensures
    (c.in_ok-push_journal.ensures.ok ∙ ap (λ entries. c.carry_out.new.text.items ++ journal_text c.in_ok-names.field-0.names entries) c.journal.ensures.entries) c.in_ok-push_state.ensures.ok
    ∙ ap (λ (cs : List Command). printed (record { scenario = scenario; commands = cs })) c.deref.ensures.value

pub returns-clause-sound : goal.returns-clause-sound
returns-clause-sound c =
    let site : c.carry_out.new.fleet.site ≡ c.args.script.scenario.site = ap (λ (b : Book). b.site) c.in_ok-carry_out.ensures.book ∙ ap (λ (b : Book). b.site) c.in_ok-names.ensures.fleet in
    prints_soundly (script_value c.args.script) c.in_ok-names.ensures.kept (subst (λ (s : BuiltSite). IsSite (site_of s)) site c.journal.ensures.site)
