use Rattle.std.proofs.Common.{◌≡◌, ◌+◌, ◌<◌, drop, get_or, length, ℕ, List, [], ◌∷◌, sym, ap, subst, ◌∙◌, arith, rules}
use Rattle.std.proofs.lemmas.List.{drop_all, drop_more}
use Rattle.coordinator.specs.Books.{Book, IsLegalBook, state_of}
use Rattle.coordinator.proofs.Leaving.{leaves}
use Rattle.fleet_commands.specs.Commands.{call_of}
use Rattle.fleet_commands.specs.declared.command.Command.{Command}
use Rattle.fleet_model.specs.States.{State}
use Rattle.fleet_calls.specs.Calls.{HasGoal}
use Rattle.fleet_script.proofs.Endings.{all_carried, carried, in_the_end}
use Rattle.fleet_script.proofs.carrying.carry_out.Goals as goal

pub answer-requires : goal.answer-requires
answer-requires c =
    let commands : List Command = c.args.commands.now in
    let i = c.loop-command.command-index in
    let command : Command = c.command-item.result in
    let here : get_or commands i command ≡ command = search rules in
    let site : c.loop-command.fleet.site ≡ c.args.fleet.now.site = ap (λ (t : List ℕ × Book × State). t.1.site) c.loop-command.invariant in
    subst (λ s. HasGoal s command.request) (sym site)
    (subst (λ (k : Command). HasGoal c.args.fleet.now.site k.request) here (c.requires i command c.loop-command-test.true))

pub loop-command-preserved : goal.loop-command-preserved
loop-command-preserved c =
    let names = c.args.names.now in
    let commands : List Command = c.args.commands.now in
    let i = c.loop-command.command-index in
    let command : Command = c.command-item.result in
    let old : Book = c.loop-command.fleet in
    let new : Book = c.answer.new.fleet in
    let made = call_of old.site command in
    let kept = c.journal-kept.ensures in
    let legal : IsLegalBook old = record { site = kept.site; opening = kept.opening; legal = kept.legal } in
    let answered = c.in_ok-answer.ensures in
    let here : get_or commands i command ≡ command = search rules in
    let within : i < length commands = omega (arith, c.loop-command-test.true) in
    let split : drop i commands ≡ command ∷ drop (i + 1) commands = drop_more commands i command within ∙ ap (λ x. x ∷ drop (i + 1) commands) here in
    carried names command (drop (i + 1) commands) old c.loop-command.text.items new c.answer.new.text.items c.push_text.new.text.items answered
    (ap state_of answered.book ∙ leaves old legal made.0 made.1) c.in_ok-push_text.ensures.ok
    ∙ ap (λ cs. in_the_end names cs old c.loop-command.text.items) (sym split)
    ∙ c.loop-command.invariant

pub returns : goal.returns
returns c =
    let names = c.args.names.now in
    let commands : List Command = c.args.commands.now in
    let none : drop c.loop-command.command-index commands ≡ [] = drop_all c.loop-command.command-index commands c.loop-command-test.false in
    all_carried names commands c.args.fleet.now c.loop-command.fleet c.args.text.now.items c.loop-command.text.items
    (ap (λ cs. in_the_end names cs c.loop-command.fleet c.loop-command.text.items) (sym none) ∙ c.loop-command.invariant)
