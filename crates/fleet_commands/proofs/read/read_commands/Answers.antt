use Rattle.std.proofs.Common.{◌≡◌, Ok, drop, slice_range, subst, sym, All, ◌∙◌, arith, rules}
use Rattle.site_lines.specs.Lines.{lines_of}
use Rattle.fleet_commands.specs.Commands.{IsDeclared}
use Rattle.fleet_commands.specs.Gives.{Gives}
use Rattle.fleet_commands.specs.Reading.{commands_of}
use Rattle.fleet_commands.proofs.LineSteps.{step_input, declared_more}
use Rattle.fleet_commands.proofs.Texts.{accepted_is_said, refused_is_bad}
use Rattle.fleet_commands.proofs.read.read_commands.Goals as goal

pub loop-line-preserved : goal.loop-line-preserved
loop-line-preserved c =
    let is : c.command_in.result ≡ Ok c.in_ok-said.said = search rules in
    let line = c.in-Some.line in
    let found = c.in-Some.ensures.within in
    let more = c.in_ok-push_said.ensures.ok in
    let says = rw (is, c.without_return-text.ensures.is) at c.command_in.ensures.says in
    let declared = rw is at c.command_in.ensures.declared in
    record {
      rest = step_input c.args.names.now c.loop-line.number c.loop-line.commands.items c.push_said.new.commands.items
          (slice_range c.args.bytes.now line.start line.stop) (lines_of (drop c.loop-line.place c.args.bytes.now)) (lines_of (drop line.next c.args.bytes.now)) c.in_ok-said.said
          says c.in-Some.ensures.lines more ∙ c.loop-line.invariant.rest;
      declared = subst (All (IsDeclared c.args.names.now)) (sym more) (declared_more c.args.names.now c.loop-line.commands.items c.in_ok-said.said c.loop-line.invariant.declared declared);
      within = omega arith;
      from = omega arith;
      count = omega arith;
    }

pub returns-clause-said : goal.returns-clause-said
returns-clause-said c =
    let accepted : commands_of c.args.names.now c.args.first_line (drop c.args.from c.args.bytes.now) ≡ Ok c.loop-line.commands.items = search rules in
    accepted_is_said c.args.names.now c.args.first_line (drop c.args.from c.args.bytes.now) c.loop-line.commands.items accepted

pub returns-in_err-said-clause-bad : goal.returns-in_err-said-clause-bad
returns-in_err-said-clause-bad c = λ at is.
    let gives : Gives c.from_residual.result (commands_of c.args.names.now c.args.first_line (drop c.args.from c.args.bytes.now)) = search rules in
    refused_is_bad c.args.names.now c.args.first_line (drop c.args.from c.args.bytes.now) at (rw is at gives)
