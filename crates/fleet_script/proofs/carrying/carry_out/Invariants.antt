use Rattle.std.proofs.Common.{◌≡◌, drop}
use Rattle.fleet_script.proofs.Endings.{in_the_end}
use Rattle.fleet_script.proofs.carrying.carry_out.Given as goal

abbrev pub invariant-loop-command : goal.invariant-loop-command
invariant-loop-command l = in_the_end l.names (drop l.command-index l.commands) l.fleet l.text.items ≡ in_the_end l.names l.commands l.initial.fleet l.initial.text.items
