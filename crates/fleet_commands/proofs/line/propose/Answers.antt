use Rattle.std.proofs.Common.{arith}
use Rattle.std.proofs.lemmas.Grind.{common_steps}
use Rattle.fleet_commands.proofs.CellWords.{count_named}
use Rattle.fleet_commands.proofs.line.propose.Goals as goal

pub returns-then-is_empty-clause-says : goal.returns-then-is_empty-clause-says
returns-then-is_empty-clause-says c =
    let count = count_named c.args.names.now c.next.new.self c.in_ok-route.route c.in_ok-route.ensures.says.1 in
    grind (arith, common_steps, count)
