use Rattle.std.proofs.Common.{refl, sym, ◌∙◌}
use Rattle.fleet_commands.proofs.EventNumbers.{not_number}
use Rattle.fleet_commands.proofs.line.event_in.Goals as goal

pub returns-in-Err : goal.returns-in-Err
returns-in-Err c = rw (not_number c.args.word.now c.in-Err.field-0 (sym c.read_number.ensures.is ∙ c.in-Err.is)) refl
