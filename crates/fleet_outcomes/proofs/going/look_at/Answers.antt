use Rattle.std.proofs.Common.{◌<◌, ◌∙◌, length, sym, subst}
use Rattle.coordinator.specs.Books.{state_of}
use Rattle.fleet_outcomes.proofs.Acting.{look_known, look_shows}
use Rattle.fleet_outcomes.proofs.going.look_at.Goals as goal

pub unreachable-requires : goal.unreachable-requires
unreachable-requires c =
    look_known (state_of c.args.fleet.now) c.args.robot.0 c.in-Err.field-0 (subst (λ xs. c.args.robot.0 < length xs) (sym c.journal-kept.ensures.same_starts) c.requires) (sym c.in-Err.is ∙ c.look.ensures)

pub returns : goal.returns
returns c = look_shows (state_of c.args.fleet.now) c.args.robot.0 c.in-Ok.look c.in-Ok.ensures
