use Rattle.std.proofs.Common.{◌≡◌, length, ap, sym, subst, ◌∙◌}
use Rattle.coordinator.specs.Books.{Book, state_of}
use Rattle.coordinator.proofs.KeptNext.{robot_in, state}
use Rattle.coordinator.proofs.MergedRoutes.{tables_known}
use Rattle.std.proofs.lemmas.Option.{same_Some}
use Rattle.std.specs.Prelude.{slice_get}
use Rattle.fleet_model.specs.Tables.{held_by}
use Rattle.fleet_model.proofs.Tables.{table_get}
use Rattle.robot_tables.specs.Robots.{Robots}
use Rattle.coordinator.proofs.coordinator.Coordinator.holds.Goals as goal

pub held-requires : goal.held-requires
held-requires c = tables_known c.self.inside c.self.invariant c.args.robot.0 (robot_in c.self.inside c.self.invariant c.args.self.now c.self.view_is c.args.robot.0 c.requires)

pub returns : goal.returns
returns c =
    let m = (state c.self.inside c.self.invariant).fleet in
    let there = table_get (held_by m) (length m.starts) c.args.robot.0 (robot_in c.self.inside c.self.invariant c.args.self.now c.self.view_is c.args.robot.0 c.requires) in
    subst (λ (b : Book). c.held.result.now ≡ held_by (state_of b).fleet c.args.robot.0) c.self.view_is
    (same_Some c.held.result.now (held_by m c.args.robot.0) (sym c.held.ensures ∙ ap (λ (t : Robots). slice_get t.holdings c.args.robot.0) c.self.invariant.tables.known ∙ there))
