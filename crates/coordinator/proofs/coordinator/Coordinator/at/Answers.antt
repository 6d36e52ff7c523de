use Rattle.std.proofs.Common.{◌≡◌, ◌<◌, length, ap, sym, subst, ◌∙◌}
use Rattle.coordinator.specs.Books.{Book, state_of}
use Rattle.coordinator.proofs.KeptNext.{robot_in, state}
use Rattle.coordinator.proofs.MergedRoutes.{at_cell, tables_known}
use Rattle.std.proofs.lemmas.Option.{same_Some}
use Rattle.std.specs.Prelude.{slice_get}
use Rattle.fleet_base.specs.declared.numbers.CellNo.{CellNo}
use Rattle.fleet_model.specs.Plans.{cell_of}
use Rattle.fleet_model.proofs.Tables.{table_get}
use Rattle.robot_tables.specs.Robots.{Robots}
use Rattle.coordinator.proofs.coordinator.Coordinator.at.Goals as goal

pub at-requires : goal.at-requires
at-requires c = tables_known c.self.inside c.self.invariant c.args.robot.0 (robot_in c.self.inside c.self.invariant c.args.self.now c.self.view_is c.args.robot.0 c.requires)

pub returns-clause-value : goal.returns-clause-value
returns-clause-value c =
    let m = (state c.self.inside c.self.invariant).fleet in
    let there = table_get (cell_of m) (length m.starts) c.args.robot.0 (robot_in c.self.inside c.self.invariant c.args.self.now c.self.view_is c.args.robot.0 c.requires) in
    subst (λ (b : Book). c.at.result ≡ cell_of (state_of b).fleet c.args.robot.0) c.self.view_is
    (same_Some c.at.result (cell_of m c.args.robot.0) (sym c.at.ensures ∙ ap (λ (t : Robots). slice_get t.places c.args.robot.0) c.self.invariant.tables.known ∙ there))

pub returns-clause-known : goal.returns-clause-known
returns-clause-known c =
    let i = c.self.inside in
    let k = c.self.invariant in
    let m = (state i k).fleet in
    let known = robot_in i k c.args.self.now c.self.view_is c.args.robot.0 c.requires in
    let is : c.at.result ≡ cell_of m c.args.robot.0 =
    same_Some c.at.result (cell_of m c.args.robot.0) (sym c.at.ensures ∙ ap (λ (t : Robots). slice_get t.places c.args.robot.0) k.tables.known ∙ table_get (cell_of m) (length m.starts) c.args.robot.0 known) in
    subst (λ (b : Book). c.at.result.0 < b.site.cells) c.self.view_is (subst (λ (a : CellNo). a.0 < i.site.cells) (sym is) (at_cell i k c.args.robot.0 known))
