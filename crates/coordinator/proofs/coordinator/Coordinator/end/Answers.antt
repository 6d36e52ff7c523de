use Rattle.std.proofs.Common.{◌≡◌, ◌<◌, subst, sym}
use Rattle.coordinator.specs.Books.{Book, state_of}
use Rattle.coordinator.proofs.KeptNext.{robot_in}
use Rattle.coordinator.proofs.MergedRoutes.{end_at, end_cell, tables_known}
use Rattle.fleet_base.specs.declared.numbers.CellNo.{CellNo}
use Rattle.fleet_model.specs.Plans.{end_of}
use Rattle.coordinator.proofs.coordinator.Coordinator.end.Goals as goal

pub end-requires : goal.end-requires
end-requires c = tables_known c.self.inside c.self.invariant c.args.robot.0 (robot_in c.self.inside c.self.invariant c.args.self.now c.self.view_is c.args.robot.0 c.requires)

pub returns-clause-value : goal.returns-clause-value
returns-clause-value c =
    let at = end_at c.self.inside c.self.invariant c.args.robot.0 c.end.result c.end.ensures in
    subst (λ (b : Book). c.end.result ≡ end_of (state_of b).fleet c.args.robot.0) c.self.view_is at.1

pub returns-clause-known : goal.returns-clause-known
returns-clause-known c =
    let i = c.self.inside in
    let k = c.self.invariant in
    let at = end_at i k c.args.robot.0 c.end.result c.end.ensures in
    subst (λ (b : Book). c.end.result.0 < b.site.cells) c.self.view_is (subst (λ (a : CellNo). a.0 < i.site.cells) (sym at.1) (end_cell i k c.args.robot.0 at.0))
