use Rattle.std.proofs.Common.{subst}
use Rattle.fleet_base.specs.declared.numbers.CellNo.{CellNo}
use Rattle.scenario_reader.specs.States.{Declared}
use Rattle.scenario_reader.specs.SiteLines.{cell_at, ends_rows, link_line, link_rows}
use Rattle.scenario_reader.specs.Tables.{word, Fails, IsStop}
use Rattle.scenario_reader.proofs.Tables.{first_stops, later_stops, handed_on}
use Rattle.scenario_reader.proofs.ground.Ground.link.Goals as goal

pub returns-in_err-from : goal.returns-in_err-from
returns-in_err-from c = handed_on _ _ _ c.in_err-from.field-0.0 c.from_residual.ensures.1 (subst (λ (d : Declared). Fails c.in_err-from.field-0.0 (link_line d c.args.words.now)) c.self.view_is
    (first_stops (ends_rows c.self.inside.names c.args.words.now) (link_rows c.self.inside.builder (cell_at c.self.inside.names (word c.args.words.now 0)) (cell_at c.self.inside.names (word c.args.words.now 1))) _ c.in_err-from.field-0.0 c.in_err-from.ensures.bad))

pub returns-in_err-add_link : goal.returns-in_err-add_link
returns-in_err-add_link c =
    let a : CellNo = cell_at c.self.inside.names (word c.args.words.now 0) in
    let b : CellNo = cell_at c.self.inside.names (word c.args.words.now 1) in
    let moved : IsStop (link_rows c.self.inside.builder a b) c.in_err-add_link.field-0.0 =
    subst (λ x. IsStop (link_rows c.self.inside.builder x b) c.in_err-add_link.field-0.0) c.in_ok-from.ensures.from
    (subst (λ y. IsStop (link_rows c.self.inside.builder c.in_ok-from.from y) c.in_err-add_link.field-0.0) c.in_ok-from.ensures.to c.in_err-add_link.ensures.bad) in
    handed_on _ _ _ c.in_err-add_link.field-0.0 c.from_residual-in_err-add_link.ensures.1 (subst (λ (d : Declared). Fails c.in_err-add_link.field-0.0 (link_line d c.args.words.now)) c.self.view_is
    (later_stops (ends_rows c.self.inside.names c.args.words.now) (link_rows c.self.inside.builder a b) _ c.in_err-add_link.field-0.0 c.in_ok-from.ensures.fine moved))
