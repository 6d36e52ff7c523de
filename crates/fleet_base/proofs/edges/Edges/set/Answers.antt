use Rattle.std.proofs.Common.{ap, sym, ◌∙◌, ◌&&◌, cond, eqb, true, false}
use Rattle.std.specs.FinSet.{insert, remove}
use Rattle.fleet_base.specs.EdgeSets.{leads}
use Rattle.fleet_base.proofs.EdgeLemmas.{leads-insert, leads-remove}
use Rattle.fleet_base.proofs.edges.Edges.set.Goals as goal

pub returns-then-there : goal.returns-then-there
returns-then-there c = λ r q.
    ap (λ e. leads e r q) (c.insert.ensures ∙ ap (λ p. insert c.self.inside.rows p) c.place_of.ensures)
    ∙ leads-insert c.self.inside.rows c.args.from.0 c.args.to.0 c.requires.to_known r q
    ∙ ap (λ e. cond (eqb r c.args.from.0 && eqb q c.args.to.0) true (leads e r q)) c.self.view_is
    ∙ ap (λ b. cond (eqb r c.args.from.0 && eqb q c.args.to.0) b (leads c.args.self.now r q)) (sym c.if-there.true)

pub returns-else-there : goal.returns-else-there
returns-else-there c = λ r q.
    ap (λ e. leads e r q) (c.remove.ensures ∙ ap (λ p. remove c.self.inside.rows p) c.place_of-else-there.ensures)
    ∙ leads-remove c.self.inside.rows c.args.from.0 c.args.to.0 c.requires.to_known r q
    ∙ ap (λ e. cond (eqb r c.args.from.0 && eqb q c.args.to.0) false (leads e r q)) c.self.view_is
    ∙ ap (λ b. cond (eqb r c.args.from.0 && eqb q c.args.to.0) b (leads c.args.self.now r q)) (sym c.if-there.false)
