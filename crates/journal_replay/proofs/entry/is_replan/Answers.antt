use Rattle.std.proofs.Common.{eqb, sym, ap, ◌∙◌}
use lib.Pointwise.{pointwise}
use Rattle.std.proofs.lemmas.Bool.{eqb-true}
use Rattle.fleet_base.specs.declared.entries.Act.TheVariants.{Replanned}
use Rattle.journal_replay.proofs.Replans.{equal_same, route_of_replan, same_equal}
use Rattle.journal_replay.proofs.entry.is_replan.Goals as goal

pub returns-then-eq-clause-same : goal.returns-then-eq-clause-same
returns-then-eq-clause-same c = λ is.
    let cells = sym c.cells.ensures ∙ equal_same c.cells.result.now c.args.cells.now (sym c.eq-then-eq.ensures ∙ is) in
    let number = eqb-true c.in-Replanned.first.0 c.args.number.0 (sym c.eq.ensures ∙ c.if-eq.true) in
    c.in-Replanned.is ∙ (λ i. Replanned (cells i) (record { 0 = number i }))

pub returns-then-eq-clause-all : goal.returns-then-eq-clause-all
returns-then-eq-clause-all c = λ is.
    let cells = c.cells.ensures ∙ route_of_replan c.in-Replanned.route c.args.cells.now c.in-Replanned.first c.args.number (sym c.in-Replanned.is ∙ is) in
    c.eq-then-eq.ensures ∙ ap (λ xs. pointwise (λ x y. eqb x.0 y.0) xs c.args.cells.now) cells ∙ same_equal c.args.cells.now
