use Rattle.std.proofs.Common.{◌≡◌, ℕ, false, drop, refl, sym, ap, ◌∙◌, Option, arith}
use borrow.Author.Count.{below_more}
use Rattle.std.proofs.lemmas.Bool.{both_ways}
use Rattle.std.specs.List.{list_all}
use Rattle.std.specs.Option.{is_none}
use Rattle.fleet_base.specs.declared.numbers.CellNo.{CellNo}
use Rattle.fleet_model.specs.Sites.{cell_count}
use Rattle.site_map.specs.Claims.{site_of}
use Rattle.route_plan.specs.Labels.{has, label_at}
use Rattle.route_plan.proofs.LeastLabels.{IsAgreed}
use Rattle.route_plan.proofs.Agreement.{agreed_from, cells_of, from_agreed, labels_right, right_end, right_labels}
use Rattle.route_plan.proofs.labels.are_least.Goals as goal

abbrev cell : ℕ → CellNo
cell k = record { 0 = k }

pub loop-number-preserved : goal.loop-number-preserved
loop-number-preserved c =
    let site = site_of c.args.site.now in
    below_more (λ k. IsAgreed site (has c.args.goal.now) (has c.args.avoid.now) (label_at c.args.labels.now) (cell k)) c.loop-number.number c.loop-number.invariant
    (agreed_from site (label_at c.args.labels.now) (cell c.loop-number.number) c.agrees.ensures.ascending (has c.args.goal.now) (has c.args.avoid.now) (sym c.agrees.ensures.agrees ∙ c.if-not-agrees.false))

pub returns-then-not-agrees-clause-least : goal.returns-then-not-agrees-clause-least
returns-then-not-agrees-clause-least c =
    let site = site_of c.args.site.now in
    let count = cells_of c.args.site.now in (
      λ h. absurd (both_ways false refl h),
      λ right.
          let are = right_labels site (has c.args.goal.now) (has c.args.avoid.now) c.cell_count-count.ensures.site c.args.labels.now right in
          let is = are.agreed (cell c.loop-number.number) (omega arith) in
          absurd (both_ways c.agrees.result c.if-not-agrees.true (c.agrees.ensures.agrees ∙ from_agreed site (label_at c.args.labels.now) (cell c.loop-number.number) c.agrees.ensures.ascending (has c.args.goal.now) (has c.args.avoid.now) is)),
    )

pub returns-clause-least : goal.returns-clause-least
returns-clause-least c =
    let site = site_of c.args.site.now in
    let count = cells_of c.args.site.now in
    let same : c.cell_count-count.result ≡ cell_count site = omega arith in
    let last = c.have_none_from.ensures ∙ ap (λ n. list_all (λ (o : Option ℕ). is_none o) (drop n c.args.labels.now)) same in (
      λ h. labels_right site (has c.args.goal.now) (has c.args.avoid.now) c.cell_count-count.ensures.site c.args.labels.now (λ a l. c.loop-number.invariant a.0 (omega arith)) (sym last ∙ h),
      λ right. last ∙ right_end site (has c.args.goal.now) (has c.args.avoid.now) c.cell_count-count.ensures.site c.args.labels.now right,
    )
