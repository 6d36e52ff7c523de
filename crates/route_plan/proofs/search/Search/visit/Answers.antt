use Rattle.std.proofs.Common.{◌≡◌, ◌<◌, [], Some, None, length, sym, ◌∙◌, subst, arith}
use Rattle.std.specs.BinaryHeap.{heap_items}
use Rattle.std.specs.List.{Contains}
use Rattle.std.proofs.lemmas.Bool.{both_ways}
use Rattle.std.proofs.lemmas.List.{get_or_default}
use Rattle.route_plan.specs.Labels.{has, label_at}
use Rattle.route_plan.specs.Incoming.{row_at}
use Rattle.route_plan.specs.Search.{IsSearch}
use Rattle.route_plan.proofs.Checking.{label_same, same_label}
use Rattle.route_plan.proofs.Searching.{search_open, search_stale}
use Rattle.route_plan.proofs.search.Search.visit.Goals as goal

pub look_back-requires-clause-froms : goal.look_back-requires-clause-froms
look_back-requires-clause-froms c = λ e m.
    let known : c.args.cell.0 < length c.args.rows.now = omega (arith, c.requires.rows, c.requires.known) in
    let row : c.entries.result.now ≡ row_at c.args.rows.now c.args.cell = c.entries.ensures ∙ c.index-rows-at.is ∙ get_or_default c.args.rows.now c.args.cell.0 c.index-rows-at.result [] known in
    c.requires.froms c.args.cell e (subst (λ r. Contains r e) row m)

pub returns-in_ok-look_back-clause-kept : goal.returns-in_ok-look_back-clause-kept
returns-in_ok-look_back-clause-kept c = λ site goal is_site are h.
    let known : c.args.cell.0 < length c.args.rows.now = omega (arith, c.requires.rows, c.requires.known) in
    let row : c.entries.result.now ≡ row_at c.args.rows.now c.args.cell = c.entries.ensures ∙ c.index-rows-at.is ∙ get_or_default c.args.rows.now c.args.cell.0 c.index-rows-at.result [] known in
    let labels = c.args.self.now.labels.items in
    let avoid = has c.args.avoid.now in
    let open_cells = heap_items c.args.self.now.queue in
    let read : c.index.result.now ≡ label_at labels c.args.cell = c.index.ensures ∙ get_or_default labels c.args.cell.0 c.index.result.now None c.requires.known in
    let labelled : label_at labels c.args.cell ≡ Some c.args.label = sym read ∙ same_label c.index.result.now c.args.label (sym c.eq.ensures ∙ c.if-eq.true) in
    c.in_ok-look_back.ensures.kept site goal is_site
    (subst (λ r. IsSearch site goal avoid c.args.cell c.args.label r labels open_cells) (sym row) (search_open site goal avoid labels c.args.cell c.args.label open_cells h c.args.rows.now are labelled))

pub returns-else-eq-clause-kept : goal.returns-else-eq-clause-kept
returns-else-eq-clause-kept c = λ site goal is_site are h.
    let labels = c.args.self.now.labels.items in
    let read : c.index.result.now ≡ label_at labels c.args.cell = c.index.ensures ∙ get_or_default labels c.args.cell.0 c.index.result.now None c.requires.known in
    search_stale site goal (has c.args.avoid.now) labels c.args.cell c.args.label (heap_items c.args.self.now.queue) h
    (λ e. both_ways c.eq.result c.if-eq.false (c.eq.ensures ∙ label_same c.index.result.now c.args.label (read ∙ e)))
