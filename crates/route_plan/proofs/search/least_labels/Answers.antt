use Rattle.std.proofs.Common.{◌≡◌, [], ◌∷◌, sym, ◌∙◌, subst, arith}
use Rattle.std.specs.BinaryHeap.{heap_items}
use Rattle.std.specs.List.{Contains}
use Rattle.fleet_model.specs.Sites.{cell_count}
use Rattle.site_map.specs.Claims.{site_of}
use Rattle.route_plan.specs.Labels.{has}
use Rattle.route_plan.specs.Incoming.{row_at, AreIncoming}
use Rattle.route_plan.specs.Search.{IsBegun, IsSettled}
use Rattle.route_plan.proofs.Agreement.{cells_of}
use Rattle.route_plan.proofs.Searching.{begun_low, first_member, none_of_length, search_begun, search_done, search_reordered}
use Rattle.route_plan.proofs.search.least_labels.Goals as goal

pub loop-label-init : goal.loop-label-init
loop-label-init c =
    let site = site_of c.args.site.now in
    let goals = has c.args.goal.now in
    let avoid = has c.args.avoid.now in
    let labels = c.in_ok-search.search.labels.items in
    let open_cells = heap_items c.in_ok-search.search.queue in
    let count : c.cell_count-count.result ≡ cell_count site = c.cell_count-count.ensures.count ∙ sym (cells_of c.args.site.now) in
    let few = c.cell_count-count.ensures.valid.few_cells in
    record {
      settled = search_begun site goals avoid labels open_cells (subst (λ n. IsBegun n goals avoid labels open_cells) count c.in_ok-search.ensures);
      low = begun_low goals avoid c.cell_count-count.result labels open_cells (omega arith) c.in_ok-search.ensures;
    }

pub visit-requires-clause-known : goal.visit-requires-clause-known
visit-requires-clause-known c =
    let site = site_of c.args.site.now in
    let h = search_reordered site (has c.args.goal.now) (has c.args.avoid.now) c.loop-label.search.labels.items (heap_items c.loop-label.search.queue) (c.in-Some.field-0 ∷ heap_items c.pop.new.self) c.in-Some.ensures.permutation c.loop-label.invariant.settled in
    let known = h.known c.in-Some.field-0 (first_member c.in-Some.field-0 (heap_items c.pop.new.self)) in
    let long = h.long in
    omega arith

pub visit-requires-clause-froms : goal.visit-requires-clause-froms
visit-requires-clause-froms c = λ b e m.
    let site = site_of c.args.site.now in
    let is_site = c.cell_count-count.ensures.site in
    let kept : Contains (row_at c.args.incoming.now b) e = subst (λ rows. Contains (row_at rows b) e) c.rows-rows.ensures m in
    let known = (is_site.links e.from b e.cost (c.requires.only b e kept)).1 in
    let long = c.loop-label.invariant.settled.long in
    omega arith

pub loop-label-preserved : goal.loop-label-preserved
loop-label-preserved c =
    let site = site_of c.args.site.now in
    let h = search_reordered site (has c.args.goal.now) (has c.args.avoid.now) c.loop-label.search.labels.items (heap_items c.loop-label.search.queue) (c.in-Some.field-0 ∷ heap_items c.pop.new.self) c.in-Some.ensures.permutation c.loop-label.invariant.settled in
    record {
      settled = c.in_ok-visit.ensures.kept site (has c.args.goal.now) c.cell_count-count.ensures.site (subst (AreIncoming site) (sym c.rows-rows.ensures) c.requires) h;
      low = c.in_ok-visit.ensures.low;
    }

pub returns-clause-least : goal.returns-clause-least
returns-clause-least c =
    let site = site_of c.args.site.now in
    let none : heap_items c.loop-label.search.queue ≡ [] = none_of_length (heap_items c.loop-label.search.queue) (sym c.loop-label.search.queue.data.ok.0 ∙ c.in_default.ensures.none) in
    search_done site (has c.args.goal.now) (has c.args.avoid.now) c.loop-label.search.labels.items c.cell_count-count.ensures.site (subst (IsSettled site (has c.args.goal.now) (has c.args.avoid.now) c.loop-label.search.labels.items) none c.loop-label.invariant.settled)
