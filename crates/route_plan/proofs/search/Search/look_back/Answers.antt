use Rattle.std.proofs.Common.{◌≡◌, ◌+◌, ◌^◌, ◌<◌, List, ◌∷◌, length, drop, get_or, sym, ◌∙◌, subst, arith, rules}
use Rattle.std.specs.BinaryHeap.{heap_items}
use Rattle.std.proofs.lemmas.List.{drop_all, drop_more}
use Rattle.std.proofs.lemmas.List.Elements.{Contains-get_or}
use Rattle.route_plan.specs.declared.incoming.Entry.{Entry}
use Rattle.route_plan.specs.declared.search.Search.{Search}
use Rattle.route_plan.specs.Labels.{has}
use Rattle.route_plan.specs.Search.{IsLowered, IsSearch}
use Rattle.route_plan.proofs.Searching.{search_settled, step_lowered, step_skipped, IsStep}
use Rattle.route_plan.proofs.search.Search.look_back.Goals as goal
use Rattle.route_plan.proofs.search.Search.look_back.Goals.{then-not-holds+in_ok-lower, else-not-holds}

abbrev no_entry : Entry
no_entry = record { from = record { 0 = 0 }; cost = 0 }

pub holds-requires : goal.holds-requires
holds-requires c =
    let x : Entry = get_or c.args.row.now c.loop-entry.entry-index no_entry in
    let known : x.from.0 < length c.args.self.now.labels.items = c.requires.froms x (Contains-get_or c.args.row.now c.loop-entry.entry-index no_entry c.loop-entry-test.true) in
    let few = c.requires.low.few in
    omega arith

pub lower-requires : goal.lower-requires
lower-requires c =
    let x : Entry = get_or c.args.row.now c.loop-entry.entry-index no_entry in
    let known : x.from.0 < length c.args.self.now.labels.items = c.requires.froms x (Contains-get_or c.args.row.now c.loop-entry.entry-index no_entry c.loop-entry-test.true) in
    let long = c.loop-entry.invariant.long in
    omega arith

pub loop-entry-preserved : goal.loop-entry-preserved
loop-entry-preserved c =
    let i = c.loop-entry.entry-index in
    let x : Entry = get_or c.args.row.now i no_entry in
    let left : List Entry = drop (i + 1) c.args.row.now in
    let avoid = has c.args.avoid.now in
    let labels = c.loop-entry.self.labels.items in
    let open_cells = heap_items c.loop-entry.self.queue in
    let inv = c.loop-entry.invariant in
    let known : x.from.0 < length c.args.self.now.labels.items = c.requires.froms x (Contains-get_or c.args.row.now i no_entry c.loop-entry-test.true) in
    let long = inv.long in
    let front : drop i c.args.row.now ≡ x ∷ left = drop_more c.args.row.now i no_entry c.loop-entry-test.true in
    let step : IsStep avoid c.args.cell c.args.label x left labels open_cells c.if-not-holds.self.labels.items (heap_items c.if-not-holds.self.queue) = elim c.if-not-holds.branch [
      | then-not-holds+in_ok-lower w ↦
          let lowered : IsLowered x.from (c.args.label + x.cost) labels open_cells w.lower.new.self.labels.items (heap_items w.lower.new.self.queue) = subst (λ k. IsLowered x.from (c.args.label + k) labels open_cells w.lower.new.self.labels.items (heap_items w.lower.new.self.queue)) w.from.ensures w.in_ok-lower.ensures.lowered in
          let fits : x.cost < 2 ^ 32 = search rules in
          subst (λ (s : Search). IsStep avoid c.args.cell c.args.label x left labels open_cells s.labels.items (heap_items s.queue)) (sym w.self-is)
          (step_lowered avoid c.args.cell c.args.label x left labels open_cells w.lower.new.self.labels.items (heap_items w.lower.new.self.queue) lowered (sym c.holds.ensures ∙ w.if-not-holds.true) fits (omega arith) inv.low inv.lies)
      | else-not-holds w ↦
          subst (λ (s : Search). IsStep avoid c.args.cell c.args.label x left labels open_cells s.labels.items (heap_items s.queue)) (sym w.self-is)
          (step_skipped avoid c.args.cell c.args.label x left labels open_cells (sym c.holds.ensures ∙ w.if-not-holds.false) inv.low inv.lies)
    ] in
    record {
      kept = λ site goal is_site h. step.kept site goal is_site (subst (λ l. IsSearch site goal avoid c.args.cell c.args.label l labels open_cells) front (inv.kept site goal is_site h));
      long = step.long ∙ inv.long;
      low = step.low;
      lies = step.lies;
      nearer = omega (arith, step.nearer, inv.nearer);
    }

pub returns-clause-kept : goal.returns-clause-kept
returns-clause-kept c = λ site goal is_site h.
    search_settled site goal (has c.args.avoid.now) c.loop-entry.self.labels.items c.args.cell c.args.label (heap_items c.loop-entry.self.queue)
    (subst (λ left. IsSearch site goal (has c.args.avoid.now) c.args.cell c.args.label left c.loop-entry.self.labels.items (heap_items c.loop-entry.self.queue)) (drop_all c.loop-entry.entry-index c.args.row.now (omega arith)) (c.loop-entry.invariant.kept site goal is_site h))
