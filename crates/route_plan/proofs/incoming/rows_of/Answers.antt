use Rattle.std.proofs.Common.{◌≡◌, ℕ, ◌+◌, List, [], ◌++◌, append-nil, length, take, drop, replicate, sym, ap, ◌∙◌, subst, arith}
use Rattle.std.proofs.lemmas.List.{drop_all, length-replicate, take_all}
use Rattle.fleet_base.specs.declared.numbers.Link.{Link}
use Rattle.fleet_model.specs.Sites.{cell_count, links_from}
use Rattle.site_map.specs.Cells.{LinksRise}
use Rattle.site_map.specs.Claims.{site_of}
use Rattle.route_plan.specs.declared.incoming.Entry.{Entry}
use Rattle.route_plan.specs.Incoming.{AreEntered}
use Rattle.route_plan.proofs.Agreement.{cells_of}
use Rattle.route_plan.proofs.Entering.{incoming_all, incoming_more, incoming_none, AreIncomingFrom}
use Rattle.route_plan.proofs.incoming.rows_of.Goals as goal

-- a slice that was written whole is the list
whole : {A : Type 0} (n : ℕ) (new old : List A) → n ≡ length old → length new ≡ length old → take n (new ++ drop (length new) old) ≡ new
whole n new old e f =
    let none : drop (length new) old ≡ [] = drop_all (length new) old (omega arith) in
    let all : new ++ drop (length new) old ≡ new = ap (λ xs. new ++ xs) none ∙ append-nil new in
    ap (take n) all ∙ take_all n new (omega arith)

pub loop-number-init : goal.loop-number-init
loop-number-init c =
    let site = site_of c.args.site.now in
    let count : c.cell_count-count.result ≡ cell_count site = c.cell_count-count.ensures.count ∙ sym (cells_of c.args.site.now) in
    let rows : c.in_ok-rows.rows.items ≡ replicate (cell_count site) [] = c.in_ok-rows.ensures ∙ ap (λ n. replicate {A = List Entry} n []) count in
    subst (AreIncomingFrom site 0) (sym rows) (incoming_none site (length-replicate (cell_count site) []))

pub loop-number-preserved : goal.loop-number-preserved
loop-number-preserved c =
    let site = site_of c.args.site.now in
    let n = c.loop-number.number in
    let links : c.links.result.now ≡ links_from site (record { 0 = n }) = c.links.ensures.links in
    let rise : LinksRise 0 (links_from site (record { 0 = n })) = subst (LinksRise 0) links c.links.ensures.ascending in
    let slice : AreEntered (record { 0 = n }) (links_from site (record { 0 = n })) c.deref_mut.result.now c.enter_links.new.rows = subst (λ (ls : List Link). AreEntered (record { 0 = n }) ls c.deref_mut.result.now c.enter_links.new.rows) links c.in_ok-enter_links.ensures in
    let entered : AreEntered (record { 0 = n }) (links_from site (record { 0 = n })) c.loop-number.rows.items c.enter_links.new.rows = subst (λ (r : List (List Entry)). AreEntered (record { 0 = n }) (links_from site (record { 0 = n })) r c.enter_links.new.rows) c.deref_mut.ensures.value slice in
    subst (AreIncomingFrom site (n + 1)) (sym (whole c.loop-number.rows.len c.enter_links.new.rows c.loop-number.rows.items c.loop-number.rows.ok.0 entered.long))
    (incoming_more site n c.loop-number.rows.items c.enter_links.new.rows rise c.loop-number.invariant entered)

pub returns : goal.returns
returns c =
    let site = site_of c.args.site.now in
    let count = cells_of c.args.site.now in
    let end : c.loop-number.number ≡ cell_count site = omega arith in
    incoming_all site c.cell_count-count.ensures.site c.loop-number.rows.items (subst (λ n. AreIncomingFrom site n c.loop-number.rows.items) end c.loop-number.invariant)
