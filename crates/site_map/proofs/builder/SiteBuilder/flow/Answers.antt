use Rattle.std.proofs.Common.{◌≡◌, ℕ, true, false, not, ◌||◌, leb, ltb, List, None, length, map, set, sym, ap, subst, ◌∙◌, arith}
use Rattle.std.specs.List.{list_any}
use Rattle.std.proofs.lemmas.Bool.{not-false, or_parts, and_from, not_from_false}
use Rattle.fleet_model.specs.Lists.{has_cell}
use Rattle.fleet_base.specs.declared.numbers.CellNo.{CellNo}
use Rattle.site_map.specs.Cells.{are_known, has_repeat, in_order}
use Rattle.site_map.specs.Crossings.{completed, crossing_claims, in_flow, with_line}
use Rattle.site_map.specs.Built.{BuiltSite, crossing_at}
use Rattle.site_map.specs.Inside.{AreCells}
use Rattle.site_map.specs.Refusals.{flow_cause}
use Rattle.site_map.proofs.CauseLemmas.{flow_has_none}
use Rattle.site_map.proofs.CellLemmas.{AreCells-in_order, has_cell-in_order, in_order_kept, none_has}
use Rattle.site_map.proofs.builder.SiteBuilder.flow.Goals as goal

-- what a flow without a cause makes sure of
record IsFine (s : BuiltSite) (k : ℕ) (cells : List CellNo) : Type 0 where
  known : are_known s.cells cells ≡ true
  free : list_any (λ c. not (has_cell (crossing_at s k).cells c) || in_flow (crossing_at s k).flows c) cells ≡ false

fine : (s : BuiltSite) (k : ℕ) (cells : List CellNo) → flow_cause s k cells ≡ None → IsFine s k cells
fine s k cells none =
    let parts = flow_has_none (not (are_known s.cells cells)) (leb (length s.crossings) k) (has_repeat cells) (ltb 256 (crossing_claims (map completed (set s.crossings k (with_line (crossing_at s k) (in_order s.cells cells)))))) (list_any (λ c. not (has_cell (crossing_at s k).cells c) || in_flow (crossing_at s k).flows c) cells) none in
    record { known = not-false (are_known s.cells cells) parts.0; free = parts.4 }

pub add_flow-requires-clause-line : goal.add_flow-requires-clause-line
add_flow-requires-clause-line c =
    let is_fine = fine c.args.self.now c.args.crossing c.args.cells.now c.in_ok-members.ensures.accepted in
    let count : c.len.result ≡ c.args.self.now.cells = omega (arith, ap (λ (s : BuiltSite). s.cells) c.self.view_is) in
    let is = in_order_kept c.in_ok-members.members c.args.cells.now c.in_ok-line.line c.args.self.now.cells c.len.result c.in_ok-members.ensures.members count c.in_ok-line.ensures in
    subst (λ cs. AreCells c.args.self.now.cells cs) (sym is) (AreCells-in_order c.args.self.now.cells c.args.cells.now is_fine.known c.requires)

pub add_flow-requires-clause-members : goal.add_flow-requires-clause-members
add_flow-requires-clause-members c = λ d.
    let is_fine = fine c.args.self.now c.args.crossing c.args.cells.now c.in_ok-members.ensures.accepted in
    let count : c.len.result ≡ c.args.self.now.cells = omega (arith, ap (λ (s : BuiltSite). s.cells) c.self.view_is) in
    let is = in_order_kept c.in_ok-members.members c.args.cells.now c.in_ok-line.line c.args.self.now.cells c.len.result c.in_ok-members.ensures.members count c.in_ok-line.ensures in
    c.in_ok-members.ensures.members d ∙ sym (ap (λ cs. has_cell cs d) is ∙ has_cell-in_order c.args.self.now.cells c.args.cells.now d is_fine.known)

pub add_flow-requires-clause-free : goal.add_flow-requires-clause-free
add_flow-requires-clause-free c = λ d has.
    let is_fine = fine c.args.self.now c.args.crossing c.args.cells.now c.in_ok-members.ensures.accepted in
    let count : c.len.result ≡ c.args.self.now.cells = omega (arith, ap (λ (s : BuiltSite). s.cells) c.self.view_is) in
    let is = in_order_kept c.in_ok-members.members c.args.cells.now c.in_ok-line.line c.args.self.now.cells c.len.result c.in_ok-members.ensures.members count c.in_ok-line.ensures in
    let there : has_cell c.args.cells.now d ≡ true = sym (ap (λ cs. has_cell cs d) is ∙ has_cell-in_order c.args.self.now.cells c.args.cells.now d is_fine.known) ∙ has in
    let parts = or_parts (not (has_cell (crossing_at c.args.self.now c.args.crossing).cells d)) (in_flow (crossing_at c.args.self.now c.args.crossing).flows d) (none_has (λ e. not (has_cell (crossing_at c.args.self.now c.args.crossing).cells e) || in_flow (crossing_at c.args.self.now c.args.crossing).flows e) c.args.cells.now d is_fine.free there) in
    and_from (has_cell (crossing_at c.args.self.now c.args.crossing).cells d) (not (in_flow (crossing_at c.args.self.now c.args.crossing).flows d)) (not-false (has_cell (crossing_at c.args.self.now c.args.crossing).cells d) parts.0) (not_from_false (in_flow (crossing_at c.args.self.now c.args.crossing).flows d) parts.1)
