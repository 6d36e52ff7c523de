use Rattle.std.proofs.Common.{◌≡◌, ℕ, ◌<◌, true, false, not, ◌||◌, leb, ltb, List, None, [], ◌∷◌, ◌++◌, length, map, sym, ap, subst, ◌∙◌, arith}
use Rattle.std.specs.List.{list_any, All}
use Rattle.std.proofs.lemmas.Bool.{not-false, or_parts, ltb-false, leb-false}
use Rattle.std.proofs.lemmas.List.Elements.{All-weaker}
use Rattle.fleet_model.specs.Lists.{has_cell}
use Rattle.fleet_base.specs.declared.numbers.CellNo.{CellNo}
use Rattle.site_map.specs.Cells.{are_known, has_repeat, in_order}
use Rattle.site_map.specs.Crossings.{BuiltCrossing, completed, crossing_claims}
use Rattle.site_map.specs.Built.{BuiltSite, crossings_with}
use Rattle.site_map.specs.Inside.{AreCells}
use Rattle.site_map.specs.Refusals.{crossing_cause}
use Rattle.site_map.proofs.BuilderLemmas.{total_push}
use Rattle.site_map.proofs.CauseLemmas.{crossing_has_none}
use Rattle.site_map.proofs.CellLemmas.{AreCells-in_order, has_cell-in_order, in_order_kept, none_in_order}
use Rattle.site_map.proofs.builder.SiteBuilder.crossing.Goals as goal

-- what a crossing without a cause makes sure of
record IsFine (s : BuiltSite) (cells : List CellNo) : Type 0 where
  known : are_known s.cells cells ≡ true
  claims : crossing_claims (map completed s.crossings) < 256
  room : list_any (λ c. leb 2 (crossings_with s.crossings c)) cells ≡ false

fine : (s : BuiltSite) (cells : List CellNo) → crossing_cause s cells ≡ None → IsFine s cells
fine s cells none =
    let parts = crossing_has_none (not (are_known s.cells cells)) (has_repeat cells) (leb 256 (length s.crossings) || ltb 256 (crossing_claims (map completed (s.crossings ++ record { cells = in_order s.cells cells; flows = [] } ∷ [])))) (list_any (λ c. leb 2 (crossings_with s.crossings c)) cells) none in
    let few = ltb-false 256 (crossing_claims (map completed (s.crossings ++ record { cells = in_order s.cells cells; flows = [] } ∷ []))) (or_parts (leb 256 (length s.crossings)) (ltb 256 (crossing_claims (map completed (s.crossings ++ record { cells = in_order s.cells cells; flows = [] } ∷ [])))) parts.2).1 in
    record {
      known = not-false (are_known s.cells cells) parts.0;
      claims = omega (arith, few, total_push [] 0 [] s.crossings [] [] [] (in_order s.cells cells));
      room = parts.3;
    }

pub add_crossing-requires-clause-cells : goal.add_crossing-requires-clause-cells
add_crossing-requires-clause-cells c =
    let is_fine = fine c.args.self.now c.args.cells.now c.in_ok-members.ensures.accepted in
    let count : c.len.result ≡ c.args.self.now.cells = omega (arith, ap (λ (s : BuiltSite). s.cells) c.self.view_is) in
    let is = in_order_kept c.in_ok-members.members c.args.cells.now c.in_ok-kept.kept c.args.self.now.cells c.len.result c.in_ok-members.ensures.members count c.in_ok-kept.ensures in
    subst (λ cs. AreCells c.args.self.now.cells cs) (sym is) (AreCells-in_order c.args.self.now.cells c.args.cells.now is_fine.known c.requires)

pub add_crossing-requires-clause-members : goal.add_crossing-requires-clause-members
add_crossing-requires-clause-members c = λ d.
    let is_fine = fine c.args.self.now c.args.cells.now c.in_ok-members.ensures.accepted in
    let count : c.len.result ≡ c.args.self.now.cells = omega (arith, ap (λ (s : BuiltSite). s.cells) c.self.view_is) in
    let is = in_order_kept c.in_ok-members.members c.args.cells.now c.in_ok-kept.kept c.args.self.now.cells c.len.result c.in_ok-members.ensures.members count c.in_ok-kept.ensures in
    c.in_ok-members.ensures.members d ∙ sym (ap (λ cs. has_cell cs d) is ∙ has_cell-in_order c.args.self.now.cells c.args.cells.now d is_fine.known)

pub add_crossing-requires-clause-claims : goal.add_crossing-requires-clause-claims
add_crossing-requires-clause-claims c = (fine c.args.self.now c.args.cells.now c.in_ok-members.ensures.accepted).claims

pub add_crossing-requires-clause-room : goal.add_crossing-requires-clause-room
add_crossing-requires-clause-room c =
    let is_fine = fine c.args.self.now c.args.cells.now c.in_ok-members.ensures.accepted in
    let n : ℕ = c.args.self.now.cells in
    let count : c.len.result ≡ n = omega (arith, ap (λ (s : BuiltSite). s.cells) c.self.view_is) in
    let is = in_order_kept c.in_ok-members.members c.args.cells.now c.in_ok-kept.kept n c.len.result c.in_ok-members.ensures.members count c.in_ok-kept.ensures in
    let xs : List BuiltCrossing = c.args.self.now.crossings in
    subst (λ cs. All (λ d. crossings_with xs d < 2) cs) (sym is)
    (All-weaker (λ d. leb 2 (crossings_with xs d) ≡ false) (λ d. crossings_with xs d < 2) (λ d h. leb-false 2 (crossings_with xs d) h)
    (in_order n c.args.cells.now) (none_in_order (λ d. leb 2 (crossings_with xs d)) n c.args.cells.now is_fine.known is_fine.room))
