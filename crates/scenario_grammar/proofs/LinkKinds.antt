-- Links and lanes are read just where the grammar has them, and declare what it says there.
use Rattle.std.proofs.Common.{◌≡◌, ℕ, ◌+◌, ◌<◌, ◌≤◌, Bool, true, false, ◌||◌, eqb, List, [], ◌∷◌, ◌++◌, codes, length, Option, Ok, refl, sym, ap, subst, arith}
use Rattle.std.specs.List.{list_all}
use Rattle.std.specs.Option.{is_some, unwrap_or}
use Rattle.std.specs.Str.Parse.{digits_value}
use Rattle.std.proofs.lemmas.Bool.{and_from, and_parts, le-ltb, leb-false, lt-leb, ltb-false, not-false, not_from_true, or_from, or_parts}
use Rattle.fleet_base.specs.declared.numbers.CellNo.{CellNo}
use Rattle.fleet_names.specs.declared.thing.Thing.TheVariants.{Cell}
use Rattle.fleet_names.specs.Names.{Named, is_name}
use Rattle.site_lines.specs.Numbers.{is_number}
use Rattle.site_lines.specs.Readings.{Row}
use Rattle.site_map.specs.Built.{link_total}
use Rattle.scenario_reader.specs.SiteLines.{are_cells, cell_at, cell_named, ends_rows, has_link, is_out_of, lane_line, lane_rows, link_line, link_rows}
use Rattle.scenario_reader.specs.States.{Declared}
use Rattle.scenario_reader.specs.Tables.{judged}
use Rattle.scenario_reader.proofs.Fines.{fines, judged_fine}
use Rattle.scenario_grammar.specs.Grammar.{AreEnds, Denotes, IsLane, IsLink, SiteLine, Word, linked}
use Rattle.scenario_grammar.proofs.Names.{cell_is, cell_of, cells_differ, has_cell_name, in_range, link_none, none_link, number_is, numbers_differ}
use Rattle.scenario_grammar.proofs.Rows.{NoneFits, judged_ok}

abbrev pub with_a_link : Declared → CellNo → CellNo → ℕ → Declared
with_a_link d a b n = record d { site = linked d.site a b n }

abbrev pub with_a_lane : Declared → CellNo → CellNo → ℕ → Declared
with_a_lane d a b n = record d { site = linked (linked d.site a b n) b a n }

-- the rows of two cells and a cost, and those behind them
record EndsFit (names : Named) (from to cost : Word) (back : List Row) : Type 0 where
  good_from : is_name from ≡ true
  good_to : is_name to ≡ true
  digits : is_number 9 cost ≡ true
  within : is_out_of 1 1000000 cost ≡ false
  known_from : is_some (cell_named names from) ≡ true
  known_to : is_some (cell_named names to) ≡ true
  later : NoneFits back

ends_fit : (names : Named) (from to cost : Word) (back : List Row) → NoneFits (ends_rows names (from ∷ to ∷ cost ∷ []) ++ back) → EndsFit names from to cost back
ends_fit names from to cost back f =
    let goods = and_parts (is_name from) (list_all is_name (to ∷ [])) (not-false (list_all is_name (from ∷ to ∷ [])) f.1.1.0) in
    let knowns = and_parts (is_some (cell_named names from)) (are_cells names (to ∷ [])) (not-false (are_cells names (from ∷ to ∷ [])) f.1.1.1.1.1.0) in
    record {
      good_from = goods.0;
      good_to = (and_parts (is_name to) true goods.1).0;
      digits = not-false (is_number 9 cost) f.1.1.1.0;
      within = f.1.1.1.1.0;
      known_from = knowns.0;
      known_to = (and_parts (is_some (cell_named names to)) true knowns.1).0;
      later = f.1.1.1.1.1.1;
    }

fit_ends : (names : Named) (from to cost : Word) (a b : CellNo) (n : ℕ) (back : List Row) → AreEnds names from to cost a b n → NoneFits back → NoneFits (ends_rows names (from ∷ to ∷ cost ∷ []) ++ back)
fit_ends names from to cost a b n back ends later = (
  refl,
  (
    refl,
    (
      not_from_true (list_all is_name (from ∷ to ∷ [])) (and_from (is_name from) (list_all is_name (to ∷ [])) ends.first.name (and_from (is_name to) true ends.second.name refl)),
      (
        not_from_true (is_number 9 cost) ends.number.digits,
        (
          in_range 1 1000000 cost n ends.number,
          (
            not_from_true (are_cells names (from ∷ to ∷ [])) (and_from (is_some (cell_named names from)) (are_cells names (to ∷ [])) (has_cell_name names from a ends.first) (and_from (is_some (cell_named names to)) true (has_cell_name names to b ends.second) refl)),
            later,
          ),
        ),
      ),
    ),
  ),
)

pub cell_at_is : (names : Named) (word : Word) (cell : CellNo) → Denotes names word (Cell cell.0) → cell_at names word ≡ cell
cell_at_is names word cell denotes = ap (λ (o : Option CellNo). unwrap_or o (record { 0 = 0 })) (cell_of names word cell denotes)

-- the word names the cell that `cell_at` gives
pub at_denotes : (names : Named) (word : Word) → is_name word ≡ true → is_some (cell_named names word) ≡ true → Denotes names word (Cell (cell_at names word).0)
at_denotes names word good known =
    let found = cell_is names word good known in
    subst (λ (c : CellNo). Denotes names word (Cell c.0)) (sym (cell_at_is names word found.0 found.2)) found.2

are_ends : (names : Named) (from to cost : Word) (back : List Row) → EndsFit names from to cost back → eqb (cell_at names from).0 (cell_at names to).0 ≡ false
    → AreEnds names from to cost (cell_at names from) (cell_at names to) (digits_value 10 cost)
are_ends names from to cost back fit apart = record {
  first = at_denotes names from fit.good_from fit.known_from;
  second = at_denotes names to fit.good_to fit.known_to;
  number = number_is 1 1000000 cost fit.digits fit.within;
  differ = cells_differ (cell_at names from) (cell_at names to) apart;
}

pub link_read : (flows : Bool) (d e : Declared) (words : List Word) → link_line d words ≡ Ok e → SiteLine flows d (codes "link" ∷ words) e
link_read flows d e [] is = absurd (cc)
link_read flows d e (from ∷ []) is = absurd (cc)
link_read flows d e (from ∷ to ∷ []) is = absurd (cc)
link_read flows d e (from ∷ to ∷ cost ∷ other ∷ more) is =
    let fine = judged_fine (ends_rows d.names (from ∷ to ∷ cost ∷ other ∷ more) ++ link_rows d.site (cell_at d.names from) (cell_at d.names to)) (with_a_link d (cell_at d.names from) (cell_at d.names to) (digits_value 10 cost)) e is in
    let f = fines (ends_rows d.names (from ∷ to ∷ cost ∷ other ∷ more) ++ link_rows d.site (cell_at d.names from) (cell_at d.names to)) fine.0 in
    let few : length (from ∷ to ∷ cost ∷ other ∷ more) ≤ 3 = ltb-false 3 (length (from ∷ to ∷ cost ∷ other ∷ more)) f.1.0 in
    absurd (omega arith)
link_read flows d e (from ∷ to ∷ cost ∷ []) is =
    let a : CellNo = cell_at d.names from in
    let b : CellNo = cell_at d.names to in
    let n : ℕ = digits_value 10 cost in
    let back : List Row = link_rows d.site a b in
    let fine = judged_fine (ends_rows d.names (from ∷ to ∷ cost ∷ []) ++ back) (with_a_link d a b n) e is in
    let fit = ends_fit d.names from to cost back (fines (ends_rows d.names (from ∷ to ∷ cost ∷ []) ++ back) fine.0) in
    let room : link_total d.site.links < 8192 = leb-false 8192 (link_total d.site.links) fit.later.0 in
    let new = or_parts (eqb a.0 b.0) (has_link d.site a b) fit.later.1.0 in
    subst (SiteLine flows d (codes "link" ∷ from ∷ to ∷ cost ∷ [])) fine.1
    (SiteLine.Link {a = a} {b = b} {n = n} (record { ends = are_ends d.names from to cost back fit new.0; room = omega arith; there = link_none d.site a b new.1 }))

pub link_taken : (d : Declared) (from to cost : Word) (a b : CellNo) (n : ℕ) → IsLink d from to cost a b n → link_line d (from ∷ to ∷ cost ∷ []) ≡ Ok (with_a_link d a b n)
link_taken d from to cost a b n is =
    let room : link_total d.site.links + 1 ≤ 8192 = is.room in
    subst (λ (x : CellNo). judged (ends_rows d.names (from ∷ to ∷ cost ∷ []) ++ link_rows d.site x (cell_at d.names to)) (with_a_link d x (cell_at d.names to) (digits_value 10 cost)) ≡ Ok (with_a_link d a b n)) (sym (cell_at_is d.names from a is.ends.first))
    (subst (λ (y : CellNo). judged (ends_rows d.names (from ∷ to ∷ cost ∷ []) ++ link_rows d.site a y) (with_a_link d a y (digits_value 10 cost)) ≡ Ok (with_a_link d a b n)) (sym (cell_at_is d.names to b is.ends.second))
    (subst (λ (k : ℕ). judged (ends_rows d.names (from ∷ to ∷ cost ∷ []) ++ link_rows d.site a b) (with_a_link d a b k) ≡ Ok (with_a_link d a b n)) is.ends.number.value
    (judged_ok (ends_rows d.names (from ∷ to ∷ cost ∷ []) ++ link_rows d.site a b) (with_a_link d a b n)
    (fit_ends d.names from to cost a b n (link_rows d.site a b) is.ends
    (lt-leb 8192 (link_total d.site.links) (omega arith), (or_from (eqb a.0 b.0) (has_link d.site a b) (numbers_differ a b is.ends.differ) (none_link d.site a b is.there), tt))))))

pub lane_read : (flows : Bool) (d e : Declared) (words : List Word) → lane_line d words ≡ Ok e → SiteLine flows d (codes "lane" ∷ words) e
lane_read flows d e [] is = absurd (cc)
lane_read flows d e (from ∷ []) is = absurd (cc)
lane_read flows d e (from ∷ to ∷ []) is = absurd (cc)
lane_read flows d e (from ∷ to ∷ cost ∷ other ∷ more) is =
    let fine = judged_fine (ends_rows d.names (from ∷ to ∷ cost ∷ other ∷ more) ++ lane_rows d.site (cell_at d.names from) (cell_at d.names to)) (with_a_lane d (cell_at d.names from) (cell_at d.names to) (digits_value 10 cost)) e is in
    let f = fines (ends_rows d.names (from ∷ to ∷ cost ∷ other ∷ more) ++ lane_rows d.site (cell_at d.names from) (cell_at d.names to)) fine.0 in
    let few : length (from ∷ to ∷ cost ∷ other ∷ more) ≤ 3 = ltb-false 3 (length (from ∷ to ∷ cost ∷ other ∷ more)) f.1.0 in
    absurd (omega arith)
lane_read flows d e (from ∷ to ∷ cost ∷ []) is =
    let a : CellNo = cell_at d.names from in
    let b : CellNo = cell_at d.names to in
    let n : ℕ = digits_value 10 cost in
    let back : List Row = lane_rows d.site a b in
    let fine = judged_fine (ends_rows d.names (from ∷ to ∷ cost ∷ []) ++ back) (with_a_lane d a b n) e is in
    let fit = ends_fit d.names from to cost back (fines (ends_rows d.names (from ∷ to ∷ cost ∷ []) ++ back) fine.0) in
    let new = or_parts (eqb a.0 b.0) (has_link d.site a b || has_link d.site b a) fit.later.1.0 in
    let links = or_parts (has_link d.site a b) (has_link d.site b a) new.1 in
    subst (SiteLine flows d (codes "lane" ∷ from ∷ to ∷ cost ∷ [])) fine.1
    (SiteLine.Lane {a = a} {b = b} {n = n} (record {
      ends = are_ends d.names from to cost back fit new.0;
      room = ltb-false 8192 (link_total d.site.links + 2) fit.later.0;
      there = link_none d.site a b links.0;
      back = link_none d.site b a links.1;
    }))

pub lane_taken : (d : Declared) (from to cost : Word) (a b : CellNo) (n : ℕ) → IsLane d from to cost a b n → lane_line d (from ∷ to ∷ cost ∷ []) ≡ Ok (with_a_lane d a b n)
lane_taken d from to cost a b n is =
    subst (λ (x : CellNo). judged (ends_rows d.names (from ∷ to ∷ cost ∷ []) ++ lane_rows d.site x (cell_at d.names to)) (with_a_lane d x (cell_at d.names to) (digits_value 10 cost)) ≡ Ok (with_a_lane d a b n)) (sym (cell_at_is d.names from a is.ends.first))
    (subst (λ (y : CellNo). judged (ends_rows d.names (from ∷ to ∷ cost ∷ []) ++ lane_rows d.site a y) (with_a_lane d a y (digits_value 10 cost)) ≡ Ok (with_a_lane d a b n)) (sym (cell_at_is d.names to b is.ends.second))
    (subst (λ (k : ℕ). judged (ends_rows d.names (from ∷ to ∷ cost ∷ []) ++ lane_rows d.site a b) (with_a_lane d a b k) ≡ Ok (with_a_lane d a b n)) is.ends.number.value
    (judged_ok (ends_rows d.names (from ∷ to ∷ cost ∷ []) ++ lane_rows d.site a b) (with_a_lane d a b n)
    (fit_ends d.names from to cost a b n (lane_rows d.site a b) is.ends (
      le-ltb 8192 (link_total d.site.links + 2) is.room,
      (
        or_from (eqb a.0 b.0) (has_link d.site a b || has_link d.site b a) (numbers_differ a b is.ends.differ) (or_from (has_link d.site a b) (has_link d.site b a) (none_link d.site a b is.there) (none_link d.site b a is.back)),
        tt,
      ),
    )))))
