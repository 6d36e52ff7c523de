-- Each site line is read just where the grammar has it, and declares what it says there.
use Rattle.std.proofs.Common.{◌≡◌, ℕ, ◌+◌, ◌<◌, ◌≤◌, Bool, true, false, not, ◌&&◌, ◌||◌, leb, List, [], ◌∷◌, ◌++◌, codes, length, map, Option, Some, Ok, refl, sym, ap, subst, ◌∙◌, arith}
use Rattle.std.specs.List.{list_all, list_any}
use Rattle.std.specs.Option.{is_some, unwrap_or}
use Rattle.std.proofs.lemmas.Bool.{and_from, and_parts, le-ltb, leb-false, lt-leb, ltb-false, not-false, not_from_true, or_from, or_parts}
use Rattle.fleet_model.specs.Lists.{has_cell}
use Rattle.fleet_base.specs.declared.numbers.CellNo.{CellNo}
use Rattle.fleet_names.specs.declared.thing.Thing.TheVariants.{Crossing}
use Rattle.fleet_names.specs.Names.{Named, is_name}
use Rattle.site_lines.specs.Readings.{Row}
use Rattle.site_map.specs.Built.{crossing_at, crossings_with, with_crossing, with_flow}
use Rattle.site_map.specs.Cells.{has_repeat}
use Rattle.site_map.specs.Crossings.{completed, crossing_claims, in_flow}
use Rattle.site_map.specs.Refusals.{has_too_many_claims}
use Rattle.scenario_reader.specs.SiteLines.{are_cells, area_line, area_rows, cell_line, cell_rows, cells_named, crossing_line, crossing_named, crossing_rows, flow_line, flow_rows, has_taken, is_taken, new_set_rows, old_set_rows, with_cell_name, with_cell_names, with_cells}
use Rattle.scenario_reader.specs.States.{Declared}
use Rattle.scenario_reader.specs.Tables.{judged}
use Rattle.scenario_reader.proofs.Fines.{fines, judged_fine}
use Rattle.scenario_grammar.specs.Grammar.{AreCells, DeclareCells, Denotes, IsArea, IsCrossing, IsFlow, IsNew, SiteLine, Word, with_named_area, with_named_cell, with_named_crossing}
use Rattle.scenario_grammar.proofs.Names.{cells_are, crossing_is, crossing_of, is_free, named_are, new_is, none_repeat, repeat_none}
use Rattle.scenario_grammar.proofs.Rows.{each_fails, fails_each, judged_ok}

-- what the words behind `cell` declare
abbrev pub declared_cells : Declared → List Word → Declared
declared_cells d words = record d { site = with_cells d.site words; names = with_cell_names d.names words }

cells_new : (d : Declared) (words : List Word) → list_all is_name words ≡ true → has_taken d.names words ≡ false → d.site.cells + length words ≤ 1024 → DeclareCells d words (declared_cells d words)
cells_new d [] good free room = refl
cells_new d (name ∷ more) good free room =
    let goods = and_parts (is_name name) (list_all is_name more) good in
    let frees = or_parts (is_taken d.names name) (has_taken (with_cell_name d.names name) more) free in
    (new_is d.names name goods.0 frees.0, omega arith, cells_new (with_named_cell d name) more goods.1 frees.1 (omega arith))

pub cell_read : (flows : Bool) (d e : Declared) (words : List Word) → cell_line d words ≡ Ok e → SiteLine flows d (codes "cell" ∷ words) e
cell_read flows d e [] is = absurd (cc)
cell_read flows d e (name ∷ more) is =
    let fine = judged_fine (cell_rows d (name ∷ more)) (declared_cells d (name ∷ more)) e is in
    let f = fines (cell_rows d (name ∷ more)) fine.0 in
    subst (SiteLine flows d (codes "cell" ∷ name ∷ more)) fine.1
    (SiteLine.Cells (cells_new d (name ∷ more) (not-false (list_all is_name (name ∷ more)) f.1.0) f.1.1.0 (ltb-false 1024 (d.site.cells + length (name ∷ more)) f.1.1.1.0)))

record AreNew (d : Declared) (words : List Word) (e : Declared) : Type 0 where
  good : list_all is_name words ≡ true
  free : has_taken d.names words ≡ false
  declared : declared_cells d words ≡ e

new_cells : (d e : Declared) (words : List Word) → DeclareCells d words e → AreNew d words e
new_cells d e [] new = record { good = refl; free = refl; declared = new }
new_cells d e (name ∷ more) new =
    let rest = new_cells (with_named_cell d name) e more new.2 in
    record {
      good = and_from (is_name name) (list_all is_name more) new.0.name rest.good;
      free = or_from (is_taken d.names name) (has_taken (with_cell_name d.names name) more) (is_free d.names name new.0) rest.free;
      declared = rest.declared;
    }

cells_fit : (d e : Declared) (name : Word) (more : List Word) → DeclareCells d (name ∷ more) e → d.site.cells + length (name ∷ more) ≤ 1024
cells_fit d e name [] new = let room : d.site.cells < 1024 = new.1 in omega arith
cells_fit d e name (next ∷ more) new = let rest : (d.site.cells + 1) + length (next ∷ more) ≤ 1024 = cells_fit (with_named_cell d name) e next more new.2 in omega arith

pub cell_taken : (d e : Declared) (name : Word) (more : List Word) → DeclareCells d (name ∷ more) e → cell_line d (name ∷ more) ≡ Ok e
cell_taken d e name more new =
    let all = new_cells d e (name ∷ more) new in
    judged_ok (cell_rows d (name ∷ more)) (declared_cells d (name ∷ more))
    (le-ltb (length (name ∷ more)) 1 (omega arith), (not_from_true (list_all is_name (name ∷ more)) all.good, (all.free, (le-ltb 1024 (d.site.cells + length (name ∷ more)) (cells_fit d e name more new), tt))))
    ∙ ap (λ (x : Declared). Ok x) all.declared

-- a name and cells behind it
set_new : (names : Named) (name : Word) (words : List Word) → list_all is_name (name ∷ words) ≡ true → is_taken names name ≡ false → IsNew names name
set_new names name words good free = new_is names name (and_parts (is_name name) (list_all is_name words) good).0 free

set_cells : (names : Named) (name : Word) (words : List Word) → list_all is_name (name ∷ words) ≡ true → are_cells names words ≡ true → has_repeat (cells_named names words) ≡ false → 1 ≤ length words → AreCells names words (cells_named names words)
set_cells names name words good known once some =
    record { some = some; denote = cells_are names words (and_parts (is_name name) (list_all is_name words) good).1 known; differ = repeat_none (cells_named names words) once }

pub crossing_read : (flows : Bool) (d e : Declared) (words : List Word) → crossing_line d words ≡ Ok e → SiteLine flows d (codes "crossing" ∷ words) e
crossing_read flows d e [] is = absurd (cc)
crossing_read flows d e (name ∷ words) is =
    let cells : List CellNo = cells_named d.names words in
    let rows : List Row = new_set_rows d.names (name ∷ words) ++ crossing_rows d.site cells in
    let fine = judged_fine rows (with_named_crossing d name cells) e is in
    let f = fines rows fine.0 in
    let enough : 2 ≤ length (name ∷ words) = ltb-false (length (name ∷ words)) 2 f.0 in
    let good = not-false (list_all is_name (name ∷ words)) f.1.0 in
    let counts = or_parts (leb 256 (length d.site.crossings)) (has_too_many_claims (with_crossing d.site cells)) f.1.1.1.1.1.0 in
    subst (SiteLine flows d (codes "crossing" ∷ name ∷ words)) fine.1 (SiteLine.Crossing {cells = cells} (record {
      new = set_new d.names name words good f.1.1.0;
      members = set_cells d.names name words good (not-false (are_cells d.names words) f.1.1.1.0) f.1.1.1.1.0 (omega arith);
      room = leb-false 256 (length d.site.crossings) counts.0;
      claims = ltb-false 256 (crossing_claims (map completed (with_crossing d.site cells).crossings)) counts.1;
      each = each_fails (λ (c : CellNo). leb 2 (crossings_with d.site.crossings c)) (λ (c : CellNo). crossings_with d.site.crossings c < 2) (λ c failing. leb-false 2 (crossings_with d.site.crossings c) failing) cells f.1.1.1.1.1.1.0;
    }))

pub crossing_taken : (d : Declared) (name : Word) (words : List Word) (cells : List CellNo) → IsCrossing d name words cells → crossing_line d (name ∷ words) ≡ Ok (with_named_crossing d name cells)
crossing_taken d name words cells is =
    let all = named_are d.names words cells is.members.denote in
    let some : 1 ≤ length words = is.members.some in
    let room : length d.site.crossings < 256 = is.room in
    subst (λ (cs : List CellNo). judged (new_set_rows d.names (name ∷ words) ++ crossing_rows d.site cs) (with_named_crossing d name cs) ≡ Ok (with_named_crossing d name cells)) (sym all.found)
    (judged_ok (new_set_rows d.names (name ∷ words) ++ crossing_rows d.site cells) (with_named_crossing d name cells) (
      le-ltb (length (name ∷ words)) 2 (omega arith),
      (
        not_from_true (list_all is_name (name ∷ words)) (and_from (is_name name) (list_all is_name words) is.new.name all.good),
        (
          is_free d.names name is.new,
          (
            not_from_true (are_cells d.names words) all.known,
            (
              none_repeat cells is.members.differ,
              (
                or_from (leb 256 (length d.site.crossings)) (has_too_many_claims (with_crossing d.site cells)) (lt-leb 256 (length d.site.crossings) room) (le-ltb 256 (crossing_claims (map completed (with_crossing d.site cells).crossings)) is.claims),
                (
                  fails_each (λ (c : CellNo). leb 2 (crossings_with d.site.crossings c)) (λ (c : CellNo). crossings_with d.site.crossings c < 2) (λ c below. lt-leb 2 (crossings_with d.site.crossings c) below) cells is.each,
                  tt,
                ),
              ),
            ),
          ),
        ),
      ),
    ))

pub area_read : (flows : Bool) (d e : Declared) (words : List Word) → area_line d words ≡ Ok e → SiteLine flows d (codes "area" ∷ words) e
area_read flows d e [] is = absurd (cc)
area_read flows d e (name ∷ words) is =
    let cells : List CellNo = cells_named d.names words in
    let rows : List Row = new_set_rows d.names (name ∷ words) ++ area_rows d.site cells in
    let fine = judged_fine rows (with_named_area d name cells) e is in
    let f = fines rows fine.0 in
    let enough : 2 ≤ length (name ∷ words) = ltb-false (length (name ∷ words)) 2 f.0 in
    let good = not-false (list_all is_name (name ∷ words)) f.1.0 in
    subst (SiteLine flows d (codes "area" ∷ name ∷ words)) fine.1 (SiteLine.Area {cells = cells} (record {
      new = set_new d.names name words good f.1.1.0;
      members = set_cells d.names name words good (not-false (are_cells d.names words) f.1.1.1.0) f.1.1.1.1.0 (omega arith);
      room = leb-false 256 (length d.site.areas) f.1.1.1.1.1.0;
    }))

pub area_taken : (d : Declared) (name : Word) (words : List Word) (cells : List CellNo) → IsArea d name words cells → area_line d (name ∷ words) ≡ Ok (with_named_area d name cells)
area_taken d name words cells is =
    let all = named_are d.names words cells is.members.denote in
    let some : 1 ≤ length words = is.members.some in
    let room : length d.site.areas < 256 = is.room in
    subst (λ (cs : List CellNo). judged (new_set_rows d.names (name ∷ words) ++ area_rows d.site cs) (with_named_area d name cs) ≡ Ok (with_named_area d name cells)) (sym all.found)
    (judged_ok (new_set_rows d.names (name ∷ words) ++ area_rows d.site cells) (with_named_area d name cells) (
      le-ltb (length (name ∷ words)) 2 (omega arith),
      (
        not_from_true (list_all is_name (name ∷ words)) (and_from (is_name name) (list_all is_name words) is.new.name all.good),
        (
          is_free d.names name is.new,
          (
            not_from_true (are_cells d.names words) all.known,
            (
              none_repeat cells is.members.differ,
              (
                lt-leb 256 (length d.site.areas) room,
                tt,
              ),
            ),
          ),
        ),
      ),
    ))

-- what the words behind `flow` add to crossing k
abbrev pub with_flow_line : Declared → ℕ → List CellNo → Declared
with_flow_line d k cells = record d { site = with_flow d.site k cells }

own_cell : (d : Declared) (k : ℕ) (c : CellNo) → (not (has_cell (crossing_at d.site k).cells c) || in_flow (crossing_at d.site k).flows c) ≡ false → (has_cell (crossing_at d.site k).cells c ≡ true) × (in_flow (crossing_at d.site k).flows c ≡ false)
own_cell d k c failing =
    let parts = or_parts (not (has_cell (crossing_at d.site k).cells c)) (in_flow (crossing_at d.site k).flows c) failing in
    (not-false (has_cell (crossing_at d.site k).cells c) parts.0, parts.1)

cell_own : (d : Declared) (k : ℕ) (c : CellNo) → (has_cell (crossing_at d.site k).cells c ≡ true) × (in_flow (crossing_at d.site k).flows c ≡ false) → (not (has_cell (crossing_at d.site k).cells c) || in_flow (crossing_at d.site k).flows c) ≡ false
cell_own d k c own = or_from (not (has_cell (crossing_at d.site k).cells c)) (in_flow (crossing_at d.site k).flows c) (not_from_true (has_cell (crossing_at d.site k).cells c) own.0) own.1

-- a flow line of a crossing that was found
flow_found : (flows : Bool) (d e : Declared) (name : Word) (words : List Word) (k : ℕ) → flows ≡ true → Denotes d.names name (Crossing k) → crossing_named d.names name ≡ Some k → AreCells d.names words (cells_named d.names words)
    → has_too_many_claims (with_flow d.site (unwrap_or (crossing_named d.names name) 0) (cells_named d.names words)) ≡ false
    → list_any (λ c. not (has_cell (crossing_at d.site (unwrap_or (crossing_named d.names name) 0)).cells c) || in_flow (crossing_at d.site (unwrap_or (crossing_named d.names name) 0)).flows c) (cells_named d.names words) ≡ false
    → with_flow_line d (unwrap_or (crossing_named d.names name) 0) (cells_named d.names words) ≡ e → SiteLine flows d (codes "flow" ∷ name ∷ words) e
flow_found flows d e name words k second denotes found cells claims own same =
    let at : unwrap_or (crossing_named d.names name) 0 ≡ k = ap (λ (o : Option ℕ). unwrap_or o 0) found in
    let few = subst (λ (i : ℕ). has_too_many_claims (with_flow d.site i (cells_named d.names words)) ≡ false) at claims in
    let each = subst (λ (i : ℕ). list_any (λ c. not (has_cell (crossing_at d.site i).cells c) || in_flow (crossing_at d.site i).flows c) (cells_named d.names words) ≡ false) at own in
    let made = subst (λ (i : ℕ). with_flow_line d i (cells_named d.names words) ≡ e) at same in
    subst (SiteLine flows d (codes "flow" ∷ name ∷ words)) made (SiteLine.Flow {k = k} {cells = cells_named d.names words} second (record {
      crossing = denotes;
      members = cells;
      claims = ltb-false 256 (crossing_claims (map completed (with_flow d.site k (cells_named d.names words)).crossings)) few;
      each = each_fails (λ (c : CellNo). not (has_cell (crossing_at d.site k).cells c) || in_flow (crossing_at d.site k).flows c) (λ (c : CellNo). (has_cell (crossing_at d.site k).cells c ≡ true) × (in_flow (crossing_at d.site k).flows c ≡ false)) (λ c failing. own_cell d k c failing) (cells_named d.names words) each;
    }))

pub flow_read : (flows : Bool) (d e : Declared) (words : List Word) → flows ≡ true → flow_line d words ≡ Ok e → SiteLine flows d (codes "flow" ∷ words) e
flow_read flows d e [] second is = absurd (cc)
flow_read flows d e (name ∷ words) second is =
    let at : ℕ = unwrap_or (crossing_named d.names name) 0 in
    let cells : List CellNo = cells_named d.names words in
    let rows : List Row = old_set_rows d.names (name ∷ words) ++ flow_rows d.site at cells in
    let fine = judged_fine rows (with_flow_line d at cells) e is in
    let f = fines rows fine.0 in
    let enough : 2 ≤ length (name ∷ words) = ltb-false (length (name ∷ words)) 2 f.0 in
    let good = not-false (list_all is_name (name ∷ words)) f.1.0 in
    let goods = and_parts (is_name name) (list_all is_name words) good in
    let known = and_parts (is_some (crossing_named d.names name)) (are_cells d.names words) (not-false (is_some (crossing_named d.names name) && are_cells d.names words) f.1.1.0) in
    let found = crossing_is d.names name goods.0 known.0 in
    flow_found flows d e name words found.0 second found.2 found.1 (set_cells d.names name words good known.1 f.1.1.1.0 (omega arith)) f.1.1.1.1.0 f.1.1.1.1.1.0 fine.1

pub flow_taken : (d : Declared) (name : Word) (words : List Word) (k : ℕ) (cells : List CellNo) → IsFlow d name words k cells → flow_line d (name ∷ words) ≡ Ok (with_flow_line d k cells)
flow_taken d name words k cells is =
    let all = named_are d.names words cells is.members.denote in
    let some : 1 ≤ length words = is.members.some in
    let found = crossing_of d.names name k is.crossing in
    let at : unwrap_or (crossing_named d.names name) 0 ≡ k = ap (λ (o : Option ℕ). unwrap_or o 0) found in
    let known : is_some (crossing_named d.names name) ≡ true = ap (λ (o : Option ℕ). is_some o) found in
    subst (λ (i : ℕ). judged (old_set_rows d.names (name ∷ words) ++ flow_rows d.site i (cells_named d.names words)) (with_flow_line d i (cells_named d.names words)) ≡ Ok (with_flow_line d k cells)) (sym at)
    (subst (λ (cs : List CellNo). judged (old_set_rows d.names (name ∷ words) ++ flow_rows d.site k cs) (with_flow_line d k cs) ≡ Ok (with_flow_line d k cells)) (sym all.found)
    (judged_ok (old_set_rows d.names (name ∷ words) ++ flow_rows d.site k cells) (with_flow_line d k cells) (
      le-ltb (length (name ∷ words)) 2 (omega arith),
      (
        not_from_true (list_all is_name (name ∷ words)) (and_from (is_name name) (list_all is_name words) is.crossing.name all.good),
        (
          not_from_true (is_some (crossing_named d.names name) && are_cells d.names words) (and_from (is_some (crossing_named d.names name)) (are_cells d.names words) known all.known),
          (
            none_repeat cells is.members.differ,
            (
              le-ltb 256 (crossing_claims (map completed (with_flow d.site k cells).crossings)) is.claims,
              (
                fails_each (λ (c : CellNo). not (has_cell (crossing_at d.site k).cells c) || in_flow (crossing_at d.site k).flows c) (λ (c : CellNo). (has_cell (crossing_at d.site k).cells c ≡ true) × (in_flow (crossing_at d.site k).flows c ≡ false)) (λ c own. cell_own d k c own) cells is.each,
                tt,
              ),
            ),
          ),
        ),
      ),
    )))
