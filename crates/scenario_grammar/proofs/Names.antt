-- What the words of a line name, and the numbers that they say.
use Rattle.std.proofs.Common.{◌≡◌, ◌≢◌, ℕ, ◌≤◌, true, false, ◌&&◌, leb, eqb, List, [], ◌∷◌, Option, Some, None, refl, sym, ap, subst, ◌∙◌}
use Rattle.std.specs.List.{cons_option, list_all}
use Rattle.std.specs.Option.{is_some}
use Rattle.std.specs.Str.Parse.{digits_value}
use Rattle.std.proofs.lemmas.Bool.{and_from, and_parts, eqb-false, false≢true, le-leb, leb-true, ne_eqb, not-false, not_from_true, or_from, or_parts}
use Rattle.fleet_model.specs.Lists.{has_cell}
use Rattle.fleet_base.specs.declared.numbers.CellNo.{CellNo}
use Rattle.fleet_base.specs.declared.numbers.Link.{Link}
use Rattle.fleet_names.specs.declared.thing.Thing.{Thing}
use Rattle.fleet_names.specs.declared.thing.Thing.TheVariants.{Cell, Crossing, Area, Robot}
use Rattle.fleet_names.specs.Names.{Named, is_name, thing_of}
use Rattle.fleet_names.proofs.Finding.{none_is}
use Rattle.site_lines.specs.Numbers.{is_number}
use Rattle.site_map.specs.Built.{BuiltSite, links_at}
use Rattle.site_map.specs.Cells.{has_repeat}
use Rattle.scenario_reader.specs.SiteLines.{are_cells, as_cell, as_crossing, cell_named, cells_named, crossing_named, has_link, is_out_of, is_taken}
use Rattle.scenario_grammar.specs.Grammar.{Denotes, DenoteCells, Differ, HasNoLink, IsNew, IsNumber, Word}
use Rattle.scenario_grammar.proofs.Rows.{each_fails, fails_each}

-- a name that isn't taken
pub new_is : (names : Named) (word : Word) → is_name word ≡ true → is_taken names word ≡ false → IsNew names word
new_is names word name free = record { name = name; free = none_is (thing_of names word) free }

pub is_free : (names : Named) (word : Word) → IsNew names word → is_taken names word ≡ false
is_free names word new = ap (λ (o : Option Thing). is_some o) new.free

-- a word that names a cell
pub cell_is : (names : Named) (word : Word) → is_name word ≡ true → is_some (cell_named names word) ≡ true → (cell : CellNo) × (cell_named names word ≡ Some cell) × Denotes names word (Cell cell.0)
cell_is names word name some = go (thing_of names word) refl some
  where
    go : (o : Option Thing) → thing_of names word ≡ o → is_some (as_cell o) ≡ true → (cell : CellNo) × (cell_named names word ≡ Some cell) × Denotes names word (Cell cell.0)
    go None e some = absurd (false≢true some)
    go (Some (Cell n)) e some = (record { 0 = n }, ap as_cell e, record { name = name; is = e })
    go (Some (Crossing n)) e some = absurd (false≢true some)
    go (Some (Area n)) e some = absurd (false≢true some)
    go (Some (Robot n)) e some = absurd (false≢true some)

pub cell_of : (names : Named) (word : Word) (cell : CellNo) → Denotes names word (Cell cell.0) → cell_named names word ≡ Some cell
cell_of names word cell denotes = ap as_cell denotes.is

pub has_cell_name : (names : Named) (word : Word) (cell : CellNo) → Denotes names word (Cell cell.0) → is_some (cell_named names word) ≡ true
has_cell_name names word cell denotes = ap (λ (o : Option CellNo). is_some o) (cell_of names word cell denotes)

-- words that name cells
pub cells_are : (names : Named) (words : List Word) → list_all is_name words ≡ true → are_cells names words ≡ true → DenoteCells names words (cells_named names words)
cells_are names [] good known = tt
cells_are names (word ∷ words) good known =
    let goods = and_parts (is_name word) (list_all is_name words) good in
    let knowns = and_parts (is_some (cell_named names word)) (are_cells names words) known in
    let first = cell_is names word goods.0 knowns.0 in
    let rest = cells_are names words goods.1 knowns.1 in
    subst (λ (o : Option CellNo). DenoteCells names (word ∷ words) (cons_option o (cells_named names words))) (sym first.1) (first.2, rest)

pub record AreNamed (names : Named) (words : List Word) (cells : List CellNo) : Type 0 where
  pub good : list_all is_name words ≡ true
  pub known : are_cells names words ≡ true
  pub found : cells_named names words ≡ cells

pub named_are : (names : Named) (words : List Word) (cells : List CellNo) → DenoteCells names words cells → AreNamed names words cells
named_are names [] [] denote = record { good = refl; known = refl; found = refl }
named_are names [] (cell ∷ cells) denote = absurd denote
named_are names (word ∷ words) [] denote = absurd denote
named_are names (word ∷ words) (cell ∷ cells) denote =
    let rest = named_are names words cells denote.1 in
    record {
      good = and_from (is_name word) (list_all is_name words) denote.0.name rest.good;
      known = and_from (is_some (cell_named names word)) (are_cells names words) (has_cell_name names word cell denote.0) rest.known;
      found = ap (λ (o : Option CellNo). cons_option o (cells_named names words)) (cell_of names word cell denote.0) ∙ ap (λ (cs : List CellNo). cell ∷ cs) rest.found;
    }

-- a word that names a crossing
pub crossing_is : (names : Named) (word : Word) → is_name word ≡ true → is_some (crossing_named names word) ≡ true → (k : ℕ) × (crossing_named names word ≡ Some k) × Denotes names word (Crossing k)
crossing_is names word name some = go (thing_of names word) refl some
  where
    go : (o : Option Thing) → thing_of names word ≡ o → is_some (as_crossing o) ≡ true → (k : ℕ) × (crossing_named names word ≡ Some k) × Denotes names word (Crossing k)
    go None e some = absurd (false≢true some)
    go (Some (Cell n)) e some = absurd (false≢true some)
    go (Some (Crossing n)) e some = (n, ap as_crossing e, record { name = name; is = e })
    go (Some (Area n)) e some = absurd (false≢true some)
    go (Some (Robot n)) e some = absurd (false≢true some)

pub crossing_of : (names : Named) (word : Word) (k : ℕ) → Denotes names word (Crossing k) → crossing_named names word ≡ Some k
crossing_of names word k denotes = ap as_crossing denotes.is

-- cells are told apart by their numbers
pub cells_differ : (a b : CellNo) → eqb a.0 b.0 ≡ false → a ≢ b
cells_differ a b apart same = eqb-false a.0 b.0 apart (ap (λ (c : CellNo). c.0) same)

pub numbers_differ : (a b : CellNo) → a ≢ b → eqb a.0 b.0 ≡ false
numbers_differ a b differ = ne_eqb a.0 b.0 (λ same. differ (ap (λ (n : ℕ). record { 0 = n }) same))

-- no cell twice
pub repeat_none : (cells : List CellNo) → has_repeat cells ≡ false → Differ cells
repeat_none [] failing = tt
repeat_none (c ∷ cs) failing =
    let parts = or_parts (has_cell cs c) (has_repeat cs) failing in
    (each_fails (λ (d : CellNo). eqb d.0 c.0) (λ (d : CellNo). d ≢ c) (λ d apart. cells_differ d c apart) cs parts.0, repeat_none cs parts.1)

pub none_repeat : (cells : List CellNo) → Differ cells → has_repeat cells ≡ false
none_repeat [] differ = refl
none_repeat (c ∷ cs) differ =
    or_from (has_cell cs c) (has_repeat cs) (fails_each (λ (d : CellNo). eqb d.0 c.0) (λ (d : CellNo). d ≢ c) (λ d apart. numbers_differ d c apart) cs differ.0) (none_repeat cs differ.1)

-- a number in its range
pub number_is : (low high : ℕ) (word : Word) → is_number 9 word ≡ true → is_out_of low high word ≡ false → IsNumber low high word (digits_value 10 word)
number_is low high word digits within =
    let n : ℕ = digits_value 10 word in
    let parts = and_parts (leb low n) (leb n high) (not-false (leb low n && leb n high) within) in
    record { digits = digits; value = refl; at_least = leb-true low n parts.0; at_most = leb-true n high parts.1 }

pub in_range : (low high : ℕ) (word : Word) (n : ℕ) → IsNumber low high word n → is_out_of low high word ≡ false
in_range low high word n says =
    let v : ℕ = digits_value 10 word in
    let above : low ≤ v = subst (λ m. low ≤ m) says.value says.at_least in
    let below : v ≤ high = subst (λ m. m ≤ high) says.value says.at_most in
    not_from_true (leb low v && leb v high) (and_from (leb low v) (leb v high) (le-leb low v above) (le-leb v high below))

-- no link from a to b
pub link_none : (site : BuiltSite) (a b : CellNo) → has_link site a b ≡ false → HasNoLink site a b
link_none site a b failing = each_fails (λ (l : Link). eqb l.to.0 b.0) (λ (l : Link). l.to ≢ b) (λ l apart. cells_differ l.to b apart) (links_at site a) failing

pub none_link : (site : BuiltSite) (a b : CellNo) → HasNoLink site a b → has_link site a b ≡ false
none_link site a b none = fails_each (λ (l : Link). eqb l.to.0 b.0) (λ (l : Link). l.to ≢ b) (λ l apart. numbers_differ l.to b apart) (links_at site a) none
