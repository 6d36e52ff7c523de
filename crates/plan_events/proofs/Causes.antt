-- The first refusal of a shape, and what cells without one are.
use Rattle.std.proofs.Common.{◌≡◌, ℕ, zero, suc, ◌+◌, ◌-◌, ◌<◌, ◌≤◌, Bool, true, false, cond, not, refl, sym, ap, ◌∙◌, List, [], ◌∷◌, length, drop, get_or, Option, Some, None, arith}
use Rattle.std.proofs.lemmas.Bool.{ltb-false, lt-ltb, le-ltb, le-leb, lt-leb, leb-false, cond-true, cond-false}
use Rattle.std.proofs.lemmas.List.{drop_more, drop_all, length-map}
use Rattle.std.proofs.lemmas.List.FromFn.{length-map-range_with_len}
use Rattle.std.proofs.lemmas.Iterator.Adapters.{position_from-zero}
use Rattle.std.specs.Prelude.{nat_lt, nat_le, All}
use Rattle.std.specs.List.{position_from}
use Rattle.std.specs.Option.{option_map}
use Rattle.fleet_base.specs.declared.numbers.CellNo.{CellNo}
use Rattle.fleet_model.specs.Lists.{when, first_some}
use Rattle.fleet_model.specs.Sites.{Site, cell_count, is_linked, IsWalk, IsWalkFrom}
use Rattle.fleet_model.specs.Calls.{first_unlinked, unknown_at, unlinked_at}
use Rattle.site_map.specs.Built.{BuiltSite}
use Rattle.site_map.specs.Cells.{cells_below}
use Rattle.site_map.specs.Claims.{footprint_in, site_of}
use Rattle.plan_events.specs.declared.refused.ShapeRefused.{ShapeRefused}
use Rattle.plan_events.specs.declared.refused.ShapeRefused.TheVariants.{Short, TooLong, UnknownCell, NoLink}
use Rattle.plan_events.specs.Shapes.{shape_cause, IsShape}

-- a site has as many cells as it was built of
pub cell_count-site_of : (site : BuiltSite) → cell_count (site_of site) ≡ site.cells
cell_count-site_of site = length-map (cells_below site.cells) (footprint_in site) ∙ length-map-range_with_len (λ (n : ℕ). let c : CellNo = record { 0 = n } in c) 0 site.cells

abbrev pub is_unknown : Site → CellNo → Bool
is_unknown site c = nat_le (cell_count site) c.0

-- the search for an unknown cell, from a place on
abbrev pub unknown_on : Site → List CellNo → ℕ → Option ℕ
unknown_on site cells at = position_from (is_unknown site) at (drop at cells)

pub unknown_begin : (site : Site) (cells : List CellNo) → unknown_at site cells ≡ unknown_on site cells 0
unknown_begin site cells = position_from-zero (is_unknown site) cells

pub unknown_more : (site : Site) (cells : List CellNo) (at : ℕ) (d : CellNo) → at < length cells → (get_or cells at d).0 < cell_count site → unknown_on site cells at ≡ unknown_on site cells (at + 1)
unknown_more site cells at d h known =
    ap (position_from (is_unknown site) at) (drop_more cells at d h)
    ∙ cond-false (is_unknown site (get_or cells at d)) (Some at) (unknown_on site cells (at + 1)) (lt-leb (cell_count site) (get_or cells at d).0 known)

pub unknown_found : (site : Site) (cells : List CellNo) (at : ℕ) (d : CellNo) → at < length cells → cell_count site ≤ (get_or cells at d).0 → unknown_on site cells at ≡ Some at
unknown_found site cells at d h unknown =
    ap (position_from (is_unknown site) at) (drop_more cells at d h)
    ∙ cond-true (is_unknown site (get_or cells at d)) (Some at) (unknown_on site cells (at + 1)) (le-leb (cell_count site) (get_or cells at d).0 unknown)

pub unknown_end : (site : Site) (cells : List CellNo) (at : ℕ) → length cells ≤ at → unknown_on site cells at ≡ None
unknown_end site cells at h = ap (position_from (is_unknown site) at) (drop_all at cells h)

none_first : (site : Site) (at : ℕ) (c : CellNo) (o : Option ℕ) (b : Bool) → cond b (Some at) o ≡ None → (b ≡ false) × (o ≡ None)
none_first site at c o true h = absurd (cc)
none_first site at c o false h = (refl, h)

none_from : (site : Site) (at : ℕ) (cells : List CellNo) → position_from (is_unknown site) at cells ≡ None → (k : ℕ) (d : CellNo) → k < length cells → (get_or cells k d).0 < cell_count site
none_from site at [] h k d l = absurd (omega arith)
none_from site at (c ∷ cs) h zero d l = leb-false (cell_count site) c.0 (none_first site at c (position_from (is_unknown site) (at + 1) cs) (is_unknown site c) h).0
none_from site at (c ∷ cs) h (suc k) d l = none_from site (at + 1) cs (none_first site at c (position_from (is_unknown site) (at + 1) cs) (is_unknown site c) h).1 k d (omega arith)

-- where no cell is unknown, each is one of the site
pub all_known : (site : Site) (cells : List CellNo) → unknown_at site cells ≡ None → All (λ c. c.0 < cell_count site) cells
all_known site cells h = none_from site 0 cells (sym (unknown_begin site cells) ∙ h)

-- each cell of them is one of the site
pub known_at : (site : BuiltSite) (cells : List CellNo) → unknown_at (site_of site) cells ≡ None → (k : ℕ) (d : CellNo) → k < length cells → (get_or cells k d).0 < site.cells
known_at site cells h k d l = let e = cell_count-site_of site in let f = all_known (site_of site) cells h k d l in omega arith

first_some-one : {A : Type 0} (o : Option A) → first_some (o ∷ []) ≡ o
first_some-one None = refl
first_some-one (Some x) = refl

-- the search for a cell that isn't linked, from a place on
abbrev pub no_cell : CellNo
no_cell = record { 0 = 0 }

abbrev pub unlinked_on : Site → List CellNo → ℕ → Option ℕ
unlinked_on site cells at = first_unlinked site at (get_or cells (at - 1) no_cell) (drop at cells)

pub unlinked_begin : (site : Site) (cells : List CellNo) → unlinked_at site cells ≡ unlinked_on site cells 1
unlinked_begin site [] = refl
unlinked_begin site (c ∷ cs) = refl

linked_first : (site : Site) (at : ℕ) (a b : CellNo) (bs : List CellNo) → is_linked site a b ≡ true → first_unlinked site at a (b ∷ bs) ≡ first_unlinked site (at + 1) b bs
linked_first site at a b bs h = ap (λ t. first_some (when (not t) at ∷ first_unlinked site (at + 1) b bs ∷ [])) h ∙ first_some-one (first_unlinked site (at + 1) b bs)

unlinked_first : (site : Site) (at : ℕ) (a b : CellNo) (bs : List CellNo) → is_linked site a b ≡ false → first_unlinked site at a (b ∷ bs) ≡ Some at
unlinked_first site at a b bs h = ap (λ t. first_some (when (not t) at ∷ first_unlinked site (at + 1) b bs ∷ [])) h

pub unlinked_more : (site : Site) (cells : List CellNo) (at : ℕ) → 1 ≤ at → at < length cells → is_linked site (get_or cells (at - 1) no_cell) (get_or cells at no_cell) ≡ true → unlinked_on site cells at ≡ unlinked_on site cells (at + 1)
unlinked_more site cells at low h linked =
    let same : at ≡ at + 1 - 1 = omega arith in
    ap (first_unlinked site at (get_or cells (at - 1) no_cell)) (drop_more cells at no_cell h)
    ∙ linked_first site at (get_or cells (at - 1) no_cell) (get_or cells at no_cell) (drop (at + 1) cells) linked
    ∙ ap (λ n. first_unlinked site (at + 1) (get_or cells n no_cell) (drop (at + 1) cells)) same

pub unlinked_found : (site : Site) (cells : List CellNo) (at : ℕ) → at < length cells → is_linked site (get_or cells (at - 1) no_cell) (get_or cells at no_cell) ≡ false → unlinked_on site cells at ≡ Some at
unlinked_found site cells at h unlinked =
    ap (first_unlinked site at (get_or cells (at - 1) no_cell)) (drop_more cells at no_cell h)
    ∙ unlinked_first site at (get_or cells (at - 1) no_cell) (get_or cells at no_cell) (drop (at + 1) cells) unlinked

pub unlinked_end : (site : Site) (cells : List CellNo) (at : ℕ) → length cells ≤ at → unlinked_on site cells at ≡ None
unlinked_end site cells at h = ap (first_unlinked site at (get_or cells (at - 1) no_cell)) (drop_all at cells h)

-- what a list of refusals without one says of each
abbrev first_cause : Bool → Bool → Option ℕ → Option ℕ → Option ShapeRefused
first_cause short long unknown unlinked = first_some (when short Short ∷ when long TooLong ∷ option_map (λ at. UnknownCell at) unknown ∷ option_map (λ at. NoLink at) unlinked ∷ [])

record AreNone (s l : Bool) (u v : Option ℕ) : Type 0 where
  short : s ≡ false
  long : l ≡ false
  unknown : u ≡ None
  unlinked : v ≡ None

are_none : (short long : Bool) (unknown unlinked : Option ℕ) → first_cause short long unknown unlinked ≡ None → AreNone short long unknown unlinked
are_none true long unknown unlinked h = absurd (cc)
are_none false true unknown unlinked h = absurd (cc)
are_none false false (Some at) unlinked h = absurd (cc)
are_none false false None (Some at) h = absurd (cc)
are_none false false None None h = record { short = refl; long = refl; unknown = refl; unlinked = refl }

none_linked : (b : Bool) (at : ℕ) (o : Option ℕ) → first_some (when (not b) at ∷ o ∷ []) ≡ None → (b ≡ true) × (o ≡ None)
none_linked true at o h = (refl, sym (first_some-one o) ∙ h)
none_linked false at o h = absurd (cc)

linked_walk : (site : Site) (at : ℕ) (a : CellNo) (bs : List CellNo) → first_unlinked site at a bs ≡ None → IsWalkFrom site a bs
linked_walk site at a [] h = tt
linked_walk site at a (b ∷ bs) h = let p = none_linked (is_linked site a b) at (first_unlinked site (at + 1) b bs) h in (p.0, linked_walk site (at + 1) b bs p.1)

linked_all : (site : Site) (cells : List CellNo) → unlinked_at site cells ≡ None → IsWalk site cells
linked_all site [] h = tt
linked_all site (a ∷ bs) h = linked_walk site 1 a bs h

-- cells without a refusal are a walk of 2 to 1,024 cells of the site
pub accepted_shape : (site : Site) (cells : List CellNo) → shape_cause site cells ≡ None → IsShape site cells
accepted_shape site cells h =
    let none = are_none (nat_lt (length cells) 2) (nat_lt 1024 (length cells)) (unknown_at site cells) (unlinked_at site cells) h in
    record {
      long = ltb-false (length cells) 2 none.short;
      short = ltb-false 1024 (length cells) none.long;
      known = all_known site cells none.unknown;
      linked = linked_all site cells none.unlinked;
    }

-- and none of them is unknown
pub accepted_known : (site : Site) (cells : List CellNo) → shape_cause site cells ≡ None → unknown_at site cells ≡ None
accepted_known site cells h = (are_none (nat_lt (length cells) 2) (nat_lt 1024 (length cells)) (unknown_at site cells) (unlinked_at site cells) h).unknown

-- the first cause
pub cause_short : (site : Site) (cells : List CellNo) → length cells < 2 → shape_cause site cells ≡ Some Short
cause_short site cells h = ap (λ t. first_cause t (nat_lt 1024 (length cells)) (unknown_at site cells) (unlinked_at site cells)) (lt-ltb (length cells) 2 h)

pub cause_long : (site : Site) (cells : List CellNo) → 1024 < length cells → shape_cause site cells ≡ Some TooLong
cause_long site cells h =
    ap (λ t. first_cause t (nat_lt 1024 (length cells)) (unknown_at site cells) (unlinked_at site cells)) (le-ltb (length cells) 2 (omega arith))
    ∙ ap (λ t. first_cause false t (unknown_at site cells) (unlinked_at site cells)) (lt-ltb 1024 (length cells) h)

cause_behind : (site : Site) (cells : List CellNo) → 2 ≤ length cells → length cells ≤ 1024 → shape_cause site cells ≡ first_cause false false (unknown_at site cells) (unlinked_at site cells)
cause_behind site cells long short =
    ap (λ t. first_cause t (nat_lt 1024 (length cells)) (unknown_at site cells) (unlinked_at site cells)) (le-ltb (length cells) 2 long)
    ∙ ap (λ t. first_cause false t (unknown_at site cells) (unlinked_at site cells)) (le-ltb 1024 (length cells) short)

pub cause_unknown : (site : Site) (cells : List CellNo) (at : ℕ) → 2 ≤ length cells → length cells ≤ 1024 → unknown_at site cells ≡ Some at → shape_cause site cells ≡ Some (UnknownCell at)
cause_unknown site cells at long short h = cause_behind site cells long short ∙ ap (λ o. first_cause false false o (unlinked_at site cells)) h

pub cause_unlinked : (site : Site) (cells : List CellNo) (at : ℕ) → 2 ≤ length cells → length cells ≤ 1024 → unknown_at site cells ≡ None → unlinked_at site cells ≡ Some at → shape_cause site cells ≡ Some (NoLink at)
cause_unlinked site cells at long short known h =
    cause_behind site cells long short
    ∙ ap (λ o. first_cause false false o (unlinked_at site cells)) known
    ∙ ap (λ o. first_cause false false None o) h

pub cause_none : (site : Site) (cells : List CellNo) → 2 ≤ length cells → length cells ≤ 1024 → unknown_at site cells ≡ None → unlinked_at site cells ≡ None → shape_cause site cells ≡ None
cause_none site cells long short known linked =
    cause_behind site cells long short
    ∙ ap (λ o. first_cause false false o (unlinked_at site cells)) known
    ∙ ap (λ o. first_cause false false None o) linked
