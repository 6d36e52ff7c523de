-- Cells with names are cells of the site.
use Rattle.std.proofs.Common.{◌≡◌, ℕ, ◌<◌, suc, false, nat_le, List, [], ◌∷◌, length, None, All, refl, ap, ◌∙◌, one-add, arith}
use Rattle.std.specs.Prelude.{nat_lt}
use Rattle.std.specs.List.{position_or_len}
use Rattle.std.proofs.lemmas.Bool.Decides.{nat_tests}
use Rattle.std.proofs.lemmas.List.{length-map}
use Rattle.std.proofs.lemmas.List.Elements.{All-head, All-tail}
use Rattle.std.proofs.lemmas.List.FromFn.{length-map-range_with_len}
use Rattle.fleet_base.specs.declared.numbers.CellNo.{CellNo}
use Rattle.fleet_model.specs.Calls.{unknown_at}
use Rattle.fleet_model.specs.Sites.{cell_count}
use Rattle.site_map.specs.Built.{BuiltSite}
use Rattle.site_map.specs.Cells.{cells_below}
use Rattle.site_map.specs.Claims.{site_of, footprint_in}

to_cell : ℕ → CellNo
to_cell k = record { 0 = k }

count_is : (site : BuiltSite) → cell_count (site_of site) ≡ site.cells
unfolding to_cell
count_is site = length-map (cells_below site.cells) (footprint_in site) ∙ length-map-range_with_len to_cell 0 site.cells

none_past : (n : ℕ) (cells : List CellNo) → All (λ c. c.0 < n) cells → position_or_len (λ (c : CellNo). nat_le n c.0) cells ≡ length cells
none_past n [] are = refl
none_past n (c ∷ cs) are =
    let below : c.0 < n = All-head (λ (d : CellNo). d.0 < n) c cs are in
    let is : nat_le n c.0 ≡ false = grind (arith, nat_tests) in
    rw (is, one-add) (ap suc (none_past n cs (All-tail (λ (d : CellNo). d.0 < n) c cs are)))

pub none_unknown : (site : BuiltSite) (cells : List CellNo) → All (λ c. c.0 < site.cells) cells → unknown_at (site_of site) cells ≡ None
none_unknown site cells are =
    let all = none_past site.cells cells are in
    let not_less : nat_lt (length cells) (length cells) ≡ false = grind (arith, nat_tests) in
    rw (count_is site, all, not_less) refl
