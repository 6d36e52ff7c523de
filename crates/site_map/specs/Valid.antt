-- What every finished site keeps.
use Rattle.std.specs.Prelude.{◌≡◌, ℕ, ◌<◌, ◌≤◌, Bool, true, false, ◌==◌, length, All}
use Rattle.std.specs.List.{list_any}
use Rattle.fleet_model.specs.Lists.{has_cell}
use Rattle.fleet_base.specs.declared.limits.TheConstants.{MAX_AREAS, MAX_CELLS, MAX_CROSSINGS, MAX_CROSSINGS_OF_CELL, MAX_LINKS}
use Rattle.fleet_base.specs.declared.numbers.CellNo.{CellNo}
use Rattle.site_map.specs.declared.refused.TheConstants.{MAX_CROSSING_CLAIMS}
use Rattle.site_map.specs.Crossings.{AreApart, BuiltCrossing, crossing_claims, in_flow, IsFlow}
use Rattle.site_map.specs.Built.{BuiltSite, crossings_with, link_total, links_at}
use Rattle.site_map.specs.Inside.{AreCells, AreLinks}

-- a crossing of a site of n cells: its flows, where it has any, share its cells out
pub record IsCrossingIn (n : ℕ) (crossing : BuiltCrossing) : Type 0 where
  pub cells : AreCells n crossing.cells
  pub flows : All (IsFlow crossing.cells) crossing.flows
  pub apart : AreApart crossing.flows
  pub whole : (c : CellNo) → 0 < length crossing.flows → has_cell crossing.cells c ≡ true → in_flow crossing.flows c ≡ true

-- the cell is linked to itself
abbrev pub is_looped : BuiltSite → CellNo → Bool
is_looped site c = list_any (λ l. l.to.0 == c.0) (links_at site c)

-- a finished site: its parts are within the limits, in order and in the site, and no cell is linked to itself
pub record IsValidSite (site : BuiltSite) : Type 0 where
  pub few_cells : site.cells ≤ MAX_CELLS
  pub few_links : link_total site.links ≤ MAX_LINKS
  pub few_crossings : length site.crossings ≤ MAX_CROSSINGS
  pub few_areas : length site.areas ≤ MAX_AREAS
  pub few_claims : crossing_claims site.crossings ≤ MAX_CROSSING_CLAIMS
  pub rows : length site.links ≡ site.cells
  pub linked : All (AreLinks site.cells) site.links
  pub unlooped : (c : CellNo) → is_looped site c ≡ false
  pub crossed : All (IsCrossingIn site.cells) site.crossings
  pub twice : (c : CellNo) → c.0 < site.cells → crossings_with site.crossings c ≤ MAX_CROSSINGS_OF_CELL
  pub gathered : All (AreCells site.cells) site.areas
