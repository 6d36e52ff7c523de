-- When each call of the builder is refused. The first cause that is there counts.
use Rattle.std.specs.Prelude.{◌≡◌, ℕ, Bool, not, ◌&&◌, ◌||◌, ◌==◌, nat_lt, nat_le, List, [], ◌∷◌, map, length, Option, Some, None}
use Rattle.std.specs.List.{list_any}
use Rattle.fleet_base.specs.declared.limits.TheConstants.{MAX_CELLS, MAX_CROSSINGS, MAX_CROSSINGS_OF_CELL, MAX_AREAS, MAX_LINKS}
use Rattle.fleet_base.specs.declared.numbers.CellNo.{CellNo}
use Rattle.fleet_model.specs.Lists.{when, first_some, has_cell}
use Rattle.site_map.specs.declared.refused.BuildRefused.{BuildRefused}
use Rattle.site_map.specs.declared.refused.BuildRefused.TheVariants.{UnknownCell, UnknownCrossing, Repeated, Full, TooManyCrossings, Foreign, SelfLink, Linked, NoMemory}
use Rattle.site_map.specs.declared.refused.TheConstants.{MAX_CROSSING_CLAIMS}
use Rattle.site_map.specs.Cells.{has_repeat, are_known}
use Rattle.site_map.specs.Crossings.{completed, crossing_claims, in_flow}
use Rattle.site_map.specs.Built.{BuiltSite, crossing_at, crossings_with, link_total, links_at, with_crossing, with_flow}

-- the call is refused for its first cause, and where it has none for want of memory alone
abbrev pub IsRefusal : Option BuildRefused → BuildRefused → Type 0
IsRefusal None refused = refused ≡ NoMemory
IsRefusal (Some cause) refused = refused ≡ cause

-- the crossings have more claims than a site may have, the rest of each being its last flow
abbrev pub has_too_many_claims : BuiltSite → Bool
has_too_many_claims site = nat_lt MAX_CROSSING_CLAIMS (crossing_claims (map completed site.crossings))

abbrev pub cell_cause : BuiltSite → Option BuildRefused
cell_cause site = when (nat_le MAX_CELLS site.cells) Full

abbrev pub crossing_cause : BuiltSite → List CellNo → Option BuildRefused
crossing_cause site cells = first_some (
    when (not (are_known site.cells cells)) UnknownCell
    ∷ when (has_repeat cells) Repeated
    ∷ when (nat_le MAX_CROSSINGS (length site.crossings) || has_too_many_claims (with_crossing site cells)) Full
    ∷ when (list_any (λ c. nat_le MAX_CROSSINGS_OF_CELL (crossings_with site.crossings c)) cells) TooManyCrossings
    ∷ [])

abbrev pub area_cause : BuiltSite → List CellNo → Option BuildRefused
area_cause site cells = first_some (
    when (not (are_known site.cells cells)) UnknownCell
    ∷ when (has_repeat cells) Repeated
    ∷ when (nat_le MAX_AREAS (length site.areas)) Full
    ∷ [])

abbrev pub link_cause : BuiltSite → CellNo → CellNo → Option BuildRefused
link_cause site from to = first_some (
    when (not (nat_lt from.0 site.cells && nat_lt to.0 site.cells)) UnknownCell
    ∷ when (nat_le MAX_LINKS (link_total site.links)) Full
    ∷ when (from.0 == to.0) SelfLink
    ∷ when (list_any (λ l. l.to.0 == to.0) (links_at site from)) Linked
    ∷ [])

-- a cell of the line isn't in the crossing, or is in an earlier line of it; Full counts as if the line stood
abbrev pub flow_cause : BuiltSite → ℕ → List CellNo → Option BuildRefused
flow_cause site k cells = first_some (
    when (not (are_known site.cells cells)) UnknownCell
    ∷ when (nat_le (length site.crossings) k) UnknownCrossing
    ∷ when (has_repeat cells) Repeated
    ∷ when (has_too_many_claims (with_flow site k cells)) Full
    ∷ when (list_any (λ c. not (has_cell (crossing_at site k).cells c) || in_flow (crossing_at site k).flows c) cells) Foreign
    ∷ [])
