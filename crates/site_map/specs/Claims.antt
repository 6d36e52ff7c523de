-- The claims of a site: their numbers, groups and names, and the site that the rules speak of.
use Rattle.std.specs.Prelude.{ℕ, ◌+◌, Bool, true, ◌==◌, if◌then◌else◌, List, [], ◌∷◌, ◌++◌, map, length, replicate, Option, Some, None, slice_get}
use Rattle.std.specs.Option.{option_map}
use Rattle.fleet_base.specs.declared.numbers.CellNo.{CellNo}
use Rattle.fleet_base.specs.declared.numbers.ClaimNo.{ClaimNo}
use Rattle.fleet_base.specs.declared.numbers.ClaimGroup.{ClaimGroup}
use Rattle.fleet_model.specs.Lists.{numbers_below, has_cell}
use Rattle.fleet_model.specs.Sites.{Site}
use Rattle.site_map.specs.declared.names.ClaimName.{ClaimName}
use Rattle.site_map.specs.declared.names.ClaimName.TheVariants.{Cell, Crossing}
use Rattle.site_map.specs.Cells.{cells_below}
use Rattle.site_map.specs.Crossings.{BuiltCrossing, claim_count_of, crossing_claims, flow_of}
use Rattle.site_map.specs.Built.{BuiltSite}

-- how many claims the site has: one for each cell, and those of its crossings
abbrev pub claim_total : BuiltSite → ℕ
claim_total site = site.cells + crossing_claims site.crossings

-- the claims of the cell in these crossings, whose claims are numbered from first on, crossing by crossing
abbrev pub claims_from : ℕ → List BuiltCrossing → CellNo → List ClaimNo
claims_from first [] c = []
claims_from first (x ∷ xs) c =
    let later = claims_from (first + claim_count_of x) xs c in
    if has_cell x.cells c then record { 0 = first + flow_of x c } ∷ later else later

-- the footprint of a cell: its own claim, which has its number, and its claims in crossings, which follow behind the last cell
abbrev pub footprint_in : BuiltSite → CellNo → List ClaimNo
footprint_in site c = record { 0 = c.0 } ∷ claims_from site.cells site.crossings c

-- the claim of a cell is alone in a group of its own number
abbrev pub cell_group : ℕ → ClaimGroup
cell_group c = record { group = c; alone = true }

-- the claim of a crossing is alone where the crossing has no flows
abbrev pub is_alone : BuiltCrossing → Bool
is_alone crossing = length crossing.flows == 0

-- the claims of one crossing have one group, which has the number of the first of them
abbrev pub groups_from : ℕ → List BuiltCrossing → List ClaimGroup
groups_from first [] = []
groups_from first (x ∷ xs) = replicate (claim_count_of x) (record { group = first; alone = is_alone x }) ++ groups_from (first + claim_count_of x) xs

-- the group of each claim
abbrev pub groups_of : BuiltSite → List ClaimGroup
groups_of site = map cell_group (numbers_below site.cells) ++ groups_from site.cells site.crossings

-- the names of the claims of crossing k, by its flows
abbrev pub flow_names : ℕ → List (List CellNo) → List ClaimName
flow_names k [] = Crossing k None ∷ []
flow_names k (flow ∷ flows) = map (λ f. Crossing k (Some f)) (numbers_below (length (flow ∷ flows)))

-- the names of the claims of these crossings, which are numbered from k on
abbrev pub names_from : ℕ → List BuiltCrossing → List ClaimName
names_from k [] = []
names_from k (x ∷ xs) = flow_names k x.flows ++ names_from (k + 1) xs

-- what each claim is a claim of
abbrev pub names_of : BuiltSite → List ClaimName
names_of site = map (λ c. Cell c) (cells_below site.cells) ++ names_from 0 site.crossings

-- the site as the rules speak of it: for each cell its links and its footprint, and for each claim its group
abbrev pub site_of : BuiltSite → Site
site_of site = record { links = site.links; footprints = map (footprint_in site) (cells_below site.cells); groups = groups_of site }

-- the number of a claim's group; None for no claim of the site
abbrev pub group_at : Site → ClaimNo → Option ℕ
group_at site claim = option_map (λ g. g.group) (slice_get site.groups claim.0)
