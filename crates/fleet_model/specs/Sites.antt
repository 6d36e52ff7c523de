-- Sites, walks over them, and the events of a walk.
use Rattle.std.specs.Prelude.{◌≡◌, ℕ, ◌+◌, ◌<◌, ◌≤◌, Bool, true, false, not, ◌&&◌, ◌||◌, ◌==◌, List, [], ◌∷◌, ◌++◌, map, length, find, Option, Some, None, slice_get, slice_index_or}
use Rattle.std.specs.List.{filter, list_any}
use Rattle.std.specs.Option.{is_some, option_map}
use Rattle.fleet_base.specs.declared.numbers.CellNo.{CellNo}
use Rattle.fleet_base.specs.declared.numbers.ClaimGroup.{ClaimGroup}
use Rattle.fleet_base.specs.declared.numbers.ClaimNo.{ClaimNo}
use Rattle.fleet_base.specs.declared.numbers.Kind.{Kind}
use Rattle.fleet_base.specs.declared.numbers.Kind.TheVariants.{Acquire, Move, Release}
use Rattle.fleet_base.specs.declared.numbers.Link.{Link}
use Rattle.fleet_base.specs.Lists.{RiseFrom}

-- a site as plain data: for each cell its links and its footprint, and for each claim its group
pub record Site : Type 0 where
  pub links : List (List Link)
  pub footprints : List (List ClaimNo)
  pub groups : List ClaimGroup

abbrev pub cell_count : Site → ℕ
cell_count site = length site.footprints

-- the links from a cell
unfoldable pub links_from : Site → CellNo → List Link
links_from site a = slice_index_or site.links a.0 []

-- what the link from a to b costs; None where there is no link
unfoldable pub link_cost : Site → CellNo → CellNo → Option ℕ
link_cost site a b = option_map (λ l. l.cost) (find (λ l. l.to.0 == b.0) (links_from site a))

abbrev pub is_linked : Site → CellNo → CellNo → Bool
is_linked site a b = is_some (link_cost site a b)

-- the claims that a robot holds in the cell
unfoldable pub footprint_of : Site → CellNo → List ClaimNo
footprint_of site a = slice_index_or site.footprints a.0 []

-- two claims of these groups exclude each other; same tells whether they are one claim
abbrev pub exclude : Option ClaimGroup → Option ClaimGroup → Bool → Bool
exclude None h same = false
exclude (Some g) None same = false
exclude (Some g) (Some h) same = (g.group == h.group) && (not same || g.alone)

-- two robots must not hold these claims at once: they have one group, and they are two claims, or one that is alone
unfoldable pub in_conflict : List ClaimGroup → ClaimNo → ClaimNo → Bool
in_conflict groups c d = exclude (slice_get groups c.0) (slice_get groups d.0) (c.0 == d.0)

-- the claim is one of these
abbrev pub has_claim : List ClaimNo → ClaimNo → Bool
has_claim claims c = list_any (λ d. d.0 == c.0) claims

-- no claim comes twice
abbrev pub IsDistinct : List ClaimNo → Type 0
IsDistinct [] = Unit {0}
IsDistinct (c ∷ cs) = (has_claim cs c ≡ false) × IsDistinct cs

-- the claim conflicts with one of the cell's
abbrev pub is_kept_from : Site → ClaimNo → CellNo → Bool
is_kept_from site c a = list_any (λ d. in_conflict site.groups c d) (footprint_of site a)

-- there are at most 1,024 cells, footprints are short and ascend, and each link joins two of the cells and costs something
pub record IsSite (site : Site) : Type 0 where
  pub small : cell_count site ≤ 1024
  pub short : (a : CellNo) → length (footprint_of site a) ≤ 3
  pub ascending : (a : CellNo) → RiseFrom 0 (footprint_of site a)
  pub links : (a b : CellNo) (cost : ℕ) → link_cost site a b ≡ Some cost → (1 ≤ cost) × (a.0 < cell_count site) × (b.0 < cell_count site)

-- the claims of the first list that are not in the second
abbrev pub without : List ClaimNo → List ClaimNo → List ClaimNo
without cs ds = filter (λ c. not (has_claim ds c)) cs

-- what a robot does in a step from a to b
abbrev pub step : Site → CellNo → CellNo → List Kind
step site a b =
    map (λ c. Acquire c) (without (footprint_of site b) (footprint_of site a))
    ++ (Move a b ∷ map (λ c. Release c) (without (footprint_of site a) (footprint_of site b)))

-- the steps of a walk from a on through these cells
abbrev pub steps_from : Site → CellNo → List CellNo → List Kind
steps_from site a [] = []
steps_from site a (b ∷ bs) = step site a b ++ steps_from site b bs

-- the steps of a walk
abbrev pub steps : Site → List CellNo → List Kind
steps site [] = []
steps site (a ∷ bs) = steps_from site a bs

abbrev pub IsWalkFrom : Site → CellNo → List CellNo → Type 0
IsWalkFrom site a [] = Unit {0}
IsWalkFrom site a (b ∷ bs) = (is_linked site a b ≡ true) × IsWalkFrom site b bs

-- each cell is linked to the next
abbrev pub IsWalk : Site → List CellNo → Type 0
IsWalk site [] = Unit {0}
IsWalk site (a ∷ bs) = IsWalkFrom site a bs

-- the last cell of a walk
abbrev pub last_cell : CellNo → List CellNo → CellNo
last_cell a [] = a
last_cell a (b ∷ bs) = last_cell b bs

-- the rest points of a walk: the places in its steps before the first step and after each whole one
abbrev pub rest_points : Site → CellNo → List CellNo → List ℕ
rest_points site a [] = 0 ∷ []
rest_points site a (b ∷ bs) = 0 ∷ map (λ n. length (step site a b) + n) (rest_points site b bs)

-- the claims that these acquire
abbrev pub acquired : List Kind → List ClaimNo
acquired [] = []
acquired (Acquire c ∷ ks) = c ∷ acquired ks
acquired (Move a b ∷ ks) = acquired ks
acquired (Release c ∷ ks) = acquired ks

-- the claims that a route needs
abbrev pub needs : Site → List CellNo → List ClaimNo
needs site route = acquired (steps site route)

-- the cells that these move to
abbrev pub moved_to : List Kind → List CellNo
moved_to [] = []
moved_to (Acquire c ∷ ks) = moved_to ks
moved_to (Move a b ∷ ks) = b ∷ moved_to ks
moved_to (Release c ∷ ks) = moved_to ks
