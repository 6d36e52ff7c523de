-- Tables beside a plan: each robot's cell and its held claims, by what was reported.
use Rattle.std.specs.Prelude.{ℕ, ◌<◌, List, map, length}
use Rattle.fleet_base.specs.declared.numbers.CellNo.{CellNo}
use Rattle.fleet_base.specs.declared.numbers.ClaimNo.{ClaimNo}
use Rattle.fleet_model.specs.Lists.{In, numbers_below}
use Rattle.fleet_model.specs.Sites.{Site, footprint_of}
use Rattle.fleet_model.specs.Replays.{opening, replay, held_claims}
use Rattle.fleet_model.specs.Plans.{Fleet, cell_of}

-- each robot's cell by what was reported
abbrev pub places : Fleet → List CellNo
places m = map (cell_of m) (numbers_below (length m.starts))

-- the claims that robot r holds by what was reported, ascending
abbrev pub held_by : Fleet → ℕ → List ClaimNo
held_by m r = held_claims m.site (replay (opening m.site m.starts) m.finished r)

-- each robot's held claims
abbrev pub holdings : Fleet → List (List ClaimNo)
holdings m = map (held_by m) (numbers_below (length m.starts))

-- each claim of a footprint is one of the site's
pub record IsCounted (site : Site) : Type 0 where
  pub counted : (a : CellNo) (c : ClaimNo) → In c (footprint_of site a) → c.0 < length site.groups
