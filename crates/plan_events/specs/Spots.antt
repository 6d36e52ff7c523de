-- The robots' spots as they are kept.
use Rattle.std.specs.Prelude.{ℕ, Bool, false, not, ◌&&◌, ◌||◌, List, Option, Some, None, slice_get}
use Rattle.std.specs.FinSet.{contains}
use Rattle.fleet_base.specs.declared.numbers.ClaimNo.{ClaimNo}
use Rattle.fleet_model.specs.Sites.{has_claim}
use Rattle.fleet_model.specs.Replays.{Spot}
use Rattle.plan_events.specs.declared.spots.KeptSpot.{KeptSpot}

-- the spot that is kept
abbrev pub shown : KeptSpot → Spot
shown s = record { cell = s.cell; holds = λ c. contains s.held c.0 }

-- the same, where there is one; else a spot where nothing is held
abbrev pub shown_at : Option KeptSpot → Spot
shown_at None = record { cell = record { 0 = 0 }; holds = λ c. false }
shown_at (Some s) = shown s

-- the spot of robot r
abbrev pub spot_of : List KeptSpot → ℕ → Spot
spot_of spots r = shown_at (slice_get spots r)

-- the claim is in one of the lists, and a robot there doesn't hold it
abbrev pub is_missing : Spot → List ClaimNo → List ClaimNo → ClaimNo → Bool
is_missing s left entered c = (has_claim left c || has_claim entered c) && not (s.holds c)
