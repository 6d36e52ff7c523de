-- When no coordinator is made.
use Rattle.std.specs.Prelude.{◌≡◌, ◌≢◌, ℕ, ◌+◌, ◌<◌, ◌≤◌, ◌⊎◌, Bool, true, false, not, ◌&&◌, ◌||◌, ◌==◌, nat_lt, List, [], ◌∷◌, find, length, Option, Some, None}
use Rattle.std.specs.List.{filter}
use Rattle.std.specs.Option.{is_none, is_some, option_map}
use Rattle.fleet_base.specs.declared.limits.TheConstants.{MAX_FIRST}
use Rattle.fleet_base.specs.declared.numbers.CellNo.{CellNo}
use Rattle.fleet_base.specs.declared.numbers.ClaimNo.{ClaimNo}
use Rattle.fleet_base.specs.declared.numbers.RobotNo.{RobotNo}
use Rattle.fleet_model.specs.Calls.{begin_at}
use Rattle.plan_events.specs.Shapes.{shape_cause}
use Rattle.fleet_model.specs.Lists.{first_some, when}
use Rattle.fleet_model.specs.Replays.{opening}
use Rattle.fleet_model.specs.Sites.{Site, footprint_of, in_conflict, is_kept_from}
use Rattle.coordinator.specs.declared.refused.NewRefused.{NewRefused}
use Rattle.coordinator.specs.declared.refused.NewRefused.TheVariants.{NoRobot, Clash, NoMemory}
use Rattle.coordinator.specs.declared.refused.ResumeRefused.{ResumeRefused}
use Rattle.coordinator.specs.declared.refused.ResumeRefused.TheVariants.{New, BadNext, BadPending, Crowded}
use Rattle.coordinator.specs.declared.refused.ResumeRefused.TheVariants as resume_refused

-- no claim that a robot holds at its start conflicts with one that another robot holds at its own
abbrev pub AreApart : Site → List CellNo → Type 0
AreApart site starts =
    (r q : ℕ) (c d : ClaimNo) → r ≢ q → in_conflict site.groups c d ≡ true → (opening site starts r).holds c ≡ true → (opening site starts q).holds d ≡ true → ⊥

-- two robots clash by a claim of the lesser one: it holds the claim at its start, and the greater one holds at its own a claim that conflicts with it
pub record IsClash (site : Site) (starts : List CellNo) (one other : ℕ) (claim : ClaimNo) : Type 0 where
  pub lesser : one < other
  pub holds : (opening site starts one).holds claim ≡ true
  pub against : ClaimNo
  pub held : (opening site starts other).holds against ≡ true
  pub conflict : in_conflict site.groups claim against ≡ true

-- of all clashes this one has the least lesser robot, of those the least greater one, and of those the least claim
pub record IsLeastClash (site : Site) (starts : List CellNo) (one other : ℕ) (claim : ClaimNo) : Type 0 where
  pub clash : IsClash site starts one other claim
  pub least : (first second : ℕ) (by : ClaimNo) → IsClash site starts first second by → (one < first) ⊎ ((one ≡ first) × ((other < second) ⊎ ((other ≡ second) × (claim.0 ≤ by.0))))

-- the first claim of the one cell that conflicts with one of the other's
abbrev pub kept_claim : Site → CellNo → CellNo → Option ClaimNo
kept_claim site a b = find (λ c. is_kept_from site c b) (footprint_of site a)

-- the clash of two robots by such a claim
abbrev pub clash_by : ℕ → ℕ → ClaimNo → NewRefused
clash_by one other claim = Clash (record { 0 = one }) (record { 0 = other }) claim

-- the clash of robot one, which starts in a, with the first of the robots that start in these cells, numbered from other on
abbrev pub clash_with : Site → ℕ → CellNo → ℕ → List CellNo → Option NewRefused
clash_with site one a other [] = None
clash_with site one a other (b ∷ bs) = first_some (option_map (clash_by one other) (kept_claim site a b) ∷ clash_with site one a (other + 1) bs ∷ [])

-- the clash of two robots that start in these cells, numbered from one on; as a search from robot to robot, it finds the least one
abbrev pub clash_from : Site → ℕ → List CellNo → Option NewRefused
clash_from site one [] = None
clash_from site one (a ∷ bs) = first_some (clash_with site one a (one + 1) bs ∷ clash_from site (one + 1) bs ∷ [])

-- the first cause
abbrev pub opening_cause : Site → List CellNo → Option NewRefused
opening_cause site starts = first_some (when (length starts == 0) NoRobot ∷ clash_from site 0 starts ∷ [])

-- the pending route isn't a legal one from the cell
abbrev pub is_bad : Site → CellNo → Option (List CellNo) → Bool
is_bad site a None = false
is_bad site a (Some route) = not (is_none (shape_cause site route) && begin_at a route)

-- the least robot, numbered from r on, whose pending route isn't a legal one from its cell
abbrev pub bad_pending : Site → ℕ → List CellNo → List (Option (List CellNo)) → Option RobotNo
bad_pending site r at [] = None
bad_pending site r [] (p ∷ ps) = None
bad_pending site r (a ∷ rest) (p ∷ ps) = first_some (when (is_bad site a p) (record { 0 = r }) ∷ bad_pending site (r + 1) rest ps ∷ [])

-- the first cause for which no run opens with these cells, pending routes, number and cap
abbrev pub resume_cause : Site → List CellNo → List (Option (List CellNo)) → ℕ → ℕ → Option ResumeRefused
resume_cause site starts pending next cap =
    first_some (
    option_map (λ cause. New cause) (opening_cause site starts)
    ∷ when (nat_lt next 1 || nat_lt MAX_FIRST next) BadNext
    ∷ option_map (λ r. BadPending r) (bad_pending site 0 starts pending)
    ∷ when (nat_lt cap (length (filter is_some pending))) Crowded
    ∷ []
    )

-- the refusal is the first cause, and where there is none want of memory alone; that may also come before too many pending routes are found
abbrev pub IsResumeRefusal : Option ResumeRefused → ResumeRefused → Type 0
IsResumeRefusal None refused = refused ≡ resume_refused.NoMemory
IsResumeRefusal (Some Crowded) refused = (refused ≡ Crowded) ⊎ (refused ≡ resume_refused.NoMemory)
IsResumeRefusal (Some cause) refused = refused ≡ cause

-- the refusal is the first cause, and where there is none want of memory alone
abbrev pub IsRefusal : Option NewRefused → NewRefused → Type 0
IsRefusal None refused = refused ≡ NoMemory
IsRefusal (Some cause) refused = refused ≡ cause
