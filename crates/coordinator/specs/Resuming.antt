-- What a coordinator that goes on from a checkpoint is made of.
use Rattle.std.specs.Prelude.{◌≡◌, ℕ, ◌||◌, nat_lt, List, [], ◌∷◌, Option, Some, None}
use Rattle.std.specs.FinSet as set
use Rattle.std.specs.Option.{option_map}
use Rattle.std.specs.Ordering.{nat_cmp}
use Rattle.fleet_base.specs.declared.limits.TheConstants.{MAX_FIRST}
use Rattle.fleet_base.specs.declared.numbers.CellNo.{CellNo}
use Rattle.fleet_model.specs.Lists.{first_some, when}
use Rattle.fleet_model.specs.Sites.{Site, needs}
use Rattle.fleet_base.specs.ClaimSets.{IsSetOf}
use Rattle.plan_events.specs.Shapes.{shape_cause}
use Rattle.coordinator.specs.declared.refused.ResumeRefused.{ResumeRefused}
use Rattle.coordinator.specs.declared.refused.ResumeRefused.TheVariants.{New, BadNext, BadPending}
use Rattle.coordinator.specs.declared.tables.Tables.{Tables}
use Rattle.coordinator.specs.Changes.{IsDeferred}
use Rattle.coordinator.specs.Openings.{bad_pending, opening_cause}

-- the first cause, but for more pending routes than the cap
abbrev pub early_cause : Site → List CellNo → List (Option (List CellNo)) → ℕ → Option ResumeRefused
early_cause site starts pending next =
    first_some (
    option_map (λ cause. New cause) (opening_cause site starts)
    ∷ when (nat_lt next 1 || nat_lt MAX_FIRST next) BadNext
    ∷ option_map (λ r. BadPending r) (bad_pending site 0 starts pending)
    ∷ []
    )

-- the route, where there is one, has the shape of one
abbrev pub HasShape : Site → Option (List CellNo) → Type 0
HasShape site None = Unit {0}
HasShape site (Some cells) = shape_cause site cells ≡ None

-- the route, where there is one, is robot r's pending one
abbrev pub IsPut : Site → Tables → Tables → ℕ → Option (List CellNo) → Type 0
IsPut site t u r None = u ≡ t
IsPut site t u r (Some cells) = (needed : set.FinSet nat_cmp) × IsSetOf needed (needs site cells) × IsDeferred t u r (record { route = cells; needs = needed })
