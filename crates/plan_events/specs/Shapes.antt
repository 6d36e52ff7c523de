-- When a list of cells is refused as a route. The first cause that is there counts.
use Rattle.std.specs.Prelude.{◌≡◌, ◌<◌, ◌≤◌, nat_lt, List, [], ◌∷◌, length, Option, Some, None, Result, Ok, Err, All}
use Rattle.std.specs.Option.{option_map}
use Rattle.fleet_base.specs.declared.numbers.CellNo.{CellNo}
use Rattle.fleet_model.specs.Lists.{when, first_some}
use Rattle.fleet_model.specs.Sites.{Site, cell_count, IsWalk}
use Rattle.fleet_model.specs.Calls.{unknown_at, unlinked_at}
use Rattle.plan_events.specs.declared.refused.ShapeRefused.{ShapeRefused}
use Rattle.plan_events.specs.declared.refused.ShapeRefused.TheVariants.{Short, TooLong, UnknownCell, NoLink, NoMemory}

-- the refusals of a route's shape, in order, each where its cause is there
abbrev pub shape_refusals : Site → List CellNo → List (Option ShapeRefused)
shape_refusals site cells =
    when (nat_lt (length cells) 2) Short
    ∷ when (nat_lt 1024 (length cells)) TooLong
    ∷ option_map (λ at. UnknownCell at) (unknown_at site cells)
    ∷ option_map (λ at. NoLink at) (unlinked_at site cells)
    ∷ []

-- the first refusal whose cause is there
abbrev pub shape_cause : Site → List CellNo → Option ShapeRefused
shape_cause site cells = first_some (shape_refusals site cells)

-- the refusal, where there is one, and else the value
abbrev pub refused_or : {A : Type 0} → Option ShapeRefused → A → Result A ShapeRefused
refused_or None value = Ok value
refused_or (Some refusal) value = Err refusal

-- the call is refused for its first cause, and where it has none for want of memory alone
abbrev pub IsRefusal : Option ShapeRefused → ShapeRefused → Type 0
IsRefusal None refused = refused ≡ NoMemory
IsRefusal (Some cause) refused = refused ≡ cause

-- the cells are a walk of 2 to 1,024 cells of the site
pub record IsShape (site : Site) (cells : List CellNo) : Type 0 where
  pub long : 2 ≤ length cells
  pub short : length cells ≤ 1024
  pub known : All (λ c. c.0 < cell_count site) cells
  pub linked : IsWalk site cells
