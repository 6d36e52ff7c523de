-- The causes of a proposal's refusal that its route and its robot alone give, and when a proposal would be deferred.
use Rattle.std.specs.Prelude.{◌≡◌, ℕ, not, nat_lt, List, [], ◌∷◌, length, Option, Some, None, Result, Ok, Err}
use Rattle.std.specs.Option.{is_some, option_map}
use Rattle.std.specs.Ordering.{nat_cmp}
use Rattle.std.specs.FinSet as set
use Rattle.fleet_base.specs.Lists.{robots_of}
use Rattle.fleet_base.specs.declared.answers.Block.{Block}
use Rattle.fleet_base.specs.declared.answers.ProposeRefused.{ProposeRefused}
use Rattle.fleet_base.specs.declared.answers.ProposeRefused.TheVariants as propose_refused
use Rattle.fleet_base.specs.declared.numbers.CellNo.{CellNo}
use Rattle.fleet_model.specs.Lists.{first_some, when}
use Rattle.fleet_model.specs.Plans.{end_of}
use Rattle.fleet_model.specs.Sites.{needs}
use Rattle.fleet_model.specs.States.{State, block_of, cycle_of, is_robot, pending_of}
use Rattle.fleet_base.specs.declared.answers.Blocker.{Blocker}
use Rattle.fleet_base.specs.ClaimSets.{IsSetOf}
use Rattle.fleet_model.specs.Calls.{begin_at, deferring, unknown_at, unlinked_at}
use Rattle.plan_events.specs.declared.refused.ShapeRefused.{ShapeRefused}
use Rattle.plan_events.specs.declared.refused.ShapeRefused.TheVariants as shape_refused
use Rattle.site_map.specs.Claims.{site_of}
use Rattle.coordinator.specs.Books.{Book, state_of}

-- all refusals but that for want of room, in order
abbrev pub early_refusals : State → ℕ → List CellNo → List (Option ProposeRefused)
early_refusals s r cells =
    when (not (is_robot s r)) propose_refused.UnknownRobot
    ∷ when (is_some (pending_of s r)) propose_refused.HasPending
    ∷ when (nat_lt (length cells) 2) propose_refused.Short
    ∷ when (nat_lt 1024 (length cells)) propose_refused.TooLong
    ∷ option_map (λ at. propose_refused.UnknownCell at) (unknown_at s.fleet.site cells)
    ∷ option_map (λ at. propose_refused.NoLink at) (unlinked_at s.fleet.site cells)
    ∷ when (not (begin_at (end_of s.fleet r) cells)) (propose_refused.BadStart (end_of s.fleet r))
    ∷ []

-- the first cause that is there
abbrev pub early_cause : State → ℕ → List CellNo → Option ProposeRefused
early_cause s r cells = first_some (early_refusals s r cells)

-- the refusal, where there is one, and else the value
abbrev pub refused_or : {A : Type 0} → Option ProposeRefused → A → Result A ProposeRefused
refused_or None value = Ok value
refused_or (Some refusal) value = Err refusal

-- the refusal of a proposal for its shape
abbrev pub of_shape : ShapeRefused → ProposeRefused
of_shape shape_refused.Short = propose_refused.Short
of_shape shape_refused.TooLong = propose_refused.TooLong
of_shape (shape_refused.UnknownCell at) = propose_refused.UnknownCell at
of_shape (shape_refused.NoLink at) = propose_refused.NoLink at
of_shape shape_refused.NoMemory = propose_refused.NoMemory

-- the block of this blocker in the state: with the cycle of deferrals through robot r
abbrev pub block_with : State → ℕ → Blocker → Block
block_with s r blocker = record { claim = blocker.claim; by = blocker.by; cycle = robots_of (cycle_of s r) }

-- but for want of room the proposal would be deferred: it needs these claims, and this is its least blocker
pub record WouldDefer (book : Book) (r : ℕ) (cells : List CellNo) (needed : set.FinSet nat_cmp) (blocker : Blocker) : Type 0 where
  pub early : early_cause (state_of book) r cells ≡ None
  pub needs : IsSetOf needed (needs (site_of book.site) cells)
  pub blocked : block_of (deferring (state_of book) r cells) r cells ≡ Some (block_with (deferring (state_of book) r cells) r blocker)
