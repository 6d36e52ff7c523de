-- A seat between two calls.
use Rattle.std.proofs.Common.{◌≡◌, ℕ, Option, None, IsSome, List, refl}
use Rattle.turn_lock.specs.declared.view.Stage.{Stage}
use Rattle.turn_lock.specs.declared.view.Stage.TheVariants.{Free, Waits, Has, Spent}
use Rattle.turn_lock.specs.Places.{Rests, taken_of}
use Rattle.turn_lock.specs.Turns.{alive}

module _ {T : Type 0} where
  -- it has taken nothing
  pub is_free : (st : Stage T) (slots : List (ℕ × Option T)) → Rests st slots → taken_of st ≡ None → st ≡ Free
  is_free Free slots rests none = refl
  is_free Waits slots rests none = absurd rests
  is_free (Has x) slots rests none = cc none
  is_free Spent slots rests none = absurd rests

  -- it has taken a value
  pub has_turn : (st : Stage T) (slots : List (ℕ × Option T)) → Rests st slots → IsSome (taken_of st) → (x : T) × (st ≡ Has x)
  has_turn Free slots rests some = cc some
  has_turn Waits slots rests some = absurd rests
  has_turn (Has x) slots rests some = (x, refl)
  has_turn Spent slots rests some = absurd rests

  -- it was not joined
  pub is_alive : (st : Stage T) (slots : List (ℕ × Option T)) → Rests st slots → alive st ≡ 1
  is_alive Free slots rests = refl
  is_alive Waits slots rests = absurd rests
  is_alive (Has x) slots rests = refl
  is_alive Spent slots rests = absurd rests
