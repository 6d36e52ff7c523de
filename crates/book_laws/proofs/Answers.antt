-- An answer that isn't want of memory is the machine's.
use Rattle.std.proofs.Common.{◌≡◌, ◌≢◌, ◌⊎◌, inl, inr, refl, sym, Result, Ok, Err}
use Rattle.coordinator.specs.Books.{IsAnswer}

module _ {A E : Type 0} (no_memory : E) where
  pub due_is : (told due : Result A E) → told ≢ Err no_memory → IsAnswer no_memory told due → told ≡ due
  due_is told (Ok a) some (inl is) = is
  due_is told (Ok a) some (inr is) = absurd (some is)
  due_is told (Err e) some is = is

  -- an accepted call was accepted by the machine
  pub due_ok : (a : A) (due : Result A E) → IsAnswer no_memory (Ok a) due → due ≡ Ok a
  due_ok a (Ok b) (inl is) = sym is
  due_ok a (Ok b) (inr is) = absurd (cc)
  due_ok a (Err e) is = absurd (cc)

  -- a refusal is want of memory or the machine's
  pub due_err : (e : E) (due : Result A E) → IsAnswer no_memory (Err e) due → (e ≡ no_memory) ⊎ (due ≡ Err e)
  due_err e (Ok b) (inl is) = absurd (cc)
  due_err e (Ok b) (inr is) = inl (cc)
  due_err e (Err f) is = inr (sym is)
