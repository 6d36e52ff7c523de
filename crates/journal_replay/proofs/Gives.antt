-- What the answer of a call tells of its entry.
use Rattle.std.proofs.Common.{◌≡◌, ◌≢◌, ℕ, inl, inr, [], ◌∷◌, Option, Some, None, Ok, Err, Result, refl, sym, ap, ◌∙◌}
use Rattle.std.specs.Option.{option_to_list}
use Rattle.fleet_base.specs.declared.entries.Act.{Act}
use Rattle.fleet_base.specs.declared.entries.Entry.{Entry}
use Rattle.fleet_model.specs.Calls.{Step, accepted, unless_refused}
use Rattle.fleet_model.specs.Journals.{turn_at}
use Rattle.fleet_model.specs.States.{State}
use Rattle.coordinator.specs.Books.{Book, IsAnswer, state_of, with_entries}
use Rattle.journal_replay.specs.Taken.{IsGiven}

-- the entry of an accepted call
abbrev pub entry_of : ℕ → Act → Entry
entry_of r act = record { robot = record { 0 = r }; act = act }

-- a call that was accepted adds its entry, and answers what it answers
pub accepted_gives : {A E : Type 0} (o : Option E) (s : State) (a : A) (r : ℕ) (act : Act) (after : State) (b : A) → (unless_refused o s (accepted a r act after)).answer ≡ Ok b
    → ((unless_refused o s (accepted a r act after)).entry ≡ Some (entry_of r act)) × (a ≡ b)
accepted_gives None s a r act after b is = (refl, cc)
accepted_gives (Some e) s a r act after b is = absurd (cc)

-- a call that was refused adds none
pub refused_gives : {A E : Type 0} (o : Option E) (s : State) (step : Step A E) (a : A) (e : E) → step.answer ≡ Ok a → (unless_refused o s step).answer ≡ Err e → (unless_refused o s step).entry ≡ None
refused_gives None s step a e accepts is = absurd (cc)
refused_gives (Some refusal) s step a e accepts is = refl

-- an accepted answer is the machine's
pub answer_is : {A E : Type 0} (no_memory : E) (a : A) (due : Result A E) → IsAnswer no_memory (Ok a) due → due ≡ Ok a
answer_is no_memory a (Ok d) (inl is) = sym is
answer_is no_memory a (Ok d) (inr is) = absurd (cc)
answer_is no_memory a (Err e) is = absurd (cc)

-- so is a refusal that isn't want of memory
pub refusal_is : {A E : Type 0} (no_memory refused : E) (due : Result A E) → refused ≢ no_memory → IsAnswer no_memory (Err refused) due → due ≡ Err refused
refusal_is no_memory refused (Ok a) differs (inl is) = absurd (cc)
refusal_is no_memory refused (Ok a) differs (inr is) = absurd (differs (cc))
refusal_is no_memory refused (Err e) differs is = sym is

-- an entry that the machine gives is taken
pub taken : (old new : Book) (entry : Entry) → IsGiven (state_of old) entry → new ≡ with_entries old (option_to_list (turn_at (state_of old) entry).entry) → IsGiven (state_of old) entry × (new ≡ with_entries old (entry ∷ []))
taken old new entry given is = (given, is ∙ ap (λ o. with_entries old (option_to_list o)) given)

-- where the machine gives another entry, or none, this one isn't given
pub not_given : (s : State) (entry : Entry) (o : Option Entry) → (turn_at s entry).entry ≡ o → (o ≡ Some entry → ⊥) → IsGiven s entry → ⊥
not_given s entry o is differs g = differs (sym is ∙ g)
