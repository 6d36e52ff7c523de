-- What the steps of one call add up to.
use Rattle.std.proofs.Common.{◌≡◌, ⊎_elim, ℕ, zero, suc, ◌+◌, ◌<◌, ◌^◌, List, [], ◌∷◌, length, get_or, Option, Some, None, refl, ap, sym, subst, ◌∙◌, arith, length-append}
use mathlib.Core.Option.{some, some-injective}
use mathlib.Core.List.{IsPrefix}
use lib.ListN.{get_elem?}
use Rattle.atomic_table.specs.Seated.{TableId}
use Rattle.atomic_table.specs.Table.{Me, Final, Seen}
use Rattle.atomic_table.proofs.Lists.{at_index}
use Rattle.turn_lock.specs.declared.view.View.{View}
use Rattle.turn_lock.specs.declared.view.Stage.TheVariants.{Has}
use Rattle.turn_lock.specs.Locks.{Agrees, IsGrown, Known, Seat, behind, entries_of, known}
use Rattle.turn_lock.specs.Turns.{Turns, Fits, Closes, waiting, having, caught_up, raising}
use Rattle.turn_lock.specs.Places.{Raises, Passes, Rests, seat_of}
use Rattle.turn_lock.proofs.Keeps.{closes}
use Rattle.turn_lock.proofs.Resting.{is_free}

some_is : {T : Type 0} (a b : T) → Some a ≡ Some b → a ≡ b
some_is a b e = cc e

abbrev first_value : {T : Type 0} → List (ℕ × Option T) → Option T
first_value [] = None
first_value (x ∷ xs) = x.1

-- the value on top of the slots
top_is : {T : Type 0} (a b : T) (l : List (ℕ × Option T)) → l ≡ (0, Some a) ∷ [] → l ≡ (0, Some b) ∷ [] → a ≡ b
top_is a b l e f = some_is a b (ap first_value (sym e ∙ f))

again : {A : Type 0} (l : List A) (i : ℕ) (d : A) → i < length l → get_or l i d ≡ get_or l i (get_or l i d)
again [] i d h = absurd (omega arith)
again (x ∷ xs) zero d h = refl
again (x ∷ xs) (suc i) d h = again xs i d (omega arith)

module _ {T E F : Type 0} (history : T → List E) (maker : E → ℕ) (fixed : T → F) where
  abbrev M : Type 0
  M = Me (Option T) (View T E)

  -- a ticket is drawn, the slot taken, and the value taken out: its history begins with the opening one
  pub begins : (o : T) (v : View T E) (m₁ m₂ : M) (t : ℕ) (x y : T) → v.opening ≡ Some o → m₁ ≡ (waiting v t, []) → Fits history maker fixed m₁.0 x → m₂ ≡ (having m₁.0 x, (0, Some x) ∷ []) → m₂.1 ≡ (0, Some y) ∷ [] → IsPrefix (history o) (history y)
  begins o v m₁ m₂ t x y op drew fits took top =
      subst (λ (w : T). IsPrefix (history o) (history w)) (top_is x y m₂.1 (ap (λ (m : M). m.1) took) top) (fits.1 o (ap (λ (m : M). m.0.opening) drew ∙ op)).0

  -- y stands in the slot and is longer than what was taken, so it has one entry more
  pub raises_by : (v : View T E) (m₁ m₂ : M) (x y : T) (count noted : ℕ) → m₁ ≡ (v, (0, Some y) ∷ []) → m₁.0.stage ≡ Has x → m₂ ≡ (caught_up m₁.0 (history x), m₁.1) → fixed y ≡ fixed x
      → IsGrown maker v.number (history x) (history y) → count ≡ length (history y) → count < 2 ^ 64 → noted ≡ length (history x) → (noted ≡ count → ⊥) → Raises history maker fixed m₂
  raises_by v m₁ m₂ x y count noted put has saw same grown long fits noted_is more = ⊎_elim
      (λ e. absurd (more (noted_is ∙ sym (ap length e) ∙ sym long)))
      (λ g. (
        x,
        y,
        g.0,
        ap (λ (m : M). m.0.stage) saw ∙ has,
        ap (λ (m : M). m.1) saw ∙ ap (λ (m : M). m.1) put,
        ap (λ (m : M). m.0.notes.seen) saw,
        same,
        g.2,
        g.1 ∙ sym (ap (λ (m : M). m.0.number) put) ∙ sym (ap (λ (m : M). m.0.number) saw),
        subst (λ n. n < 2 ^ 64) long fits,
      )) grown

  -- y stands in the slot and is no longer than what was taken, so its history is known already
  pub passes_by : (v : View T E) (m₁ m₂ : M) (x y : T) (count noted : ℕ) → m₁ ≡ (v, (0, Some y) ∷ []) → m₁.0.stage ≡ Has x → m₂ ≡ (caught_up m₁.0 (history x), m₁.1) → fixed y ≡ fixed x
      → IsGrown maker v.number (history x) (history y) → count ≡ length (history y) → noted ≡ length (history x) → noted ≡ count → Passes history fixed m₂
  passes_by v m₁ m₂ x y count noted put has saw same grown long noted_is equal = (
    x,
    y,
    ap (λ (m : M). m.0.stage) saw ∙ has,
    ap (λ (m : M). m.1) saw ∙ ap (λ (m : M). m.1) put,
    same,
    ⊎_elim (λ e. e) (λ g. let n : ℕ = length (history x) in let a : noted ≡ n = noted_is in
        let b : count ≡ n + 1 = long ∙ ap length g.2 ∙ length-append (history x) (g.0 ∷ []) in absurd (omega arith)) grown,
  )

  -- what was raised is known
  pub passes_raised : (m₂ m₃ : M) (y : T) → m₂.1 ≡ (0, Some y) ∷ [] → m₃ ≡ (raising m₂.0 y (history y), m₂.1) → Passes history fixed m₃
  passes_raised m₂ m₃ y top raised = (y, y, ap (λ (m : M). m.0.stage) raised, ap (λ (m : M). m.1) raised ∙ top, refl, refl)

  -- what callers see of the value with which a lock closes that was set up with o
  pub record Ends (o : T) (seat : Seat T E) (x : T) : Type 0 where
    pub fixed_is : fixed x ≡ fixed o
    pub begins_with : IsPrefix (history o) (history x)
    pub first : Agrees maker (history o) (history x) (known seat)
    pub joined : (i : ℕ) (d : Known E) → i < length seat.joined → Agrees maker (history o) (history x) (get_or seat.joined i d)
    pub others : (n : ℕ) → seat.made < n → entries_of maker n (behind (history o) (history x)) ≡ []

  agrees_joined : (o x : T) (v : View T E) → Closes history maker fixed o v x → (i : ℕ) (d : Known E) → i < length v.notes.joined → Agrees maker (history o) (history x) (get_or v.notes.joined i d)
  agrees_joined o x v f i d near =
      let g : Known E = get_or v.notes.joined i d in
      let r = f.3 i g (at_index v.notes.joined i g near (again v.notes.joined i d near)) in
      record { seen = r.0; own = r.1 }

  ends : (o x : T) (z : TableId) (me : M) → me.0.number ≡ 0 → Closes history maker fixed o me.0 x → Ends o (seat_of z me) x
  ends o x z me zeroth f = record {
    fixed_is = f.0;
    begins_with = f.1;
    first = record { seen = f.2.0; own = ap (λ n. entries_of maker n (behind (history o) (history x))) zeroth ∙ f.2.1 };
    joined = agrees_joined o x me.0 f;
    others = f.4;
  }

  -- the table is closed: the slot has the value
  pub closing : (o o' : T) (z : TableId) (ws : List ℕ) (xs : List (Option T)) (id : ℕ) (me : M) (seat : Seat T E) (a : Option T) → o ≡ o' → seat_of z me ≡ seat → Rests me.0.stage me.1
      → seat.number ≡ 0 → seat.taken ≡ None → length seat.joined ≡ seat.made → Final (Seen (Turns history maker fixed o) id me.0) ws xs
      → get_elem? xs 0 ≡ some a → (x : T) × (a ≡ Some x) × Ends o' seat x
  closing o o' z ws xs id me seat a same shown rests zeroth idle all fin at =
      let zeroth' : me.0.number ≡ 0 = ap (λ (s : Seat T E). s.number) shown ∙ zeroth in
      let r = closes history maker fixed o ws xs id me.0 (is_free me.0.stage me.1 rests (ap (λ (s : Seat T E). s.taken) shown ∙ idle)) zeroth'
      (ap (λ (s : Seat T E). length s.joined) shown ∙ all ∙ sym (ap (λ (s : Seat T E). s.made) shown)) fin in
      (r.0, some-injective a (Some r.0) (sym at ∙ r.1), subst (λ (q : T × Seat T E). Ends q.0 q.1 r.0) (λ i. (same i, shown i)) (ends o r.0 z me zeroth' r.2))

  pub closing_is : (o : T) (seat : Seat T E) (a : Option T) (y : T) → (x : T) × (a ≡ Some x) × Ends o seat x → a ≡ Some y → Ends o seat y
  closing_is o seat a y r e = subst (λ (w : T). Ends o seat w) (some_is r.0 y (sym r.1 ∙ e)) r.2
