-- The robots' spots as they are kept, and how an event changes them.
use Rattle.std.proofs.Common.{◌≡◌, ◌≢◌, ℕ, zero, suc, ◌<◌, Bool, true, false, cond, not, ◌&&◌, ◌||◌, ◌==◌, inl, inr, refl, sym, ap, ◌∙◌, List, [], ◌∷◌, map, length, set, arith, eq-eqb, Option, Some, None}
use Rattle.std.proofs.lemmas.Bool.{cases_eq, ne_eqb}
use Rattle.std.proofs.lemmas.Option.{same_Some, slice_get-map}
use Rattle.std.specs.Cmp.{nat_cmp_total, unsigned_tied}
use Rattle.std.specs.Prelude.{slice_get}
use Rattle.std.specs.FinSet.{FinSet, contains, contains-insert, contains-remove, insert, remove}
use Rattle.std.specs.Option.{option_map}
use Rattle.std.specs.Ordering.{nat_cmp}
use Rattle.fleet_base.specs.declared.numbers.CellNo.{CellNo}
use Rattle.fleet_base.specs.declared.numbers.ClaimNo.{ClaimNo}
use Rattle.fleet_base.specs.declared.numbers.Event.{Event}
use Rattle.fleet_base.specs.declared.numbers.Kind.TheVariants.{Acquire, Move, Release}
use Rattle.fleet_model.specs.Sites.{Site, has_claim}
use Rattle.fleet_model.specs.Replays.{after_event, after_kind, opening, standing, start_at}
use Rattle.fleet_model.proofs.Tables.{same_test}
use Rattle.plan_events.specs.declared.spots.KeptSpot.{KeptSpot}
use Rattle.plan_events.specs.Spots.{shown, shown_at, spot_of}

module _ {A : Type 0} where
  get-set_same : (xs : List A) (i : ℕ) (x : A) → i < length xs → slice_get (set xs i x) i ≡ Some x
  get-set_same [] i x h = absurd (omega arith)
  get-set_same (y ∷ ys) zero x h = refl
  get-set_same (y ∷ ys) (suc i) x h = get-set_same ys i x (omega arith)

  get-set_other : (xs : List A) (i q : ℕ) (x : A) → q ≢ i → slice_get (set xs i x) q ≡ slice_get xs q
  get-set_other [] i q x h = refl
  get-set_other (y ∷ ys) zero zero x h = absurd (h refl)
  get-set_other (y ∷ ys) zero (suc q) x h = refl
  get-set_other (y ∷ ys) (suc i) zero x h = refl
  get-set_other (y ∷ ys) (suc i) (suc q) x h = get-set_other ys i q x (λ e. h (ap suc e))

-- the spots of robots that stand in their starts
pub stand_in : (site : Site) (spots : List KeptSpot) (starts : List CellNo) → map shown spots ≡ map (standing site) starts → (r : ℕ) → spot_of spots r ≡ opening site starts r
stand_in site spots starts e r =
    go (slice_get spots r) (slice_get starts r) (sym (slice_get-map shown spots r) ∙ (ap (λ ss. slice_get ss r) e ∙ slice_get-map (standing site) starts r))
  where
    go : (o : Option KeptSpot) (p : Option CellNo) → option_map shown o ≡ option_map (standing site) p → shown_at o ≡ start_at site p
    go None None h = refl
    go None (Some a) h = absurd (cc)
    go (Some s) None h = absurd (cc)
    go (Some s) (Some a) h = same_Some (shown s) (standing site a) h

-- a claim that is put into a set of held ones
pub held_put : (held : FinSet nat_cmp) (c d : ClaimNo) → contains (insert held c.0) d.0 ≡ ((c.0 == d.0) || contains held d.0)
held_put held c d = contains-insert nat_cmp_total held c.0 d.0 ∙ ap (λ b. b || contains held d.0) (unsigned_tied d.0 c.0 ∙ same_test d.0 c.0)

-- one that is taken out
pub held_taken : (held : FinSet nat_cmp) (c d : ClaimNo) → contains (remove held c.0) d.0 ≡ (not (c.0 == d.0) && contains held d.0)
held_taken held c d = contains-remove nat_cmp_total held c.0 d.0 ∙ ap (λ b. not b && contains held d.0) (unsigned_tied d.0 c.0 ∙ same_test d.0 c.0)

or_turned : (a b : Bool) → (a || b) ≡ (b || a)
or_turned true true = refl
or_turned true false = refl
or_turned false true = refl
or_turned false false = refl

-- one more claim is held
pub held_more : (held : FinSet nat_cmp) (claims : List ClaimNo) (c d : ClaimNo) → contains held d.0 ≡ has_claim claims d → contains (insert held c.0) d.0 ≡ (has_claim claims d || (c.0 == d.0))
held_more held claims c d e = held_put held c d ∙ (or_turned (c.0 == d.0) (contains held d.0) ∙ ap (λ b. b || (c.0 == d.0)) e)

module _ (spots : List KeptSpot) (e : Event) (s new : KeptSpot) (known : e.robot.0 < length spots) (is : slice_get spots e.robot.0 ≡ Some s) where
  -- where its robot's spot is what the event makes of it, all spots are
  pub changed : shown new ≡ after_kind e.kind (shown s) → (r : ℕ) → spot_of (set spots e.robot.0 new) r ≡ after_event e (spot_of spots) r
  changed h r = elim (cases_eq e.robot.0 r) [
    | inl own ↦
        ap (λ q. spot_of (set spots e.robot.0 new) q) (sym own)
        ∙ (ap shown_at (get-set_same spots e.robot.0 new known)
        ∙ (h
        ∙ (ap (λ o. after_kind e.kind (shown_at o)) (sym is)
        ∙ (ap (λ q. after_kind e.kind (spot_of spots q)) own ∙ ap (λ b. cond b (after_kind e.kind (spot_of spots r)) (spot_of spots r)) (sym (eq-eqb e.robot.0 r own))))))
    | inr other ↦
        ap shown_at (get-set_other spots e.robot.0 r new (λ k. other (sym k)))
        ∙ ap (λ b. cond b (after_kind e.kind (spot_of spots r)) (spot_of spots r)) (sym (ne_eqb e.robot.0 r other))
  ]

  pub acquires : (c : ClaimNo) (held : FinSet nat_cmp) → e.kind ≡ Acquire c → new ≡ record { cell = s.cell; held = held } → held ≡ insert s.held c.0 → (r : ℕ) → spot_of (set spots e.robot.0 new) r ≡ after_event e (spot_of spots) r
  acquires c held kind new_is put =
      let holds : (d : ClaimNo) → contains held d.0 ≡ ((c.0 == d.0) || contains s.held d.0) = λ d. ap (λ k. contains k d.0) put ∙ held_put s.held c d in
      let made : shown (record { cell = s.cell; held = held }) ≡ after_kind (Acquire c) (shown s) = λ i. record { cell = s.cell; holds = λ d. holds d i } in
      changed (ap shown new_is ∙ (made ∙ ap (λ k. after_kind k (shown s)) (sym kind)))

  pub moves : (a b : CellNo) → e.kind ≡ Move a b → new ≡ record { cell = b; held = s.held } → (r : ℕ) → spot_of (set spots e.robot.0 new) r ≡ after_event e (spot_of spots) r
  moves a b kind new_is = changed (ap shown new_is ∙ ap (λ k. after_kind k (shown s)) (sym kind))

  pub releases : (c : ClaimNo) (held : FinSet nat_cmp) → e.kind ≡ Release c → new ≡ record { cell = s.cell; held = held } → held ≡ remove s.held c.0 → (r : ℕ) → spot_of (set spots e.robot.0 new) r ≡ after_event e (spot_of spots) r
  releases c held kind new_is put =
      let holds : (d : ClaimNo) → contains held d.0 ≡ (not (c.0 == d.0) && contains s.held d.0) = λ d. ap (λ k. contains k d.0) put ∙ held_taken s.held c d in
      let made : shown (record { cell = s.cell; held = held }) ≡ after_kind (Release c) (shown s) = λ i. record { cell = s.cell; holds = λ d. holds d i } in
      changed (ap shown new_is ∙ (made ∙ ap (λ k. after_kind k (shown s)) (sym kind)))
