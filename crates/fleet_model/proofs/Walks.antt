-- One robot alone: its steps are legal, and behind each whole step it holds the footprint of its cell.
use Rattle.std.proofs.Common.{◌≡◌, Bool, true, false, cond, not, ◌==◌, ◌||◌, ◌&&◌, refl, sym, ap, ◌∙◌, List, [], ◌∷◌, map, eq-eqb, Option, Some, None}
use Rattle.std.proofs.lemmas.Bool.{both_ways, and_parts, or_left, or_right, not-true, false_from_ne_true}
use Rattle.fleet_base.specs.declared.numbers.CellNo.{CellNo}
use Rattle.fleet_base.specs.declared.numbers.ClaimNo.{ClaimNo}
use Rattle.fleet_base.specs.declared.numbers.Kind.{Kind}
use Rattle.fleet_base.specs.declared.numbers.Kind.TheVariants.{Acquire, Move, Release}
use Rattle.fleet_model.specs.Sites.{footprint_of, Site, IsSite, IsDistinct, has_claim, without, step, steps_from, last_cell}
use Rattle.fleet_model.specs.Replays.{IsStanding, AreSteps, Spot, CanDo, CanDoAll, standing, start_at, after_kind, after_kinds}
use Rattle.fleet_model.proofs.Claims.{footprint_distinct}
use Rattle.fleet_model.proofs.SameNumbers.{same_claim}
use Rattle.fleet_model.proofs.Alone.{CanDoAll-append, after_kinds-append}

-- acquiring these claims
abbrev acquires : List ClaimNo → List Kind
acquires cs = map (λ c. Acquire c) cs

-- releasing these claims
abbrev releases : List ClaimNo → List Kind
releases cs = map (λ c. Release c) cs

or_swapped : (x y z : Bool) → (y || (x || z)) ≡ ((x || y) || z)
or_swapped true true z = refl
or_swapped true false z = refl
or_swapped false true z = refl
or_swapped false false z = refl

acquired : (s : Spot) (cs : List ClaimNo) (d : ClaimNo) → (after_kinds s (acquires cs)).holds d ≡ (has_claim cs d || s.holds d)
acquired s [] d = refl
acquired s (c ∷ cs) d = acquired (after_kind (Acquire c) s) cs d ∙ or_swapped (c.0 == d.0) (has_claim cs d) (s.holds d)

acquired-cell : (s : Spot) (cs : List ClaimNo) → (after_kinds s (acquires cs)).cell ≡ s.cell
acquired-cell s [] = refl
acquired-cell s (c ∷ cs) = acquired-cell (after_kind (Acquire c) s) cs

and_swapped : (x y z : Bool) → (not y && (not x && z)) ≡ (not (x || y) && z)
and_swapped true true z = refl
and_swapped true false z = refl
and_swapped false true z = refl
and_swapped false false z = refl

released : (s : Spot) (cs : List ClaimNo) (d : ClaimNo) → (after_kinds s (releases cs)).holds d ≡ (not (has_claim cs d) && s.holds d)
released s [] d = refl
released s (c ∷ cs) d = released (after_kind (Release c) s) cs d ∙ and_swapped (c.0 == d.0) (has_claim cs d) (s.holds d)

released-cell : (s : Spot) (cs : List ClaimNo) → (after_kinds s (releases cs)).cell ≡ s.cell
released-cell s [] = refl
released-cell s (c ∷ cs) = released-cell (after_kind (Release c) s) cs

-- a claim of the rest is not the first
other : (c d : ClaimNo) (cs : List ClaimNo) → has_claim cs c ≡ false → has_claim cs d ≡ true → (c.0 == d.0) ≡ false
other c d cs h g = false_from_ne_true (c.0 == d.0) (λ e. both_ways (has_claim cs d) (rw (same_claim c d e) at h) g)

-- a list has its first claim
has_first : (c : ClaimNo) (cs : List ClaimNo) → has_claim (c ∷ cs) c ≡ true
has_first c cs = or_left (c.0 == c.0) (has_claim cs c) (eq-eqb c.0 c.0 refl)

-- a robot can acquire claims that it does not hold
can_acquire : (site : Site) (s : Spot) (cs : List ClaimNo) → IsDistinct cs → ((d : ClaimNo) → has_claim cs d ≡ true → s.holds d ≡ false) → CanDoAll site s (acquires cs)
can_acquire site s [] h g = tt
can_acquire site s (c ∷ cs) h g =
    (g c (has_first c cs), can_acquire site (after_kind (Acquire c) s) cs h.1 (λ d m. rw (other c d cs h.0 m) (g d (or_right (c.0 == d.0) (has_claim cs d) m))))

-- a robot can release claims that it holds
can_release : (site : Site) (s : Spot) (cs : List ClaimNo) → IsDistinct cs → ((d : ClaimNo) → has_claim cs d ≡ true → s.holds d ≡ true) → CanDoAll site s (releases cs)
can_release site s [] h g = tt
can_release site s (c ∷ cs) h g =
    (g c (has_first c cs), can_release site (after_kind (Release c) s) cs h.1 (λ d m. rw (other c d cs h.0 m) (g d (or_right (c.0 == d.0) (has_claim cs d) m))))

dropped : (e p q : Bool) → (e ≡ true → q ≡ true) → (p && not q) ≡ ((e || p) && not q)
dropped false p q f = refl
dropped true true true f = refl
dropped true false true f = refl
dropped true p false f = absurd (both_ways false refl (f refl))

stayed : (e p q : Bool) → (e ≡ true → q ≡ false) → (e || (p && not q)) ≡ ((e || p) && not q)
stayed false p q f = refl
stayed true p false f = refl
stayed true p true f = absurd (both_ways true (f refl) refl)

without_step : (x d : ClaimNo) (xs ys : List ClaimNo) (b : Bool) → has_claim ys x ≡ b → has_claim (without xs ys) d ≡ (has_claim xs d && not (has_claim ys d))
    → has_claim (cond (not b) (x ∷ without xs ys) (without xs ys)) d ≡ (((x.0 == d.0) || has_claim xs d) && not (has_claim ys d))
without_step x d xs ys true h ih = ih ∙ dropped (x.0 == d.0) (has_claim xs d) (has_claim ys d) (λ e. rw (same_claim x d e) at h)
without_step x d xs ys false h ih = ap (λ t. (x.0 == d.0) || t) ih ∙ stayed (x.0 == d.0) (has_claim xs d) (has_claim ys d) (λ e. rw (same_claim x d e) at h)

pub has_claim-without : (xs ys : List ClaimNo) (d : ClaimNo) → has_claim (without xs ys) d ≡ (has_claim xs d && not (has_claim ys d))
has_claim-without [] ys d = refl
has_claim-without (x ∷ xs) ys d = without_step x d xs ys (has_claim ys x) refl (has_claim-without xs ys d)

-- with or without one more claim that is not among them no claim comes twice
distinct_step : (x : ClaimNo) (zs : List ClaimNo) (b : Bool) → has_claim zs x ≡ false → IsDistinct zs → IsDistinct (cond b (x ∷ zs) zs)
distinct_step x zs true h g = (h, g)
distinct_step x zs false h g = g

-- what is left of a list that names no claim twice names none twice
IsDistinct-without : (xs ys : List ClaimNo) → IsDistinct xs → IsDistinct (without xs ys)
IsDistinct-without [] ys h = tt
IsDistinct-without (x ∷ xs) ys h = distinct_step x (without xs ys) (not (has_claim ys x)) (rw (has_claim-without xs ys x, h.0) refl) (IsDistinct-without xs ys h.1)

-- what a step leaves: y, from x at its start
step_leaves : (x y : Bool) → (not (x && not y) && ((y && not x) || x)) ≡ y
step_leaves true true = refl
step_leaves true false = refl
step_leaves false true = refl
step_leaves false false = refl

-- what was held stays held when more is acquired
keeps_old : (x y : Bool) → x ≡ true → ((y && not x) || x) ≡ true
keeps_old x y h = or_right (y && not x) x h

-- what is acquired is held
gets_new : (x y : Bool) → y ≡ true → ((y && not x) || x) ≡ true
gets_new true y h = or_right (y && false) true refl
gets_new false true h = refl
gets_new false false h = h

-- what is acquired was not held
unheld : (x y : Bool) → (y && not x) ≡ true → x ≡ false
unheld x y h = not-true x (and_parts y (not x) h).1

module _ (site : Site) (is_site : IsSite site) where
  -- a step is legal for a robot alone, and takes it from one footprint to the next
  pub step_stands : (s : Spot) (a b : CellNo) → IsStanding site s a → CanDoAll site s (step site a b) × IsStanding site (after_kinds s (step site a b)) b
  step_stands s a b h = (CanDoAll-append site s (acquires new) (Move a b ∷ releases old) taken (moved, given), record { cell = ap (λ (t : Spot). t.cell) whole ∙ released-cell (after_kind (Move a b) s1) old; holds = λ d. ap (λ (t : Spot). t.holds d) whole ∙ (released (after_kind (Move a b) s1) old d ∙ left d) })
    where
      new : List ClaimNo
      new = without (footprint_of site b) (footprint_of site a)

      old : List ClaimNo
      old = without (footprint_of site a) (footprint_of site b)

      s1 : Spot
      s1 = after_kinds s (acquires new)

      holds1 : (d : ClaimNo) → s1.holds d ≡ ((has_claim (footprint_of site b) d && not (has_claim (footprint_of site a) d)) || has_claim (footprint_of site a) d)
      holds1 d = acquired s new d ∙ rw (has_claim-without (footprint_of site b) (footprint_of site a) d, h.holds d) refl

      taken : CanDoAll site s (acquires new)
      taken = can_acquire site s new (IsDistinct-without (footprint_of site b) (footprint_of site a) (footprint_distinct site is_site b)) (λ d m. h.holds d ∙ unheld (has_claim (footprint_of site a) d) (has_claim (footprint_of site b) d) (sym (has_claim-without (footprint_of site b) (footprint_of site a) d) ∙ m))

      moved : CanDo site s1 (Move a b)
      moved = (acquired-cell s new ∙ h.cell, λ c m. holds1 c ∙ keeps_old (has_claim (footprint_of site a) c) (has_claim (footprint_of site b) c) m, λ c m. holds1 c ∙ gets_new (has_claim (footprint_of site a) c) (has_claim (footprint_of site b) c) m)

      given : CanDoAll site (after_kind (Move a b) s1) (releases old)
      given = can_release site (after_kind (Move a b) s1) old (IsDistinct-without (footprint_of site a) (footprint_of site b) (footprint_distinct site is_site a)) (λ d m. holds1 d ∙ keeps_old (has_claim (footprint_of site a) d) (has_claim (footprint_of site b) d) (and_parts (has_claim (footprint_of site a) d) (not (has_claim (footprint_of site b) d)) (sym (has_claim-without (footprint_of site a) (footprint_of site b) d) ∙ m)).0)

      whole : after_kinds s (step site a b) ≡ after_kinds (after_kind (Move a b) s1) (releases old)
      whole = after_kinds-append s (acquires new) (Move a b ∷ releases old)

      left : (d : ClaimNo) → (not (has_claim old d) && s1.holds d) ≡ has_claim (footprint_of site b) d
      left d = rw (has_claim-without (footprint_of site a) (footprint_of site b) d, holds1 d) (step_leaves (has_claim (footprint_of site a) d) (has_claim (footprint_of site b) d))

  -- a walk is legal for a robot alone, and takes it to the last cell with that footprint
  pub steps_stand : (s : Spot) (a : CellNo) (bs : List CellNo) → IsStanding site s a → CanDoAll site s (steps_from site a bs) × IsStanding site (after_kinds s (steps_from site a bs)) (last_cell a bs)
  steps_stand s a [] h = (tt, h)
  steps_stand s a (b ∷ bs) h =
      let one = step_stands s a b h in
      let more = steps_stand (after_kinds s (step site a b)) b bs one.1 in
      (CanDoAll-append site s (step site a b) (steps_from site b bs) one.0 more.0, rw (after_kinds-append s (step site a b) (steps_from site b bs)) more.1)

  -- a robot that stands in a cell with its footprint stands there
  pub start_stands : (a : CellNo) → IsStanding site (standing site a) a
  start_stands a = record { cell = refl; holds = λ d. refl }

  -- a robot can do what it is planned to do from its start
  pub walk_able : (o : Option CellNo) (ks : List Kind) → AreSteps site o ks → CanDoAll site (start_at site o) ks
  walk_able None ks h = rw h tt
  walk_able (Some a) ks h = rw h.2 (steps_stand (standing site a) a h.0 (start_stands a)).0

  -- at its end a robot holds nothing but the footprint of its cell
  pub walk_holds : (o : Option CellNo) (ks : List Kind) → AreSteps site o ks → (d : ClaimNo) → (after_kinds (start_at site o) ks).holds d ≡ true → has_claim (footprint_of site (after_kinds (start_at site o) ks).cell) d ≡ true
  walk_holds None ks h d held = absurd (both_ways false refl (rw h at held))
  walk_holds (Some a) ks h d held =
      let stands : IsStanding site (after_kinds (standing site a) ks) (last_cell a h.0) = rw h.2 (steps_stand (standing site a) a h.0 (start_stands a)).1 in
      rw stands.cell (sym (stands.holds d) ∙ held)

  -- behind its walk a robot stands in its cell with that footprint
  pub walk_stands : (a : CellNo) (ks : List Kind) → AreSteps site (Some a) ks → IsStanding site (after_kinds (standing site a) ks) (after_kinds (standing site a) ks).cell
  walk_stands a ks h =
      let stands : IsStanding site (after_kinds (standing site a) ks) (last_cell a h.0) = rw h.2 (steps_stand (standing site a) a h.0 (start_stands a)).1 in
      record { cell = refl; holds = λ d. rw stands.cell (stands.holds d) }
