-- Which events stand behind which, claim by claim.
use Rattle.std.proofs.Common.{◌≡◌, ℕ, ◌+◌, ◌<◌, ◌≤◌, ◌==◌, Bool, true, false, not, ◌||◌, ◌⊎◌, inl, inr, refl, sym, ap, ◌∙◌, subst, List, [], ◌∷◌, arith, Option, Some, None, length, get_or}
use Rattle.std.specs.Prelude.{slice_get, nat_le}
use Rattle.std.specs.Option.{option_map}
use Rattle.std.proofs.lemmas.Bool.{both_ways, eqb-true, and_parts, cases_lt, leb-true, leb-false, le-leb, or_left, or_right, or_from, false_from_ne_true}
use Rattle.std.proofs.lemmas.Option.{none-some, same_Some, slice_get_within, slice_get-get_or}
use Rattle.fleet_base.specs.declared.numbers.ClaimGroup.{ClaimGroup}
use Rattle.fleet_base.specs.declared.numbers.ClaimNo.{ClaimNo}
use Rattle.fleet_base.specs.declared.numbers.Event.{Event}
use Rattle.fleet_base.specs.declared.numbers.EventNo.{EventNo}
use Rattle.fleet_base.specs.declared.numbers.Kind.TheVariants.{Acquire, Release}
use Rattle.fleet_model.specs.Lists.{In, here, there}
use Rattle.fleet_model.specs.Sites.{exclude, in_conflict}
use Rattle.fleet_model.specs.Plans.{is_awaited, after, latest}
use Rattle.fleet_model.proofs.Claims.{conflict_symmetric}
use Rattle.fleet_model.proofs.Leasts.{least_none, least_in, least_first}
use Rattle.fleet_model.proofs.LeastMerge.{awaited_parts}
use Rattle.fleet_model.proofs.Lists.{In-nil, In-filter, In_unfilter, In_either}
use Rattle.fleet_model.proofs.Good.{awaited_less}
use Rattle.event_graph.specs.declared.reach.Reach.{Reach}
use Rattle.event_graph.specs.Graphs.{greatest_after, has_waiting}
use Rattle.event_graph.specs.Reaches.{IsReached}
use Rattle.event_graph.specs.Stores.{claim_key, claim_of, IsBehindIn, IsInFrontIn, HasNone, HasOne, IsGreatest, IsLater}

one_acquire : (c d : ClaimNo) → Acquire c ≡ Acquire d → c ≡ d
one_acquire c d h = cc

one_release : (c d : ClaimNo) → Release c ≡ Release d → c ≡ d
one_release c d h = cc

module _ (groups : List ClaimGroup) (c : ℕ) (e : Event) where
  -- what e stands behind among the releases of a claim is in the claim's chain
  pub behind_key : (f : Event) → IsBehindIn groups c (c + 1) e f → claim_key (Some f) ≡ Some c
  behind_key f h = ap claim_of h.kind ∙ ap (λ n. Some n) (let a = h.above in let b = h.below in let q : h.claim.0 ≡ c = omega arith in q)

  pub behind_below : (f : Event) → IsBehindIn groups c (c + 1) e f → f.no.0 < e.no.0
  behind_below f h = awaited_less groups e f h.awaited

  pub behind_at : (f : Event) → is_awaited groups e f ≡ true → claim_key (Some f) ≡ Some c → IsBehindIn groups c (c + 1) e f
  behind_at f h k =
      let p = awaited_parts groups e f h in
      let q : p.1.given.0 ≡ c = same_Some p.1.given.0 c (sym (ap claim_of p.1.gives) ∙ k) in
      record { awaited = h; claim = p.1.given; kind = p.1.gives; above = omega arith; below = omega arith }

  -- what stands behind e among the acquires of a claim is in the claim's chain
  pub front_key : (f : Event) → IsInFrontIn groups c (c + 1) e f → claim_key (Some f) ≡ Some c
  front_key f h = ap claim_of h.kind ∙ ap (λ n. Some n) (let a = h.above in let b = h.below in let q : h.claim.0 ≡ c = omega arith in q)

  pub front_above : (f : Event) → IsInFrontIn groups c (c + 1) e f → e.no.0 < f.no.0
  front_above f h = awaited_less groups f e h.awaited

  pub front_at : (f : Event) → is_awaited groups f e ≡ true → claim_key (Some f) ≡ Some c → IsInFrontIn groups c (c + 1) e f
  front_at f h k =
      let p = awaited_parts groups f e h in
      let q : p.1.taken.0 ≡ c = same_Some p.1.taken.0 c (sym (ap claim_of p.1.takes) ∙ k) in
      record { awaited = h; claim = p.1.taken; kind = p.1.takes; above = omega arith; below = omega arith }

-- claims in conflict have groups of one number
same_group : (groups : List ClaimGroup) (c d : ClaimNo) → in_conflict groups c d ≡ true → (g h : ClaimGroup) × (slice_get groups c.0 ≡ Some g) × (slice_get groups d.0 ≡ Some h) × (h.group ≡ g.group)
unfolding in_conflict
same_group groups c d k = by_groups (slice_get groups c.0) (slice_get groups d.0) refl refl k
  where
    by_groups : (o p : Option ClaimGroup) → slice_get groups c.0 ≡ o → slice_get groups d.0 ≡ p → exclude o p (c.0 == d.0) ≡ true → (g h : ClaimGroup) × (slice_get groups c.0 ≡ Some g) × (slice_get groups d.0 ≡ Some h) × (h.group ≡ g.group)
    by_groups None p a b x = absurd (both_ways false refl x)
    by_groups (Some g) None a b x = absurd (both_ways false refl x)
    by_groups (Some g) (Some h) a b x = (g, h, a, b, sym (eqb-true g.group h.group (and_parts (g.group == h.group) (not (c.0 == d.0) || g.alone) x).0))

module _ (groups : List ClaimGroup) (reaches : List Reach) (reached : IsReached groups reaches) where
  -- a claim in conflict is within the reach
  pub reached_conflict : (c d : ClaimNo) (reach : Reach) → slice_get reaches c.0 ≡ Some reach → in_conflict groups c d ≡ true → (reach.first ≤ d.0) × (d.0 < reach.end)
  reached_conflict c d reach at k = let s = same_group groups c d k in (reached.within c.0 s.0 reach s.2 at).0 d.0 s.1 s.3 s.4

  -- a claim without a reach has no conflict
  pub unreached : (c d : ClaimNo) → slice_get reaches c.0 ≡ None → in_conflict groups c d ≡ true → ⊥
  unreached c d at k =
      let s = same_group groups c d k in
      let within = slice_get_within groups c.0 s.0 s.2 in
      none-some (get_or reaches c.0 (record { first = 0; end = 0 })) (sym at ∙ slice_get-get_or reaches c.0 (record { first = 0; end = 0 }) (let a = reached.long in omega arith))

  -- the claims of a reach are claims
  pub reach_end : (c : ClaimNo) (reach : Reach) → slice_get reaches c.0 ≡ Some reach → reach.end ≤ length groups
  reach_end c reach at =
      let within = slice_get_within reaches c.0 reach at in
      let blank : ClaimGroup = record { group = 0; alone = true } in
      (reached.within c.0 (get_or groups c.0 blank) reach (slice_get-get_or groups c.0 blank (let a = reached.long in omega arith)) at).1

  -- what an acquire stands behind is within the reach of its claim
  pub behind_reach : (e f : Event) (c : ClaimNo) (reach : Reach) → e.kind ≡ Acquire c → slice_get reaches c.0 ≡ Some reach → is_awaited groups e f ≡ true → IsBehindIn groups reach.first reach.end e f
  behind_reach e f c reach kind at h =
      let p = awaited_parts groups e f h in
      let same : p.1.taken ≡ c = one_acquire p.1.taken c (sym p.1.takes ∙ kind) in
      let w = reached_conflict c p.1.given reach at (subst (λ d. in_conflict groups d p.1.given ≡ true) same p.1.conflict) in
      record { awaited = h; claim = p.1.given; kind = p.1.gives; above = w.0; below = w.1 }

  pub behind_unreached : (e f : Event) (c : ClaimNo) → e.kind ≡ Acquire c → slice_get reaches c.0 ≡ None → is_awaited groups e f ≡ true → ⊥
  behind_unreached e f c kind at h =
      let p = awaited_parts groups e f h in
      unreached c p.1.given at (subst (λ d. in_conflict groups d p.1.given ≡ true) (one_acquire p.1.taken c (sym p.1.takes ∙ kind)) p.1.conflict)

  -- what stands behind a release is within the reach of its claim
  pub front_reach : (e f : Event) (c : ClaimNo) (reach : Reach) → f.kind ≡ Release c → slice_get reaches c.0 ≡ Some reach → is_awaited groups e f ≡ true → IsInFrontIn groups reach.first reach.end f e
  front_reach e f c reach kind at h =
      let p = awaited_parts groups e f h in
      let same : p.1.given ≡ c = one_release p.1.given c (sym p.1.gives ∙ kind) in
      let w = reached_conflict c p.1.taken reach at (conflict_symmetric groups p.1.taken c (subst (λ d. in_conflict groups p.1.taken d ≡ true) same p.1.conflict)) in
      record { awaited = h; claim = p.1.taken; kind = p.1.takes; above = w.0; below = w.1 }

  pub front_unreached : (e f : Event) (c : ClaimNo) → f.kind ≡ Release c → slice_get reaches c.0 ≡ None → is_awaited groups e f ≡ true → ⊥
  front_unreached e f c kind at h =
      let p = awaited_parts groups e f h in
      unreached c p.1.taken at (conflict_symmetric groups p.1.taken c (subst (λ d. in_conflict groups p.1.taken d ≡ true) (one_release p.1.given c (sym p.1.gives ∙ kind)) p.1.conflict))

module _ (groups : List ClaimGroup) (e : Event) (events : List Event) (first claim : ℕ) (low : first ≤ claim) where
  -- one claim more
  behind_parts : (f : Event) → IsBehindIn groups first (claim + 1) e f → IsBehindIn groups first claim e f ⊎ IsBehindIn groups claim (claim + 1) e f
  behind_parts f h = elim (cases_lt h.claim.0 claim) [
    | inl l ↦ inl (record { awaited = h.awaited; claim = h.claim; kind = h.kind; above = h.above; below = l })
    | inr g ↦ inr (record { awaited = h.awaited; claim = h.claim; kind = h.kind; above = g; below = h.below })
  ]

  front_parts : (f : Event) → IsInFrontIn groups first (claim + 1) e f → IsInFrontIn groups first claim e f ⊎ IsInFrontIn groups claim (claim + 1) e f
  front_parts f h = elim (cases_lt h.claim.0 claim) [
    | inl l ↦ inl (record { awaited = h.awaited; claim = h.claim; kind = h.kind; above = h.above; below = l })
    | inr g ↦ inr (record { awaited = h.awaited; claim = h.claim; kind = h.kind; above = g; below = h.below })
  ]

  pub behind_more : HasNone (IsBehindIn groups first claim e) events → HasNone (IsBehindIn groups claim (claim + 1) e) events → HasNone (IsBehindIn groups first (claim + 1) e) events
  behind_more a b = λ f m h. elim (behind_parts f h) [ inl x ↦ a f m x | inr x ↦ b f m x ]

  pub front_more : HasNone (IsInFrontIn groups first claim e) events → HasNone (IsInFrontIn groups claim (claim + 1) e) events → HasNone (IsInFrontIn groups first (claim + 1) e) events
  front_more a b = λ f m h. elim (front_parts f h) [ inl x ↦ a f m x | inr x ↦ b f m x ]

  wide : (f : Event) → IsBehindIn groups claim (claim + 1) e f → IsBehindIn groups first (claim + 1) e f
  wide f h = record { awaited = h.awaited; claim = h.claim; kind = h.kind; above = (let a = h.above in omega arith); below = h.below }

  long : (f : Event) → IsBehindIn groups first claim e f → IsBehindIn groups first (claim + 1) e f
  long f h = record { awaited = h.awaited; claim = h.claim; kind = h.kind; above = h.above; below = (let a = h.below in omega arith) }

  -- the greatest number, by one claim more
  pub greatest_more : (o p q : Option EventNo) → IsGreatest (IsBehindIn groups first claim e) events o → IsGreatest (IsBehindIn groups claim (claim + 1) e) events p → IsLater o p q → IsGreatest (IsBehindIn groups first (claim + 1) e) events q
  greatest_more None None q a b is = subst (λ x. IsGreatest (IsBehindIn groups first (claim + 1) e) events x) (sym is) (behind_more a b)
  greatest_more None (Some n) q a b is = subst (λ x. IsGreatest (IsBehindIn groups first (claim + 1) e) events x) (sym is)
      ((b.0.0, b.0.1, wide b.0.0 b.0.2, b.0.3), λ f m h. elim (behind_parts f h) [ inl x ↦ absurd (a f m x) | inr x ↦ b.1 f m x ])
  greatest_more (Some n) None q a b is = subst (λ x. IsGreatest (IsBehindIn groups first (claim + 1) e) events x) (sym is)
      ((a.0.0, a.0.1, long a.0.0 a.0.2, a.0.3), λ f m h. elim (behind_parts f h) [ inl x ↦ a.1 f m x | inr x ↦ absurd (b f m x) ])
  greatest_more (Some n) (Some m) q a b (inl is) = subst (λ x. IsGreatest (IsBehindIn groups first (claim + 1) e) events x) (sym is.0)
      ((a.0.0, a.0.1, long a.0.0 a.0.2, a.0.3), λ f i h. elim (behind_parts f h) [ inl x ↦ a.1 f i x | inr x ↦ (let c = b.1 f i x in let d = is.1 in omega arith) ])
  greatest_more (Some n) (Some m) q a b (inr is) = subst (λ x. IsGreatest (IsBehindIn groups first (claim + 1) e) events x) (sym is.0)
      ((b.0.0, b.0.1, wide b.0.0 b.0.2, b.0.3), λ f i h. elim (behind_parts f h) [ inl x ↦ (let c = a.1 f i x in let d = is.1 in omega arith) | inr x ↦ b.1 f i x ])

-- a wider range
pub behind_wide : (groups : List ClaimGroup) (first end more : ℕ) (e f : Event) → end ≤ more → IsBehindIn groups first end e f → IsBehindIn groups first more e f
behind_wide groups first end more e f l h = record { awaited = h.awaited; claim = h.claim; kind = h.kind; above = h.above; below = (let a = h.below in omega arith) }

pub front_wide : (groups : List ClaimGroup) (first end more : ℕ) (e f : Event) → end ≤ more → IsInFrontIn groups first end e f → IsInFrontIn groups first more e f
front_wide groups first end more e f l h = record { awaited = h.awaited; claim = h.claim; kind = h.kind; above = h.above; below = (let a = h.below in omega arith) }

-- no claim is in an empty range
pub behind_empty : (groups : List ClaimGroup) (n : ℕ) (e f : Event) → IsBehindIn groups n n e f → ⊥
behind_empty groups n e f h = let a = h.above in let b = h.below in omega arith

pub front_empty : (groups : List ClaimGroup) (n : ℕ) (e f : Event) → IsInFrontIn groups n n e f → ⊥
front_empty groups n e f h = let a = h.above in let b = h.below in omega arith

-- no acquire, nothing stands behind
pub only_acquires : (groups : List ClaimGroup) (e f : Event) → ((c : ClaimNo) → e.kind ≡ Acquire c → ⊥) → is_awaited groups e f ≡ true → ⊥
only_acquires groups e f none h = let p = awaited_parts groups e f h in none p.1.taken p.1.takes

-- no release, nothing stands behind it
pub only_releases : (groups : List ClaimGroup) (e f : Event) → ((c : ClaimNo) → f.kind ≡ Release c → ⊥) → is_awaited groups e f ≡ true → ⊥
only_releases groups e f none h = let p = awaited_parts groups e f h in none p.1.given p.1.gives

-- the greatest number of those that e stands behind
pub greatest_is : (groups : List ClaimGroup) (e : Event) (events : List Event) (P : Event → Type 0) (o : Option EventNo) → ((f : Event) → P f → is_awaited groups e f ≡ true) → ((f : Event) → is_awaited groups e f ≡ true → P f) → IsGreatest P events o → o ≡ greatest_after groups events e
greatest_is groups e events P o sound full best = by_latest (latest (after groups events e)) refl o best
  where
    upto : Event → Event → Bool
    upto x y = nat_le y.no.0 x.no.0

    by_latest : (l : Option Event) → latest (after groups events e) ≡ l → (o : Option EventNo) → IsGreatest P events o → o ≡ greatest_after groups events e
    by_latest None is None best = sym (ap (λ (x : Option Event). option_map (λ (f : Event). f.no) x) is)
    by_latest None is (Some n) best =
        absurd (In-nil (subst (λ es. In best.0.0 es) (least_none (λ (x y : Event). nat_le y.no.0 x.no.0) (after groups events e) is) (In-filter (is_awaited groups e) events best.0.1 (sound best.0.0 best.0.2))))
    by_latest (Some f) is None best =
        let m = In_unfilter (is_awaited groups e) events (least_in (λ (x y : Event). nat_le y.no.0 x.no.0) (after groups events e) f is) in absurd (best f m.0 (full f m.1))
    by_latest (Some f) is (Some n) best =
        ap (λ (x : EventNo). Some x) (same n f.no (omega (arith, upper, lower, ap (λ (x : EventNo). x.0) best.0.3))) ∙ sym (ap (λ (x : Option Event). option_map (λ (y : Event). y.no) x) is)
      where
        m : In f events × (is_awaited groups e f ≡ true)
        m = In_unfilter (is_awaited groups e) events (least_in (λ (x y : Event). nat_le y.no.0 x.no.0) (after groups events e) f is)

        upper : f.no.0 ≤ n.0
        upper = best.1 f m.0 (full f m.1)

        lower : best.0.0.no.0 ≤ f.no.0
        lower = leb-true best.0.0.no.0 f.no.0 (least_first (λ (x y : Event). nat_le y.no.0 x.no.0) (λ x y h. le-leb x.no.0 y.no.0 (let a = leb-false y.no.0 x.no.0 h in omega arith)) (λ x. le-leb x.no.0 x.no.0 (omega arith)) (λ x y z h k. le-leb z.no.0 x.no.0 (let a = leb-true y.no.0 x.no.0 h in let b = leb-true z.no.0 y.no.0 k in omega arith))
            (after groups events e) f best.0.0 is (In-filter (is_awaited groups e) events best.0.1 (sound best.0.0 best.0.2)))

        same : (x y : EventNo) → x.0 ≡ y.0 → x ≡ y
        same x y h = ap (λ k. let z : EventNo = record { 0 = k } in z) h

-- nothing is awaited
pub greatest_none : (groups : List ClaimGroup) (e : Event) (events : List Event) → ((f : Event) → is_awaited groups e f ≡ true → ⊥) → None ≡ greatest_after groups events e
greatest_none groups e events none = greatest_is groups e events (λ f. is_awaited groups e f ≡ true) None (λ f h. h) (λ f h. h) (λ f m h. none f h)

-- whether something stands behind f
pub waiting_from : (groups : List ClaimGroup) (f : Event) (events : List Event) → HasOne (λ e. is_awaited groups e f ≡ true) events → true ≡ has_waiting groups events f
waiting_from groups f events h = sym (any_of events h.1)
  where
    any_of : (es : List Event) → In h.0 es → has_waiting groups es f ≡ true
    any_of [] m = absurd (elim m [ ])
    any_of (e ∷ es) m = In_either m (λ q. or_left (is_awaited groups e f) (has_waiting groups es f) (subst (λ (x : Event). is_awaited groups x f ≡ true) q h.2)) (λ k. or_right (is_awaited groups e f) (has_waiting groups es f) (any_of es k))

pub waiting_none : (groups : List ClaimGroup) (f : Event) (events : List Event) → ((e : Event) → In e events → is_awaited groups e f ≡ true → ⊥) → false ≡ has_waiting groups events f
waiting_none groups f [] none = refl
waiting_none groups f (e ∷ es) none = sym (or_from (is_awaited groups e f) (has_waiting groups es f) (false_from_ne_true (is_awaited groups e f) (none e (here refl))) (sym (waiting_none groups f es (λ x m. none x (there m)))))
