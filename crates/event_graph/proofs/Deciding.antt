-- The conditions of the calls, as tests that compute.
use Rattle.std.proofs.Common.{◌≡◌, ℕ, Bool, true, false, not, ◌&&◌, ◌||◌, ◌==◌, inl, inr, refl, sym, ap, ◌∙◌, subst, List, [], ◌∷◌, ◌++◌, length, arith, eq-eqb, Option, Some, None}
use Rattle.std.specs.Prelude.{nat_lt, nat_le}
use Rattle.std.specs.List.{list_any, list_all}
use Rattle.std.proofs.lemmas.Bool.{both_ways, eqb-true, ltb-true, lt-ltb, leb-true, not-true, and_parts, and_from, or_cases, or_left, or_right, false_from_ne_true}
use Rattle.fleet_base.specs.declared.numbers.ClaimGroup.{ClaimGroup}
use Rattle.fleet_base.specs.declared.numbers.ClaimNo.{ClaimNo}
use Rattle.fleet_base.specs.declared.numbers.Event.{Event}
use Rattle.fleet_base.specs.declared.numbers.EventNo.{EventNo}
use Rattle.fleet_base.specs.declared.numbers.Kind.{Kind}
use Rattle.fleet_base.specs.declared.numbers.Kind.TheVariants.{Acquire, Move, Release}
use Rattle.fleet_model.specs.Lists.{In, here, there}
use Rattle.fleet_model.specs.Sites.{in_conflict}
use Rattle.fleet_model.specs.Plans.{numbered, is_awaited, IsBehind}
use Rattle.fleet_model.proofs.SameNumbers.{same_claim}
use Rattle.fleet_model.proofs.Tests.{any_In, In_any}
use Rattle.event_graph.specs.Graphs.{Acquires, AreApart, IsKnown, HasNumber, HasReady, IsUnawaited, tail_of}
use Rattle.event_graph.proofs.Changes.{ready_from}

abbrev acquires : ClaimNo → Kind → Bool
acquires d (Acquire c) = c.0 == d.0
acquires d (Move a b) = false
acquires d (Release c) = false

acquire_is : (d : ClaimNo) (k : Kind) → acquires d k ≡ true → k ≡ Acquire d
acquire_is d (Acquire c) h = ap (λ x. Acquire x) (same_claim c d h)
acquire_is d (Move a b) h = absurd (both_ways false refl h)
acquire_is d (Release c) h = absurd (both_ways false refl h)

-- the claim that is released
abbrev released : Kind → Option ClaimNo
released (Acquire c) = None
released (Move a b) = None
released (Release c) = Some c

-- an acquire of claim d by the robot of g stands between f and g
abbrev is_between : Event → Event → ClaimNo → Event → Bool
is_between f g d e = (e.robot.0 == g.robot.0) && (acquires d e.kind && (nat_lt f.no.0 e.no.0 && nat_lt e.no.0 g.no.0))

-- f and g, which release these claims, are apart
abbrev pair_apart : List ClaimGroup → List Event → Event → Event → Option ClaimNo → Option ClaimNo → Bool
pair_apart groups events f g None o = true
pair_apart groups events f g (Some c) None = true
pair_apart groups events f g (Some c) (Some d) = (f.robot.0 == g.robot.0) || (not (in_conflict groups c d) || (nat_le g.no.0 f.no.0 || list_any (is_between f g d) events))

abbrev pub are_apart : List ClaimGroup → List Event → Bool
are_apart groups events = list_all (λ f. list_all (λ g. pair_apart groups events f g (released f.kind) (released g.kind)) events) events

all_at : (p : Event → Bool) (xs : List Event) (x : Event) → In x xs → list_all p xs ≡ true → p x ≡ true
all_at p [] x i h = elim i [ ]
all_at p (y ∷ ys) x (here e) h = ap p e ∙ (and_parts (p y) (list_all p ys) h).0
all_at p (y ∷ ys) x (there i) h = all_at p ys x i (and_parts (p y) (list_all p ys) h).1

-- where the test passes the releases are apart
pub apart_from : (groups : List ClaimGroup) (events : List Event) → are_apart groups events ≡ true → AreApart groups events
apart_from groups events h f g c d i j ne kf kg conflict l = elim (or_cases (f.robot.0 == g.robot.0) (not (in_conflict groups c d) || (nat_le g.no.0 f.no.0 || list_any (is_between f g d) events)) passes) [
  | inl t ↦ absurd (ne (eqb-true f.robot.0 g.robot.0 t))
  | inr rest ↦ (elim (or_cases (not (in_conflict groups c d)) (nat_le g.no.0 f.no.0 || list_any (is_between f g d) events) rest) [
    | inl n ↦ absurd (both_ways (in_conflict groups c d) (not-true (in_conflict groups c d) n) conflict)
    | inr more ↦ (elim (or_cases (nat_le g.no.0 f.no.0) (list_any (is_between f g d) events) more) [
      | inl b ↦ (let k = leb-true g.no.0 f.no.0 b in absurd (omega arith))
      | inr a ↦ found (any_In (is_between f g d) events a)
    ])
  ])
]
  where
    passes : ((f.robot.0 == g.robot.0) || (not (in_conflict groups c d) || (nat_le g.no.0 f.no.0 || list_any (is_between f g d) events))) ≡ true
    passes =
        let t = all_at (λ y. pair_apart groups events f y (released f.kind) (released y.kind)) events g j (all_at (λ x. list_all (λ y. pair_apart groups events x y (released x.kind) (released y.kind)) events) events f i h) in
        subst (λ k. pair_apart groups events f g (Some c) (released k) ≡ true) kg (subst (λ k. pair_apart groups events f g (released k) (released g.kind) ≡ true) kf t)

    found : (e : Event) × In e events × (is_between f g d e ≡ true) → Acquires events g.robot.0 d f.no.0 g.no.0
    found (e, m, t) =
        let p = and_parts (e.robot.0 == g.robot.0) (acquires d e.kind && (nat_lt f.no.0 e.no.0 && nat_lt e.no.0 g.no.0)) t in
        let q = and_parts (acquires d e.kind) (nat_lt f.no.0 e.no.0 && nat_lt e.no.0 g.no.0) p.1 in
        let r = and_parts (nat_lt f.no.0 e.no.0) (nat_lt e.no.0 g.no.0) q.1 in
        record {
          event = e;
          planned = m;
          robot = eqb-true e.robot.0 g.robot.0 p.0;
          kind = acquire_is d e.kind q.0;
          above = ltb-true f.no.0 e.no.0 r.0;
          below = ltb-true e.no.0 g.no.0 r.1;
        }

-- the claim of an acquire or a release is one of so many, as a test
abbrev is_known : ℕ → Kind → Bool
is_known claims (Acquire c) = nat_lt c.0 claims
is_known claims (Move a b) = true
is_known claims (Release c) = nat_lt c.0 claims

known_one : (claims : ℕ) (k : Kind) → is_known claims k ≡ true → IsKnown claims k
known_one claims (Acquire c) h = ltb-true c.0 claims h
known_one claims (Move a b) h = tt
known_one claims (Release c) h = ltb-true c.0 claims h

abbrev pub are_known : ℕ → List Kind → Bool
are_known claims ks = list_all (is_known claims) ks

-- where the test passes the claims are known
pub known_from : (claims : ℕ) (ks : List Kind) → are_known claims ks ≡ true → (k : Kind) → In k ks → IsKnown claims k
known_from claims [] h k i = elim i [ ]
known_from claims (j ∷ ks) h k (here e) = subst (λ x. IsKnown claims x) (sym e) (known_one claims j (and_parts (is_known claims j) (list_all (is_known claims) ks) h).0)
known_from claims (j ∷ ks) h k (there i) = known_from claims ks (and_parts (is_known claims j) (list_all (is_known claims) ks) h).1 k i

-- events of known values are apart with numbered ones behind them
pub apart_at : (groups groups' : List ClaimGroup) (events events' : List Event) (next next' r : ℕ) (ks : List Kind) → groups ≡ groups' → events ≡ events' → next ≡ next' → are_apart groups' (events' ++ numbered next' r ks) ≡ true
    → AreApart groups (events ++ numbered next r ks)
apart_at groups groups' events events' next next' r ks a b c h =
    subst (λ gs. AreApart gs (events ++ numbered next r ks)) (sym a) (subst (λ es. AreApart groups' (es ++ numbered next r ks)) (sym b) (subst (λ n. AreApart groups' (events' ++ numbered n r ks)) (sym c) (apart_from groups' (events' ++ numbered next' r ks) h)))

-- an event of this number is among these, where the test says so
pub has_number : (events events' : List Event) (n : ℕ) → events ≡ events' → list_any (λ e. e.no.0 == n) events' ≡ true → HasNumber events (record { 0 = n })
has_number events events' n same h =
    let r = any_In (λ (e : Event). e.no.0 == n) events' h in
    (r.0, subst (λ es. In r.0 es) (sym same) r.1, ap (λ m. let x : EventNo = record { 0 = m } in x) (eqb-true r.0.no.0 n r.2))

-- e comes behind f, as a test
abbrev is_behind : List ClaimGroup → Event → Event → Bool
is_behind groups e f = ((f.robot.0 == e.robot.0) && nat_lt f.no.0 e.no.0) || is_awaited groups e f

behind_passes : (groups : List ClaimGroup) (e f : Event) → IsBehind groups e f → is_behind groups e f ≡ true
behind_passes groups e f (inl h) = or_left ((f.robot.0 == e.robot.0) && nat_lt f.no.0 e.no.0) (is_awaited groups e f) (and_from (f.robot.0 == e.robot.0) (nat_lt f.no.0 e.no.0) (eq-eqb f.robot.0 e.robot.0 h.0) (lt-ltb f.no.0 e.no.0 h.1))
behind_passes groups e f (inr t) = or_right ((f.robot.0 == e.robot.0) && nat_lt f.no.0 e.no.0) (is_awaited groups e f) t

-- an event of this number is among these and ready, as a test
abbrev pub is_ready_at : List ClaimGroup → List Event → ℕ → Bool
is_ready_at groups events n = list_any (λ e. (e.no.0 == n) && not (list_any (is_behind groups e) events)) events

ready_at : (groups : List ClaimGroup) (events : List Event) (n : ℕ) → is_ready_at groups events n ≡ true → HasReady groups events (record { 0 = n })
ready_at groups events n h =
    let r = any_In (λ (e : Event). (e.no.0 == n) && not (list_any (is_behind groups e) events)) events h in
    let p = and_parts (r.0.no.0 == n) (not (list_any (is_behind groups r.0) events)) r.2 in
    (r.0, ap (λ m. let x : EventNo = record { 0 = m } in x) (eqb-true r.0.no.0 n p.0), ready_from groups events r.0 r.1 (λ f j b. both_ways (list_any (is_behind groups r.0) events) (not-true (list_any (is_behind groups r.0) events) p.1) (In_any (is_behind groups r.0) events j (behind_passes groups r.0 f b))))

-- the same of events of known values
pub has_ready : (groups groups' : List ClaimGroup) (events events' : List Event) (n : ℕ) → groups ≡ groups' → events ≡ events' → is_ready_at groups' events' n ≡ true → HasReady groups events (record { 0 = n })
has_ready groups groups' events events' n a b h = subst (λ gs. HasReady gs events (record { 0 = n })) (sym a) (subst (λ es. HasReady groups' es (record { 0 = n })) (sym b) (ready_at groups' events' n h))

-- nothing stands behind the robot's last events, as a test
abbrev pub is_free : List ClaimGroup → List Event → List Event → Bool
is_free groups events tail = list_all (λ f. not (list_any (λ e. is_awaited groups e f) events)) tail

free_from : (groups : List ClaimGroup) (events tail : List Event) → is_free groups events tail ≡ true → IsUnawaited groups events tail
free_from groups events tail h = λ e f i j. false_from_ne_true (is_awaited groups e f) (λ t. both_ways (list_any (λ x. is_awaited groups x f) events) (not-true (list_any (λ x. is_awaited groups x f) events) (all_at (λ y. not (list_any (λ x. is_awaited groups x y) events)) tail f j h)) (In_any (λ x. is_awaited groups x f) events i t))

-- the same of events of known values
pub tail_free : (groups groups' : List ClaimGroup) (events events' : List Event) (r count : ℕ) → groups ≡ groups' → events ≡ events' → is_free groups' events' (tail_of r count events') ≡ true → IsUnawaited groups events (tail_of r count events)
tail_free groups groups' events events' r count a b h = subst (λ gs. IsUnawaited gs events (tail_of r count events)) (sym a) (subst (λ es. IsUnawaited groups' es (tail_of r count es)) (sym b) (free_from groups' events' (tail_of r count events') h))

-- claims are known to as many groups
pub known_at : (groups groups' : List ClaimGroup) (ks : List Kind) → groups ≡ groups' → are_known (length groups') ks ≡ true → (k : Kind) → In k ks → IsKnown (length groups) k
known_at groups groups' ks a h k i = subst (λ gs. IsKnown (length gs) k) (sym a) (known_from (length groups') ks h k i)
