-- A replay, robot by robot: what a robot holds depends on its own events alone.
use Rattle.std.proofs.Common.{◌≡◌, ℕ, ◌+◌, ◌<◌, Bool, true, false, cond, not, ◌==◌, ◌⊎◌, inl, inr, refl, sym, ap, ◌∙◌, List, [], ◌∷◌, ◌++◌, map, arith, eq-eqb}
use Rattle.std.proofs.lemmas.Bool.{or_cases, and_parts, both_ways, not-true}
use Rattle.fleet_base.specs.declared.numbers.ClaimNo.{ClaimNo}
use Rattle.fleet_base.specs.declared.numbers.Event.{Event}
use Rattle.fleet_base.specs.declared.numbers.Kind.{Kind}
use Rattle.fleet_base.specs.declared.numbers.Kind.TheVariants.{Acquire, Move, Release}
use Rattle.fleet_model.specs.Lists.{In, here, there}
use Rattle.fleet_model.specs.Sites.{Site}
use Rattle.fleet_model.specs.Replays.{Spot, Spots, CanDo, CanDoAll, IsFree, IsLegal, after_kind, after_kinds, after_event, replay}
use Rattle.fleet_model.specs.Plans.{own, kinds}
use Rattle.fleet_model.specs.Good.{IsAscending}
use Rattle.fleet_model.proofs.Lists.{In_either}
use Rattle.fleet_model.proofs.SameNumbers.{same_claim}
use Rattle.fleet_model.proofs.Numbers.{low_bound}

one_spot : (s : Spot) (e : Event) (es : List Event) (b : Bool) → after_kinds (cond b (after_kind e.kind s) s) (map (λ (x : Event). x.kind) es) ≡ after_kinds s (map (λ (x : Event). x.kind) (cond b (e ∷ es) es))
one_spot s e es true = refl
one_spot s e es false = refl

-- where a robot is depends on its own events alone
pub replay_own : (spots : Spots) (es : List Event) (q : ℕ) → replay spots es q ≡ after_kinds (spots q) (kinds q es)
replay_own spots [] q = refl
replay_own spots (e ∷ es) q = replay_own (after_event e spots) es q ∙ one_spot (spots q) e (own q es) (e.robot.0 == q)

pub after_kinds-append : (s : Spot) (js ks : List Kind) → after_kinds s (js ++ ks) ≡ after_kinds (after_kinds s js) ks
after_kinds-append s [] ks = refl
after_kinds-append s (j ∷ js) ks = after_kinds-append (after_kind j s) js ks

-- of things that a robot can do one after the other it can do each in its place
pub CanDoAll_at : (site : Site) (s : Spot) (js : List Kind) (k : Kind) (ks : List Kind) → CanDoAll site s (js ++ k ∷ ks) → CanDo site (after_kinds s js) k
CanDoAll_at site s [] k ks h = h.0
CanDoAll_at site s (j ∷ js) k ks h = CanDoAll_at site (after_kind j s) js k ks h.1

-- what a robot can do and then do is what it can do as one list
pub CanDoAll-append : (site : Site) (s : Spot) (js ks : List Kind) → CanDoAll site s js → CanDoAll site (after_kinds s js) ks → CanDoAll site s (js ++ ks)
CanDoAll-append site s [] ks h g = g
CanDoAll-append site s (j ∷ js) ks h g = (h.0, CanDoAll-append site (after_kind j s) js ks h.1 g)

-- a list is legal where each event is, behind those in front of it
pub legal_by_place : (site : Site) (spots : Spots) (es : List Event)
    → ((before : List Event) (e : Event) (behind : List Event) → es ≡ before ++ e ∷ behind → CanDo site (replay spots before e.robot.0) e.kind × IsFree site (replay spots before) e.robot.0 e.kind)
    → IsLegal site spots es
legal_by_place site spots [] f = tt
legal_by_place site spots (e ∷ es) f =
    ((f [] e es refl).0, (f [] e es refl).1, legal_by_place site (after_event e spots) es (λ before x behind h. f (e ∷ before) x behind (ap (λ zs. e ∷ zs) h)))

-- each event of a legal list is legal behind those in front of it
pub legal_at : (site : Site) (spots : Spots) (before : List Event) (e : Event) (behind : List Event) → IsLegal site spots (before ++ e ∷ behind)
    → CanDo site (replay spots before e.robot.0) e.kind × IsFree site (replay spots before) e.robot.0 e.kind
legal_at site spots [] e behind h = (h.0, h.1)
legal_at site spots (x ∷ before) e behind h = legal_at site (after_event x spots) before e behind h.2

-- what is held now was acquired now, or was held before and is not released now
pub held_before : (k : Kind) (s : Spot) (d : ClaimNo) → (after_kind k s).holds d ≡ true → (k ≡ Acquire d) ⊎ ((s.holds d ≡ true) × (k ≡ Release d → ⊥))
held_before (Acquire c) s d h = go (or_cases (c.0 == d.0) (s.holds d) h)
  where
    go : ((c.0 == d.0) ≡ true) ⊎ (s.holds d ≡ true) → (Acquire c ≡ Acquire d) ⊎ ((s.holds d ≡ true) × (Acquire c ≡ Release d → ⊥))
    go (inl e) = inl (ap (λ x. Acquire x) (same_claim c d e))
    go (inr e) = inr (e, λ k. cc)
held_before (Move a b) s d h = inr (h, λ k. cc)
held_before (Release c) s d h = let p = and_parts (not (c.0 == d.0)) (s.holds d) h in inr (p.1, λ k. let e : c ≡ d = cc in both_ways (c.0 == d.0) (not-true (c.0 == d.0) p.0) (eq-eqb c.0 d.0 (ap (λ (x : ClaimNo). x.0) e)))

-- event a acquires the claim, and none of these releases it later
pub record IsKept (d : ClaimNo) (es : List Event) (a : Event) : Type 0 where
  pub place : In a es
  pub kind : a.kind ≡ Acquire d
  pub open_still : (x : Event) → In x es → x.kind ≡ Release d → a.no.0 < x.no.0 → ⊥

-- the claim was held before these, and none of them releases it
pub record IsKeptFrom (s : Spot) (d : ClaimNo) (es : List Event) : Type 0 where
  pub held : s.holds d ≡ true
  pub open_still : (x : Event) → In x es → x.kind ≡ Release d → ⊥

-- with one more event in front, the claim was held before them or is acquired by one, and is not released since
kept_more : (s : Spot) (e : Event) (es : List Event) (d : ClaimNo) → (e.kind ≡ Acquire d) ⊎ ((s.holds d ≡ true) × (e.kind ≡ Release d → ⊥)) → ((x : Event) → In x es → x.kind ≡ Release d → ⊥)
    → IsKeptFrom s d (e ∷ es) ⊎ ((a : Event) × IsKept d (e ∷ es) a)
kept_more s e es d (inl k) none = inr (e, record { place = here refl; kind = k; open_still = λ x m kx l. In_either m (λ i. omega (arith, ap (λ (y : Event). y.no.0) i)) (λ n. none x n kx) })
kept_more s e es d (inr k) none = inl record { held = k.0; open_still = λ x m kx. In_either m (λ i. k.1 (ap (λ (y : Event). y.kind) (sym i) ∙ kx)) (λ n. none x n kx) }

-- a claim that is held at the end of a robot's events was held before them or acquired by one, and is not released since
pub held_since : (s : Spot) (low : ℕ) (es : List Event) (d : ClaimNo) → IsAscending low es → (after_kinds s (map (λ (e : Event). e.kind) es)).holds d ≡ true
    → IsKeptFrom s d es ⊎ ((a : Event) × IsKept d es a)
held_since s low [] d h g = inl record { held = g; open_still = λ x m. elim m [ ] }
held_since s low (e ∷ es) d h g = go (held_since (after_kind e.kind s) (e.no.0 + 1) es d h.1 g)
  where
    go : IsKeptFrom (after_kind e.kind s) d es ⊎ ((a : Event) × IsKept d es a) → IsKeptFrom s d (e ∷ es) ⊎ ((a : Event) × IsKept d (e ∷ es) a)
    go (inl t) = kept_more s e es d (held_before e.kind s d t.held) t.open_still
    go (inr t) = inr (t.0, record { place = there t.1.place; kind = t.1.kind; open_still = λ x m kx l. In_either m (λ i. let b = low_bound (e.no.0 + 1) es h.1 t.1.place in omega (arith, ap (λ (y : Event). y.no.0) i)) (λ n. t.1.open_still x n kx l) })
