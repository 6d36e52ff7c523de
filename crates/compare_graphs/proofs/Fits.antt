-- What fits may be appended, whatever the events are.
use Rattle.std.proofs.Common.{◌≡◌, ℕ, zero, suc, ◌+◌, ◌<◌, ◌≤◌, ◌⊎◌, inl, inr, refl, sym, ap, ◌∙◌, subst, List, [], ◌∷◌, ◌++◌, length, take, get_or, arith, Some}
use Rattle.std.specs.Prelude.{slice_get}
use Rattle.std.proofs.lemmas.Option.{get_or_from_slice_get, slice_get_within}
use Rattle.fleet_base.specs.declared.numbers.ClaimGroup.{ClaimGroup}
use Rattle.fleet_base.specs.declared.numbers.ClaimNo.{ClaimNo}
use Rattle.fleet_base.specs.declared.numbers.Event.{Event}
use Rattle.fleet_base.specs.declared.numbers.Kind.{Kind}
use Rattle.fleet_base.specs.declared.numbers.Kind.TheVariants.{Acquire, Move, Release}
use Rattle.fleet_model.specs.Lists.{In, here, there}
use Rattle.fleet_model.specs.Plans.{numbered}
use Rattle.fleet_model.proofs.Lists.{In-append_left, In-append_right, In-append_cases}
use Rattle.fleet_model.proofs.Numbered.{numbered-ascending, numbered-robot}
use Rattle.fleet_model.proofs.Numbers.{low_bound}
use Rattle.event_graph.specs.Graphs.{Acquires, AreApart, IsKnown}
use Rattle.compare_graphs.specs.Pairs.{FitsBehind, AreFit}

-- an element of the list has a place
pub place_of : {A : Type 0} (xs : List A) (x : A) → In x xs → (i : ℕ) × (slice_get xs i ≡ Some x)
place_of [] x m = elim m [ ]
place_of (y ∷ ys) x (here e) = (0, ap (λ z. Some z) (sym e))
place_of (y ∷ ys) x (there m) = let r = place_of ys x m in (suc r.0, r.1)

known_one : (claims : ℕ) (before : List Kind) (k : Kind) → FitsBehind claims before k → IsKnown claims k
known_one claims before (Acquire c) h = h
known_one claims before (Move a b) h = tt
known_one claims before (Release c) h = h.0

-- the claims of what fits are known
pub fit_known : (claims : ℕ) (kinds : List Kind) → AreFit claims kinds → (k : Kind) → In k kinds → IsKnown claims k
fit_known claims kinds fit k m = let p = place_of kinds k m in known_one claims (take p.0 kinds) k (fit p.0 k p.1)

-- a numbered event does what stands at its place
numbered-place : (n r : ℕ) (ks : List Kind) (e : Event) → In e (numbered n r ks) → (i : ℕ) × (slice_get ks i ≡ Some e.kind) × (e.no.0 ≡ n + i)
numbered-place n r [] e m = elim m [ ]
numbered-place n r (k ∷ ks) e (here q) = (0, ap (λ (x : Event). Some x.kind) (sym q), (let p = ap (λ (x : Event). x.no.0) q in omega arith))
numbered-place n r (k ∷ ks) e (there m) = let p = numbered-place (n + 1) r ks e m in (suc p.0, p.1, (let q = p.2 in omega arith))

-- what stands in front of a place is done under a smaller number
numbered-front : (n r : ℕ) (ks : List Kind) (i : ℕ) (k : Kind) → In k (take i ks) → (e : Event) × In e (numbered n r ks) × (e.kind ≡ k) × (e.no.0 < n + i)
numbered-front n r [] zero k m = elim m [ ]
numbered-front n r [] (suc i) k m = elim m [ ]
numbered-front n r (j ∷ ks) zero k m = elim m [ ]
numbered-front n r (j ∷ ks) (suc i) k (here q) = (record { no = record { 0 = n }; robot = record { 0 = r }; kind = j }, here refl, sym q, omega arith)
numbered-front n r (j ∷ ks) (suc i) k (there m) = let p = numbered-front (n + 1) r ks i k m in (p.0, there p.1, p.2, (let q = p.3 in omega arith))

-- a number below the next one is below this one, or this one
pub below_cases : (i n : ℕ) → i < n + 1 → (i < n) ⊎ (i ≡ n)
below_cases zero zero h = inr refl
below_cases zero (suc n) h = inl (omega arith)
below_cases (suc i) zero h = absurd (omega arith)
below_cases (suc i) (suc n) h = elim (below_cases i n (omega arith)) [ inl l ↦ inl (omega arith) | inr e ↦ inr (ap (λ m. suc m) e) ]

-- each of the first so many fits behind those in front of it
abbrev pub AreFitBelow : ℕ → List Kind → ℕ → Type 0
AreFitBelow claims kinds n = (i : ℕ) (k : Kind) → i < n → slice_get kinds i ≡ Some k → FitsBehind claims (take i kinds) k

-- one more of them fits
pub fit_more : (claims : ℕ) (kinds : List Kind) (n : ℕ) (d : Kind) → AreFitBelow claims kinds n → FitsBehind claims (take n kinds) (get_or kinds n d) → AreFitBelow claims kinds (n + 1)
fit_more claims kinds n d fit h i k less at = elim (below_cases i n less) [
  | inl l ↦ fit i k l at
  | inr e ↦ subst (λ j. FitsBehind claims (take j kinds) k) (sym e) (subst (λ x. FitsBehind claims (take n kinds) x) (get_or_from_slice_get kinds n k d (subst (λ j. slice_get kinds j ≡ Some k) e at)) h)
]

-- all fit where as many fit as there are
pub fit_all : (claims : ℕ) (kinds : List Kind) (n : ℕ) → length kinds ≤ n → AreFitBelow claims kinds n → AreFit claims kinds
fit_all claims kinds n long fit i k at = fit i k (let w = slice_get_within kinds i k at in omega arith) at

module _ (groups : List ClaimGroup) (events : List Event) (next r claims : ℕ) (kinds : List Kind) (apart : AreApart groups events) (below : (e : Event) → In e events → e.no.0 < next) (fit : AreFit claims kinds) where
  late : (e : Event) → In e (numbered next r kinds) → next ≤ e.no.0
  late e m = low_bound next (numbered next r kinds) (numbered-ascending next r kinds) m

  wider : (q : ℕ) (d : ClaimNo) (low high : ℕ) → Acquires events q d low high → Acquires (events ++ (numbered next r kinds)) q d low high
  wider q d low high a = record { event = a.event; planned = In-append_left events (numbered next r kinds) a.planned; robot = a.robot; kind = a.kind; above = a.above; below = a.below }

  opened : (f g : Event) (d : ClaimNo) → In f events → In g (numbered next r kinds) → g.kind ≡ Release d → Acquires (events ++ (numbered next r kinds)) g.robot.0 d f.no.0 g.no.0
  opened f g d i j kind =
      let at = numbered-place next r kinds g j in
      let fits : FitsBehind claims (take at.0 kinds) (Release d) = fit at.0 (Release d) (at.1 ∙ ap (λ k. Some k) kind) in
      let a = numbered-front next r kinds at.0 (Acquire d) fits.1 in
      let low = below f i in
      let high = late a.0 a.1 in
      let no = at.2 in
      let front = a.3 in
      record {
        event = a.0;
        planned = In-append_right events (numbered next r kinds) a.1;
        robot = numbered-robot next r kinds a.0 a.1 ∙ sym (numbered-robot next r kinds g j);
        kind = a.2;
        above = omega arith;
        below = omega arith;
      }

  -- what fits leaves the releases apart
  pub fit_apart : AreApart groups (events ++ (numbered next r kinds))
  fit_apart f g c d i j ne kf kg conflict less = elim (In-append_cases events (numbered next r kinds) j) [
    | inl old ↦ elim (In-append_cases events (numbered next r kinds) i) [
      | inl first ↦ wider g.robot.0 d f.no.0 g.no.0 (apart f g c d first old ne kf kg conflict less)
      | inr late_one ↦ (let l = late f late_one in let b = below g old in absurd (omega arith))
    ]
    | inr fresh ↦ elim (In-append_cases events (numbered next r kinds) i) [
      | inl first ↦ opened f g d first fresh kg
      | inr both ↦ absurd (ne (numbered-robot next r kinds f both ∙ sym (numbered-robot next r kinds g fresh)))
    ]
  ]
