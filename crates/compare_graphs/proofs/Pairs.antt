-- What both graphs ask of a step, from what the plain one tells.
use Rattle.std.proofs.Common.{◌≡◌, ℕ, zero, suc, inl, inr, ◌+◌, ◌-◌, ◌<◌, ◌≤◌, Bool, false, refl, sym, ap, ◌∙◌, subst, List, [], ◌∷◌, ◌++◌, length, drop, arith, Some}
use Rattle.std.specs.Prelude.{slice_get}
use Rattle.std.specs.List.{list_any}
use Rattle.std.proofs.lemmas.Bool.{both_ways, false_from_ne_true}
use Rattle.std.proofs.lemmas.Option.{same_Some, slice_get_within}
use Rattle.fleet_base.specs.declared.numbers.ClaimGroup.{ClaimGroup}
use Rattle.fleet_base.specs.declared.numbers.Event.{Event}
use Rattle.fleet_base.specs.declared.numbers.EventNo.{EventNo}
use Rattle.fleet_base.specs.declared.numbers.Kind.{Kind}
use Rattle.fleet_model.specs.Lists.{In}
use Rattle.fleet_model.specs.Plans.{numbered, own, is_awaited}
use Rattle.fleet_model.proofs.Numbers.{own_In}
use Rattle.fleet_model.proofs.Tests.{In_any}
use Rattle.event_graph.specs.Graphs.{AreApart, AtNumber, Graph, HasReady, IsGraph, IsKnown, IsReadyAmong, IsUnawaited, IsUnchanged, has_waiting, tail_of}
use Rattle.event_graph.proofs.Owns.{In_at}
use Rattle.compare_graphs.specs.declared.pair.Pair.{Pair}
use Rattle.compare_graphs.specs.Pairs.{AreFit, IsPair}
use Rattle.compare_graphs.proofs.Fits.{below_cases, fit_known, fit_apart, place_of}

-- the event at a place of a robot's is one of all
pub own_one : (r : ℕ) (events : List Event) (i : ℕ) (e : Event) → Some e ≡ slice_get (own r events) i → In e events
own_one r events i e h = (own_In r events (In_at (own r events) i e (sym h))).0

-- a graph that is unchanged twice is unchanged
pub unchanged_twice : (a b c : Graph) → IsUnchanged a b → IsUnchanged b c → IsUnchanged a c
unchanged_twice a b c f g = record { robots = g.robots ∙ f.robots; groups = g.groups ∙ f.groups; events = g.events ∙ f.events; next = g.next ∙ f.next }

-- what is ready among the events of one graph is ready among those of one that is the same
pub ready_in : (a b : Graph) → IsUnchanged a b → (n : EventNo) → HasReady a.groups a.events n → HasReady b.groups b.events n
ready_in a b same n h = (h.0, h.1, subst (λ gs. IsReadyAmong gs b.events h.0) (sym same.groups) (subst (λ es. IsReadyAmong a.groups es h.0) (sym same.events) h.2))

-- the same of a tail that nothing stands behind
pub unawaited_in : (a b : Graph) → IsUnchanged a b → (r count : ℕ) → IsUnawaited a.groups a.events (tail_of r count a.events) → IsUnawaited b.groups b.events (tail_of r count b.events)
unawaited_in a b same r count h = subst (λ gs. IsUnawaited gs b.events (tail_of r count b.events)) (sym same.groups) (subst (λ es. IsUnawaited a.groups es (tail_of r count es)) (sym same.events) h)

-- both may be asked to append what fits
module _ (p : Pair) (pair : IsPair p) (kinds : List Kind) (fit : AreFit p.claims kinds) (g : Graph) (same : IsUnchanged p.plain g) where
  pub pair_known : (k : Kind) → In k kinds → IsKnown (length g.groups) k
  pair_known k m = subst (λ n. IsKnown n k) (sym (ap (λ (gs : List ClaimGroup). length gs) same.groups ∙ pair.claims)) (fit_known p.claims kinds fit k m)

  pub pair_apart : (r : ℕ) → IsGraph p.plain.robots p.plain.groups p.plain.events p.plain.next → AreApart g.groups (g.events ++ numbered g.next r kinds)
  pair_apart r graph =
      subst (λ n. AreApart g.groups (g.events ++ numbered n r kinds)) (sym same.next)
      (subst (λ es. AreApart g.groups (es ++ numbered p.plain.next r kinds)) (sym same.events)
      (subst (λ gs. AreApart gs (p.plain.events ++ numbered p.plain.next r kinds)) (sym same.groups)
      (fit_apart p.plain.groups p.plain.events p.plain.next r p.claims kinds graph.apart graph.below fit)))

-- nothing stands behind an event of the list from one place up to another
abbrev pub AreFree : List ClaimGroup → List Event → List Event → ℕ → ℕ → Type 0
AreFree groups events mine from to = (i : ℕ) (f : Event) → from ≤ i → i < to → slice_get mine i ≡ Some f → has_waiting groups events f ≡ false

-- an element of what is left behind a place has a place from there on
drop-place : {A : Type 0} (xs : List A) (n : ℕ) (x : A) → In x (drop n xs) → (i : ℕ) × (n ≤ i) × (slice_get xs i ≡ Some x)
drop-place xs zero x m = let p = place_of xs x m in (p.0, omega arith, p.1)
drop-place [] (suc n) x m = elim m [ ]
drop-place (y ∷ ys) (suc n) x m = let p = drop-place ys n x m in (suc p.0, (let l = p.1 in omega arith), p.2)

module _ (groups : List ClaimGroup) (events : List Event) (r : ℕ) where
  -- one more event is free
  pub free_more : (from at : ℕ) (e : Event) (answer : Bool) → Some e ≡ slice_get (own r events) at → AtNumber events e.no (λ f. answer ≡ has_waiting groups events f) → answer ≡ false
      → AreFree groups events (own r events) from at → AreFree groups events (own r events) from (at + 1)
  free_more from at e answer is told free_not free i f low less there = elim (below_cases i at less) [
    | inl l ↦ free i f low l there
    | inr q ↦ subst (λ x. has_waiting groups events x ≡ false) (same_Some e f (is ∙ (ap (λ j. slice_get (own r events) j) (sym q) ∙ there))) (sym (told e (own_one r events at e is) refl) ∙ free_not)
  ]

  -- where all events of the tail are free nothing stands behind it
  pub free_tail : (count left to : ℕ) → left ≡ length (own r events) → left ≤ to → AreFree groups events (own r events) (left - count) to → IsUnawaited groups events (tail_of r count events)
  free_tail count left to is long free e f i j =
      let p = drop-place (own r events) (length (own r events) - count) f j in
      let w = slice_get_within (own r events) p.0 f p.2 in
      let low = p.1 in
      let free_not = free p.0 f (omega arith) (omega arith) p.2 in
      false_from_ne_true (is_awaited groups e f) (λ t. both_ways (list_any (λ x. is_awaited groups x f) events) free_not (In_any (λ x. is_awaited groups x f) events i t))
