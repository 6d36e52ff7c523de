-- Events that are numbered in turn, as those of a route are.
use Rattle.std.proofs.Common.{◌≡◌, ℕ, ◌+◌, ◌<◌, ap, List, [], ◌∷◌, arith, length, refl, sym, eq-eqb, suc}
use Rattle.fleet_base.specs.declared.numbers.Event.{Event}
use Rattle.fleet_base.specs.declared.numbers.Kind.{Kind}
use Rattle.fleet_model.specs.Lists.{In, here, there}
use Rattle.fleet_model.specs.Plans.{numbered, own, kinds}
use Rattle.fleet_model.specs.Good.{IsAscending}
use Rattle.std.proofs.lemmas.Bool.{ne_eqb}
use Rattle.fleet_model.proofs.Lists.{In_either}

-- events that are numbered in turn rise
pub numbered-ascending : (n r : ℕ) (ks : List Kind) → IsAscending n (numbered n r ks)
numbered-ascending n r [] = tt
numbered-ascending n r (k ∷ ks) = (omega arith, numbered-ascending (n + 1) r ks)

-- they are all of that robot
pub numbered-robot : (n r : ℕ) (ks : List Kind) (e : Event) → In e (numbered n r ks) → e.robot.0 ≡ r
numbered-robot n r [] e m = elim m [ ]
numbered-robot n r (k ∷ ks) e m = In_either m (λ i. ap (λ (x : Event). x.robot.0) i) (λ j. numbered-robot (n + 1) r ks e j)

-- their numbers are below the next number
pub numbered-below : (n r : ℕ) (ks : List Kind) (e : Event) → In e (numbered n r ks) → e.no.0 < n + length ks
numbered-below n r [] e m = elim m [ ]
numbered-below n r (k ∷ ks) e m = In_either m (λ i. omega (arith, ap (λ (x : Event). x.no.0) i)) (λ j. let b = numbered-below (n + 1) r ks e j in omega arith)

-- an event of the numbered does one of these things
pub numbered-kind : (n r : ℕ) (ks : List Kind) (e : Event) → In e (numbered n r ks) → In e.kind ks
numbered-kind n r [] e m = elim m [ ]
numbered-kind n r (k ∷ ks) e m = In_either m (λ i. here (ap (λ (x : Event). x.kind) i)) (λ j. there (numbered-kind (n + 1) r ks e j))

-- each of these things is done by an event of the numbered
pub numbered-event : (n r : ℕ) (ks : List Kind) (k : Kind) → In k ks → (e : Event) × In e (numbered n r ks) × (e.kind ≡ k)
numbered-event n r [] k i = elim i [ ]
numbered-event n r (j ∷ ks) k (here h) = (record { no = record { 0 = n }; robot = record { 0 = r }; kind = j }, here refl, sym h)
numbered-event n r (j ∷ ks) k (there i) = let e = numbered-event (n + 1) r ks k i in (e.0, there e.1, e.2)

pub kinds-numbered : (n r : ℕ) (ks : List Kind) → kinds r (numbered n r ks) ≡ ks
kinds-numbered n r [] = refl
kinds-numbered n r (k ∷ ks) = rw (eq-eqb r r refl) (ap (λ zs. k ∷ zs) (kinds-numbered (n + 1) r ks))

pub own-numbered : (n r q : ℕ) (ks : List Kind) → (r ≡ q → ⊥) → own q (numbered n r ks) ≡ []
own-numbered n r q [] h = refl
own-numbered n r q (k ∷ ks) h = rw (ne_eqb r q h) (own-numbered (n + 1) r q ks h)

pub length-numbered : (n r : ℕ) (ks : List Kind) → length (numbered n r ks) ≡ length ks
length-numbered n r [] = refl
length-numbered n r (k ∷ ks) = ap (λ m. suc m) (length-numbered (n + 1) r ks)
