-- The names that a canonical text declares: those of a list of things, each with its name.
use Rattle.std.proofs.Common.{◌≡◌, ◌⊎◌, inl, inr, ⊎_elim, ℕ, zero, suc, ◌+◌, ◌<◌, ◌≤◌, Bool, true, false, cond, eqb, List, [], ◌∷◌, ◌++◌, length, map, Option, Some, None, refl, sym, ap, subst, ◌∙◌, append_assoc, arith}
use Rattle.std.specs.Str.{bytes_eq}
use Rattle.std.specs.List.{AllByRecursion, range_with_len}
use Rattle.std.specs.Option.{unwrap_or}
use Rattle.std.proofs.lemmas.Bool.{and_parts, cases_Bool, cases_lt, eq-eqb, eqb-false, eqb-true, false≢true, MatchBool-at_true, MatchBool-at_false}
use Rattle.std.proofs.lemmas.List.{map-append}
use Rattle.std.proofs.lemmas.List.FromFn.{length-range_with_len, map-range_with_len_more}
use Rattle.std.proofs.lemmas.List.Sums.{sum_by-append}
use Rattle.std.proofs.lemmas.Slice.Eq.{bytes_eq-Decides}
use Rattle.fleet_model.specs.Lists.{numbers_below}
use Rattle.fleet_names.specs.declared.thing.Thing.{Thing}
use Rattle.fleet_names.specs.declared.thing.Thing.TheVariants as things
use Rattle.fleet_names.specs.Things.{is_robot, number_of, same_kind, same_thing}
use Rattle.fleet_names.specs.Names.{Named, AreDeclared, CountUp, count_of, is_name, name_of, thing_of}
use Rattle.fleet_names.proofs.Finding.{at_place, named_at}
use Rattle.fleet_names.proofs.Steps.{bytes_eq-self, count_of-fails, count_of-holds, is_same, same_kind-self}
use Rattle.scenario.specs.Canonical.{name}
use Rattle.scenario_laws.proofs.RoundTrip.{names_of_each, names_upto}

-- a thing that has a name
abbrev pub IsKnown : Named → Thing → Type 0
IsKnown names t = number_of t < count_of (same_kind t) names

-- a thing with a name is found by it
pub record IsNameOf (names : Named) (t : Thing) : Type 0 where
  pub named : name_of names t ≡ Some (name names t)
  pub good : is_name (name names t) ≡ true
  pub found : thing_of names (name names t) ≡ Some t

pub known_named : (names : Named) (t : Thing) → AreDeclared names → IsKnown names t → IsNameOf names t
known_named names t declared known =
    let at = at_place names t 0 0 (declared.numbers t) (omega arith) (omega arith) in
    let there = named_at names at.at at.name t declared.differ at.entry in
    let text : at.name ≡ name names t = sym (ap (λ (o : Option (List ℕ)). unwrap_or o []) at.named) in
    record {
      named = at.named ∙ ap (λ (bytes : List ℕ). Some bytes) text;
      good = subst (λ (bytes : List ℕ). is_name bytes ≡ true) text there.name_ok;
      found = subst (λ (bytes : List ℕ). thing_of names bytes ≡ Some t) text there.found;
    }

-- the things with their names
abbrev pub named_things : Named → List Thing → Named
named_things names ts = map (λ t. (name names t, t)) ts

-- a thing is one of these
abbrev pub IsAmong : Thing → List Thing → Type 0
IsAmong t [] = ⊥
IsAmong t (u ∷ us) = (t ≡ u) ⊎ IsAmong t us

-- what holds of each that is among them
pub all_among : (P : Thing → Type 0) (ts : List Thing) → ((t : Thing) → IsAmong t ts → P t) → AllByRecursion P ts
all_among P [] each = tt
all_among P (t ∷ ts) each = (each t (inl refl), all_among P ts (λ u among. each u (inr among)))

among_left : (t : Thing) (xs ys : List Thing) → IsAmong t xs → IsAmong t (xs ++ ys)
among_left t [] ys among = absurd among
among_left t (x ∷ xs) ys among = ⊎_elim (λ (same : t ≡ x). inl same) (λ later. inr (among_left t xs ys later)) among

among_right : (t : Thing) (xs ys : List Thing) → IsAmong t ys → IsAmong t (xs ++ ys)
among_right t [] ys among = among
among_right t (x ∷ xs) ys among = inr (among_right t xs ys among)

among_either : (t : Thing) (xs ys : List Thing) → IsAmong t (xs ++ ys) → IsAmong t xs ⊎ IsAmong t ys
among_either t [] ys among = inr among
among_either t (x ∷ xs) ys among = ⊎_elim (λ (same : t ≡ x). inl (inl same)) (λ later. ⊎_elim (λ here. inl (inr here)) (λ there. inr there) (among_either t xs ys later)) among

-- known things with one name are one thing
same_name : (names : Named) (t u : Thing) → IsNameOf names t → IsNameOf names u → name names t ≡ name names u → t ≡ u
same_name names t u by_t by_u same =
    let one : Some t ≡ Some u = sym by_t.found ∙ ap (thing_of names) same ∙ by_u.found in
    cc

-- among the named things, one of them is found by its name
pub found_among : (names : Named) (ts : List Thing) (t : Thing) → AllByRecursion (IsNameOf names) ts → IsNameOf names t → IsAmong t ts → thing_of (named_things names ts) (name names t) ≡ Some t
found_among names [] t all by_t among = absurd among
found_among names (u ∷ us) t all by_t among =
    ⊎_elim
    (λ holds.
    let same = same_name names t u by_t all.0 ((bytes_eq-Decides (name names t) (name names u)).0 holds) in
    rw holds (ap (λ (v : Thing). Some v) (sym same)))
    (λ fails.
    ⊎_elim
    (λ (same : t ≡ u). absurd (false≢true (sym fails ∙ ap (λ v. bytes_eq (name names t) (name names v)) (sym same) ∙ bytes_eq-self (name names t))))
    (λ later. rw fails (found_among names us t all.1 by_t later))
    among)
    (cases_Bool (bytes_eq (name names t) (name names u)))

-- another thing isn't
pub free_among : (names : Named) (ts : List Thing) (t : Thing) → AllByRecursion (IsNameOf names) ts → IsNameOf names t → (IsAmong t ts → ⊥) → thing_of (named_things names ts) (name names t) ≡ None
free_among names [] t all by_t other = refl
free_among names (u ∷ us) t all by_t other =
    ⊎_elim
    (λ holds. absurd (other (inl (same_name names t u by_t all.0 ((bytes_eq-Decides (name names t) (name names u)).0 holds)))))
    (λ fails. rw fails (free_among names us t all.1 by_t (λ later. other (inr later))))
    (cases_Bool (bytes_eq (name names t) (name names u)))

-- two things that the test takes for one are one
one_thing : (t u : Thing) → same_thing t u ≡ true → t ≡ u
one_thing t u is = let parts = and_parts (same_kind t u) (eqb (number_of t) (number_of u)) is in is_same t u parts.0 (eqb-true (number_of t) (number_of u) parts.1)

same_as_self : (t : Thing) → same_thing t t ≡ true
same_as_self t = rw (same_kind-self t, eq-eqb (number_of t) (number_of t) refl) refl

-- among the named things, one of them has its name
pub named_among : (names : Named) (ts : List Thing) (t : Thing) → IsAmong t ts → name_of (named_things names ts) t ≡ Some (name names t)
named_among names [] t among = absurd among
named_among names (u ∷ us) t among =
    ⊎_elim
    (λ holds. rw holds (ap (λ v. Some (name names v)) (sym (one_thing t u holds))))
    (λ fails.
    ⊎_elim
    (λ (same : t ≡ u). absurd (false≢true (sym fails ∙ ap (same_thing t) (sym same) ∙ same_as_self t)))
    (λ later. rw fails (named_among names us t later))
    among)
    (cases_Bool (same_thing t u))

pub unnamed_among : (names : Named) (ts : List Thing) (t : Thing) → (IsAmong t ts → ⊥) → name_of (named_things names ts) t ≡ None
unnamed_among names [] t other = refl
unnamed_among names (u ∷ us) t other =
    ⊎_elim
    (λ holds. absurd (other (inl (one_thing t u holds))))
    (λ fails. rw fails (unnamed_among names us t (λ later. other (inr later))))
    (cases_Bool (same_thing t u))

-- a thing past those of its kind that have names has none
above : (t u : Thing) → number_of u < number_of t → same_thing t u ≡ false
above t u lt = ⊎_elim (λ holds. let same = ap number_of (one_thing t u holds) in absurd (omega arith)) (λ fails. fails) (cases_Bool (same_thing t u))

other_kind : (t u : Thing) → same_kind t u ≡ false → same_thing t u ≡ false
other_kind t u fails = rw fails refl

pub unnamed_past : (es : Named) (t : Thing) (n : ℕ) → CountUp (same_kind t) n es → n + count_of (same_kind t) es ≤ number_of t → name_of es t ≡ None
unnamed_past [] t n kept past = refl
unnamed_past (e ∷ es) t n kept past =
    ⊎_elim
    (λ holds.
    let first = MatchBool-at_true ((number_of e.1 ≡ n) × CountUp (same_kind t) (n + 1) es) (CountUp (same_kind t) n es) holds kept in
    let number = first.0 in
    let more = count_of-holds (same_kind t) e es holds in
    rw (above t e.1 (omega arith)) (unnamed_past es t (n + 1) first.1 (omega arith)))
    (λ fails.
    let rest = MatchBool-at_false ((number_of e.1 ≡ n) × CountUp (same_kind t) (n + 1) es) (CountUp (same_kind t) n es) fails kept in
    let more = count_of-fails (same_kind t) e es fails in
    rw (other_kind t e.1 fails) (unnamed_past es t n rest (omega arith)))
    (cases_Bool (same_kind t e.1))

-- the first things of each kind
abbrev pub things_of_each : (ℕ → Thing) → ℕ → List Thing
things_of_each thing n = map thing (numbers_below n)

abbrev pub things_upto : ℕ → ℕ → ℕ → ℕ → List Thing
things_upto cells crossings areas robots =
    things_of_each (λ k. things.Cell k) cells
    ++ (things_of_each (λ k. things.Crossing k) crossings
    ++ (things_of_each (λ k. things.Area k) areas
    ++ things_of_each (λ k. things.Robot k) robots))

-- how many there are of the kind of a thing
abbrev pub limit_of : ℕ → ℕ → ℕ → ℕ → Thing → ℕ
limit_of cells crossings areas robots (things.Cell n) = cells
limit_of cells crossings areas robots (things.Crossing n) = crossings
limit_of cells crossings areas robots (things.Area n) = areas
limit_of cells crossings areas robots (things.Robot n) = robots

each_named : (names : Named) (thing : ℕ → Thing) (ns : List ℕ) → map (λ k. (name names (thing k), thing k)) ns ≡ named_things names (map thing ns)
each_named names thing [] = refl
each_named names thing (n ∷ ns) = ap (λ (es : Named). (name names (thing n), thing n) ∷ es) (each_named names thing ns)

four_parts : (a a' b b' c c' d d' : Named) → a ≡ a' → b ≡ b' → c ≡ c' → d ≡ d' → a ++ (b ++ (c ++ d)) ≡ a' ++ (b' ++ (c' ++ d'))
four_parts a a' b b' c c' d d' is_a is_b is_c is_d = cc

pub upto_named : (names : Named) (cells crossings areas robots : ℕ) → names_upto names cells crossings areas robots ≡ named_things names (things_upto cells crossings areas robots)
upto_named names cells crossings areas robots =
    let pair : Thing → List ℕ × Thing = λ t. (name names t, t) in
    let c = things_of_each (λ k. things.Cell k) cells in
    let x = things_of_each (λ k. things.Crossing k) crossings in
    let a = things_of_each (λ k. things.Area k) areas in
    let r = things_of_each (λ k. things.Robot k) robots in
    four_parts _ _ _ _ _ _ _ _
    (each_named names (λ k. things.Cell k) (numbers_below cells))
    (each_named names (λ k. things.Crossing k) (numbers_below crossings))
    (each_named names (λ k. things.Area k) (numbers_below areas))
    (each_named names (λ k. things.Robot k) (numbers_below robots))
    ∙ sym (
    map-append pair c (x ++ (a ++ r))
    ∙ ap (λ (es : Named). map pair c ++ es) (map-append pair x (a ++ r) ∙ ap (λ (es : Named). map pair x ++ es) (map-append pair a r)))

-- which things there are
in_range : (thing : ℕ → Thing) (a n k : ℕ) → a ≤ k → k < a + n → IsAmong (thing k) (map thing (range_with_len a n))
in_range thing a zero k low high = absurd (omega arith)
in_range thing a (suc n) k low high =
    ⊎_elim
    (λ same. let is : k ≡ a = eqb-true k a same in inl (ap thing is))
    (λ other. let not_it = eqb-false k a other in inr (in_range thing (a + 1) n k (omega arith) (omega arith)))
    (cases_Bool (eqb k a))

from_range : (thing : ℕ → Thing) (t : Thing) (a n : ℕ) → IsAmong t (map thing (range_with_len a n)) → (k : ℕ) × (t ≡ thing k) × (k < a + n)
from_range thing t a zero among = absurd among
from_range thing t a (suc n) among =
    ⊎_elim
    (λ (same : t ≡ thing a). (a, same, omega arith))
    (λ later. let found = from_range thing t (a + 1) n later in let high = found.2 in (found.0, found.1, omega arith))
    among

module _ (cells crossings areas robots : ℕ) where
  pub in_upto : (t : Thing) → number_of t < limit_of cells crossings areas robots t → IsAmong t (things_upto cells crossings areas robots)
  in_upto (things.Cell k) high = among_left (things.Cell k) (things_of_each (λ k. things.Cell k) cells) _ (in_range (λ k. things.Cell k) 0 cells k (omega arith) (omega arith))
  in_upto (things.Crossing k) high =
      among_right (things.Crossing k) (things_of_each (λ k. things.Cell k) cells) _
      (among_left (things.Crossing k) (things_of_each (λ k. things.Crossing k) crossings) _ (in_range (λ k. things.Crossing k) 0 crossings k (omega arith) (omega arith)))
  in_upto (things.Area k) high =
      among_right (things.Area k) (things_of_each (λ k. things.Cell k) cells) _
      (among_right (things.Area k) (things_of_each (λ k. things.Crossing k) crossings) _
      (among_left (things.Area k) (things_of_each (λ k. things.Area k) areas) _ (in_range (λ k. things.Area k) 0 areas k (omega arith) (omega arith))))
  in_upto (things.Robot k) high =
      among_right (things.Robot k) (things_of_each (λ k. things.Cell k) cells) _
      (among_right (things.Robot k) (things_of_each (λ k. things.Crossing k) crossings) _
      (among_right (things.Robot k) (things_of_each (λ k. things.Area k) areas) _
      (in_range (λ k. things.Robot k) 0 robots k (omega arith) (omega arith))))

  below_limit : (t u : Thing) → t ≡ u → number_of u < limit_of cells crossings areas robots u → number_of t < limit_of cells crossings areas robots t
  below_limit t u same high = subst (λ v. number_of v < limit_of cells crossings areas robots v) (sym same) high

  pub from_upto : (t : Thing) → IsAmong t (things_upto cells crossings areas robots) → number_of t < limit_of cells crossings areas robots t
  from_upto t among =
      ⊎_elim
      (λ here. let found = from_range (λ k. things.Cell k) t 0 cells here in let high = found.2 in below_limit t (things.Cell found.0) found.1 (omega arith))
      (λ rest.
      ⊎_elim
      (λ here. let found = from_range (λ k. things.Crossing k) t 0 crossings here in let high = found.2 in below_limit t (things.Crossing found.0) found.1 (omega arith))
      (λ rest.
      ⊎_elim
      (λ here. let found = from_range (λ k. things.Area k) t 0 areas here in let high = found.2 in below_limit t (things.Area found.0) found.1 (omega arith))
      (λ here. let found = from_range (λ k. things.Robot k) t 0 robots here in let high = found.2 in below_limit t (things.Robot found.0) found.1 (omega arith))
      (among_either t (things_of_each (λ k. things.Area k) areas) (things_of_each (λ k. things.Robot k) robots) rest))
      (among_either t (things_of_each (λ k. things.Crossing k) crossings) _ rest))
      (among_either t (things_of_each (λ k. things.Cell k) cells) _ among)

-- names that cover as many things of each kind as there are told
abbrev pub Covers : Named → ℕ → ℕ → ℕ → ℕ → Type 0
Covers names cells crossings areas robots = (t : Thing) → limit_of cells crossings areas robots t ≤ count_of (same_kind t) names

module _ (names : Named) (cells crossings areas robots : ℕ) (declared : AreDeclared names) (covers : Covers names cells crossings areas robots) where
  pub upto_known : (t : Thing) → number_of t < limit_of cells crossings areas robots t → IsNameOf names t
  upto_known t high = let cover = covers t in known_named names t declared (omega arith)

  upto_all : AllByRecursion (IsNameOf names) (things_upto cells crossings areas robots)
  upto_all = all_among (IsNameOf names) (things_upto cells crossings areas robots) (λ t among. upto_known t (from_upto cells crossings areas robots t among))

  -- one of the things is found by its name
  pub upto_found : (t : Thing) → number_of t < limit_of cells crossings areas robots t → thing_of (names_upto names cells crossings areas robots) (name names t) ≡ Some t
  upto_found t high =
      ap (λ (es : Named). thing_of es (name names t)) (upto_named names cells crossings areas robots)
      ∙ found_among names (things_upto cells crossings areas robots) t upto_all (upto_known t high) (in_upto cells crossings areas robots t high)

  -- another one's name is free
  pub upto_free : (t : Thing) → IsKnown names t → limit_of cells crossings areas robots t ≤ number_of t → thing_of (names_upto names cells crossings areas robots) (name names t) ≡ None
  upto_free t known past =
      ap (λ (es : Named). thing_of es (name names t)) (upto_named names cells crossings areas robots)
      ∙ free_among names (things_upto cells crossings areas robots) t upto_all (known_named names t declared known) (λ among. let high = from_upto cells crossings areas robots t among in absurd (omega arith))

-- each thing has the same name there, where all that have one are there
pub upto_same : (names : Named) (cells crossings areas robots : ℕ) (t : Thing) → AreDeclared names → limit_of cells crossings areas robots t ≡ count_of (same_kind t) names → name_of (names_upto names cells crossings areas robots) t ≡ name_of names t
upto_same names cells crossings areas robots t declared counted =
    ap (λ (es : Named). name_of es t) (upto_named names cells crossings areas robots)
    ∙ ⊎_elim
    (λ high.
    named_among names (things_upto cells crossings areas robots) t (in_upto cells crossings areas robots t high)
    ∙ sym (known_named names t declared (omega arith)).named)
    (λ past.
    unnamed_among names (things_upto cells crossings areas robots) t (λ among. let high = from_upto cells crossings areas robots t among in absurd (omega arith))
    ∙ sym (unnamed_past names t 0 (declared.numbers t) (omega arith)))
    (cases_lt (number_of t) (limit_of cells crossings areas robots t))

-- one more thing of a kind
pub each_more : (names : Named) (thing : ℕ → Thing) (n : ℕ) → names_of_each names thing (n + 1) ≡ names_of_each names thing n ++ (name names (thing n), thing n) ∷ []
each_more names thing n = map-range_with_len_more (λ k. (name names (thing k), thing k)) 0 n n (omega arith)

pub robots_more : (names : Named) (cells crossings areas robots : ℕ)
    → names_upto names cells crossings areas (robots + 1) ≡ names_upto names cells crossings areas robots ++ (name names (things.Robot robots), things.Robot robots) ∷ []
robots_more names cells crossings areas robots =
    let c = names_of_each names (λ k. things.Cell k) cells in
    let x = names_of_each names (λ k. things.Crossing k) crossings in
    let a = names_of_each names (λ k. things.Area k) areas in
    let r = names_of_each names (λ k. things.Robot k) robots in
    let last : Named = (name names (things.Robot robots), things.Robot robots) ∷ [] in
    ap (λ (es : Named). c ++ (x ++ (a ++ es))) (each_more names (λ k. things.Robot k) robots)
    ∙ sym (append_assoc c (x ++ (a ++ r)) last ∙ ap (λ (es : Named). c ++ es) (append_assoc x (a ++ r) last ∙ ap (λ (es : Named). x ++ es) (append_assoc a r last)))

-- how many of a kind there are
pub counted_both : (test : Thing → Bool) (xs ys : Named) → count_of test (xs ++ ys) ≡ count_of test xs + count_of test ys
counted_both test xs ys = sum_by-append (λ (e : List ℕ × Thing). cond (test e.1) 1 0) xs ys

pub counted_all : (test : Thing → Bool) (names : Named) (thing : ℕ → Thing) (ns : List ℕ) → ((k : ℕ) → test (thing k) ≡ true) → count_of test (map (λ k. (name names (thing k), thing k)) ns) ≡ length ns
counted_all test names thing [] each = refl
counted_all test names thing (n ∷ ns) each =
    let more = count_of-holds test (name names (thing n), thing n) (map (λ k. (name names (thing k), thing k)) ns) (each n) in
    let rest = counted_all test names thing ns each in
    omega arith

pub counted_none : (test : Thing → Bool) (names : Named) (thing : ℕ → Thing) (ns : List ℕ) → ((k : ℕ) → test (thing k) ≡ false) → count_of test (map (λ k. (name names (thing k), thing k)) ns) ≡ 0
counted_none test names thing [] each = refl
counted_none test names thing (n ∷ ns) each =
    let more = count_of-fails test (name names (thing n), thing n) (map (λ k. (name names (thing k), thing k)) ns) (each n) in
    let rest = counted_none test names thing ns each in
    omega arith

pub robots_counted : (names : Named) (cells crossings areas robots : ℕ) → count_of is_robot (names_upto names cells crossings areas robots) ≡ robots
robots_counted names cells crossings areas robots =
    let c = names_of_each names (λ k. things.Cell k) cells in
    let x = names_of_each names (λ k. things.Crossing k) crossings in
    let a = names_of_each names (λ k. things.Area k) areas in
    let r = names_of_each names (λ k. things.Robot k) robots in
    let first = counted_both is_robot c (x ++ (a ++ r)) in
    let second = counted_both is_robot x (a ++ r) in
    let third = counted_both is_robot a r in
    let no_cells = counted_none is_robot names (λ k. things.Cell k) (numbers_below cells) (λ k. refl) in
    let no_crossings = counted_none is_robot names (λ k. things.Crossing k) (numbers_below crossings) (λ k. refl) in
    let no_areas = counted_none is_robot names (λ k. things.Area k) (numbers_below areas) (λ k. refl) in
    let all_robots = counted_all is_robot names (λ k. things.Robot k) (numbers_below robots) (λ k. refl) in
    let many = length-range_with_len 0 robots in
    omega arith
