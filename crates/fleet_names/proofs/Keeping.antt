-- How names are kept: the fields of a value.
use Rattle.std.proofs.Common.{◌≡◌, ℕ, ◌+◌, ◌-◌, ◌^◌, ◌<◌, Bool, true, cond, List, [], ◌∷◌, ◌++◌, length, get_or, slice_get, Some, None, map, Vec, Global, sym, ap, subst, ◌∙◌, length-append, arith}
use Rattle.std.specs.Str.{bytes_eq}
use Rattle.std.specs.Map.{lookup}
use Rattle.std.proofs.lemmas.List.{map-append}
use Rattle.std.proofs.lemmas.List.Sums.{count_by-le-length}
use Rattle.fleet_names.specs.declared.thing.Thing.{Thing}
use Rattle.fleet_names.specs.declared.names.Names.TheInside.{Inside}
use Rattle.fleet_names.specs.Things.{number_of, same_kind}
use Rattle.fleet_names.specs.Names.{Named, is_name, thing_of, name_of, count_of}
use Rattle.fleet_names.specs.Places.{places_in, places_of}
use Rattle.fleet_names.specs.Kept.{named, shown, IsKept}
use Rattle.fleet_names.proofs.Adding.{AreDeclared-push, places_of-push, placed_more, length-places_of}
use Rattle.fleet_names.proofs.Finding.{IsAt, at_place, named_at, lookup-shown}

-- as many places are kept for a kind as things of the kind have names
pub kind_counted : (n : Inside) (t : Thing) → IsKept n → length (places_in n.places t) ≡ count_of (same_kind t) (shown n)
kind_counted n t kept = ap length (kept.placed t) ∙ length-places_of (same_kind t) 0 (shown n)

pub kind_fits : (n : Inside) (t : Thing) → IsKept n → length (places_in n.places t) < 2 ^ 32
kind_fits n t kept =
    let counted = kind_counted n t kept in
    let le = count_by-le-length (λ (e : List ℕ × Thing). same_kind t e.1) (shown n) in
    let small = kept.small in
    omega arith

-- where the name of a thing stands
pub text_at : (n : Inside) (t : Thing) → IsKept n → number_of t < count_of (same_kind t) (shown n) → IsAt (shown n) t 0 (get_or (places_in n.places t) (number_of t) 0)
text_at n t kept lt =
    let first : number_of t - 0 ≡ number_of t = omega arith in
    let place : get_or (places_of (same_kind t) 0 (shown n)) (number_of t - 0) 0 ≡ get_or (places_in n.places t) (number_of t) 0 =
    ap (λ ps. get_or ps (number_of t - 0) 0) (sym (kept.placed t)) ∙ ap (λ i. get_or (places_in n.places t) i 0) first in
    subst (λ q. IsAt (shown n) t 0 q) place (at_place (shown n) t 0 0 (kept.declared.numbers t) (omega arith) (omega arith))

-- the name that stands there
pub record IsText (es : Named) (t : Thing) (name : List ℕ) : Type 0 where
  pub named : name_of es t ≡ Some name
  pub name_ok : is_name name ≡ true
  pub found : thing_of es name ≡ Some t

pub text_is : (n : Inside) (t : Thing) (name : List ℕ) (other : Thing) → IsKept n → number_of t < count_of (same_kind t) (shown n) → slice_get (shown n) (get_or (places_in n.places t) (number_of t) 0) ≡ Some (name, other) → IsText (shown n) t name
text_is n t name other kept lt is =
    let at = text_at n t kept lt in
    let place : get_or (places_in n.places t) (number_of t) 0 ≡ at.at = let e = at.is in omega arith in
    let entry : Some (name, other) ≡ Some (at.name, t) = sym is ∙ ap (slice_get (shown n)) place ∙ at.entry in
    let pairs : (let pair : List ℕ × Thing = (name, other) in pair ≡ (at.name, t)) = cc in
    let same : at.name ≡ name = sym (ap (λ (p : List ℕ × Thing). p.0) pairs) in
    let kept_name = named_at (shown n) at.at at.name t kept.declared.differ at.entry in
    record {
      named = at.named ∙ ap (λ (bytes : List ℕ). Some bytes) same;
      name_ok = ap is_name (sym same) ∙ kept_name.name_ok;
      found = ap (thing_of (shown n)) (sym same) ∙ kept_name.found;
    }

-- one name more
pub IsKept-push : (old new : Inside) (name : List ℕ) (t : Thing) (place : ℕ) → IsKept old → is_name name ≡ true → thing_of (shown old) name ≡ None → number_of t ≡ count_of (same_kind t) (shown old)
    → shown new ≡ shown old ++ (name, t) ∷ [] → ((other : Thing) → places_in new.places other ≡ cond (same_kind other t) (places_in old.places other ++ place ∷ []) (places_in old.places other)) → place ≡ length (shown old)
    → place + 1 < 2 ^ 32 → IsKept new
IsKept-push old new name t place kept good none next is placed last room = record {
  declared = rw is (AreDeclared-push (shown old) name t kept.declared good none next);
  placed = λ other.
      placed other
      ∙ placed_more (same_kind other t) (places_in old.places other) place
      ∙ ap (λ ps. ps ++ cond (same_kind other t) (place ∷ []) []) (kept.placed other)
      ∙ ap (λ q. places_of (same_kind other) 0 (shown old) ++ cond (same_kind other t) (q ∷ []) []) (place_is last)
      ∙ sym (places_of-push (same_kind other) 0 (shown old) name t)
      ∙ ap (places_of (same_kind other) 0) (sym is);
  small = let more = ap length is ∙ length-append (shown old) ((name, t) ∷ []) in omega arith;
}
  where
    place_is : place ≡ length (shown old) → place ≡ 0 + length (shown old)
    place_is e = omega arith

-- whether two keys of the map are equal
abbrev pub key_eq : Vec ℕ Global → Vec ℕ Global → Bool
key_eq a b = bytes_eq a.items b.items

-- the map doesn't find a name that isn't there, and a new one goes last
pub lookup_none : (n : Inside) (key name : List ℕ) → key ≡ name → thing_of (shown n) name ≡ None → lookup (λ k. bytes_eq key k.items) n.things.entries ≡ None
lookup_none n key name same none = lookup-shown (λ k. k.items) key n.things.entries ∙ ap (thing_of (shown n)) same ∙ none

pub shown_more : (n : Inside) (key : Vec ℕ Global) (name : List ℕ) (t : Thing) → key.items ≡ name → map named (n.things.entries ++ (key, t) ∷ []) ≡ shown n ++ (name, t) ∷ []
shown_more n key name t same = map-append named n.things.entries ((key, t) ∷ []) ∙ ap (λ bytes. shown n ++ (bytes, t) ∷ []) same
