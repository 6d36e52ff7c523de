use Rattle.std.proofs.Common.{◌≡◌, ◌<◌, ℕ, List, Some, length, get_or, slice_get, refl, sym, ap, subst, ◌∙◌, arith}
use Rattle.std.specs.Option.{option_map}
use Rattle.std.specs.HashMap.{hash_map_len}
use Rattle.std.specs.Map.Iter.{deref_pair}
use Rattle.std.proofs.lemmas.List.{length-map}
use Rattle.std.proofs.lemmas.Option.{slice_get-map}
use Rattle.fleet_names.specs.Things.{number_of, same_kind}
use Rattle.fleet_names.specs.Names.{count_of}
use Rattle.fleet_names.specs.Places.{places_in}
use Rattle.fleet_names.specs.Kept.{named, shown}
use Rattle.fleet_names.proofs.Keeping.{kind_counted, text_at, text_is, IsText}
use Rattle.fleet_names.proofs.names.Names.text.Goals as goal

pub bounds-of_kind-number : goal.bounds-of_kind-number
bounds-of_kind-number c =
    let counted = kind_counted c.self.inside c.args.thing c.self.invariant in
    let places = ap length c.of_kind.ensures in
    let same = ap (count_of (same_kind c.args.thing)) c.self.view_is in
    omega arith

pub unwrap-requires : goal.unwrap-requires
unwrap-requires c =
    let lt = subst (λ names. number_of c.args.thing < count_of (same_kind c.args.thing) names) (sym c.self.view_is) c.requires in
    let at = text_at c.self.inside c.args.thing c.self.invariant lt in
    let is = at.is in
    let within = at.within in
    let all : length (shown c.self.inside) ≡ hash_map_len c.self.inside.things = length-map c.self.inside.things.entries named in
    let place : get_or c.of_kind.result.now c.number.result 0 ≡ get_or (places_in c.self.inside.places c.args.thing) (number_of c.args.thing) 0 = rw (c.of_kind.ensures, c.number.ensures) refl in
    c.get_index.ensures.found.1 (omega arith)

text_told : (c : goal.After-as_slice) → IsText c.args.self.now c.args.thing c.as_slice.result.now
text_told c =
    let lt = subst (λ names. number_of c.args.thing < count_of (same_kind c.args.thing) names) (sym c.self.view_is) c.requires in
    let place : get_or c.of_kind.result.now c.number.result 0 ≡ get_or (places_in c.self.inside.places c.args.thing) (number_of c.args.thing) 0 = rw (c.of_kind.ensures, c.number.ensures) refl in
    let entry : slice_get (shown c.self.inside) (get_or (places_in c.self.inside.places c.args.thing) (number_of c.args.thing) 0) ≡ Some (c.as_slice.result.now, c.unwrap.result.1.now) =
    ap (slice_get (shown c.self.inside)) (sym place)
    ∙ slice_get-map named c.self.inside.things.entries (get_or c.of_kind.result.now c.number.result 0)
    ∙ ap (option_map named) (sym c.get_index.ensures.entry ∙ ap (option_map deref_pair) c.unwrap.ensures)
    ∙ ap (λ (bytes : List ℕ). Some (bytes, c.unwrap.result.1.now)) (sym c.as_slice.ensures.value) in
    subst (λ names. IsText names c.args.thing c.as_slice.result.now) c.self.view_is (text_is c.self.inside c.args.thing c.as_slice.result.now c.unwrap.result.1.now c.self.invariant lt entry)

pub returns-clause-is : goal.returns-clause-is
returns-clause-is c = (text_told c).named

pub returns-clause-name : goal.returns-clause-name
returns-clause-name c = (text_told c).name_ok

pub returns-clause-found : goal.returns-clause-found
returns-clause-found c = (text_told c).found
