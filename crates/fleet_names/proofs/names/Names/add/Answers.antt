use Rattle.std.proofs.Common.{◌≡◌, [], ◌∷◌, ◌++◌, length, None, map, refl, sym, ap, ◌∙◌, arith}
use Rattle.std.specs.Map.{lookup}
use Rattle.indexmap.specs.IndexMap.{get, insert_entry}
use Rattle.indexmap.proofs.CallerLemmas.{insert_entry-new}
use Rattle.fleet_names.specs.Names.{thing_of, count_of}
use Rattle.fleet_names.specs.Things.{same_kind}
use Rattle.fleet_names.specs.Kept.{named, shown}
use Rattle.fleet_names.proofs.Finding.{none_found, none_is}
use Rattle.fleet_names.proofs.Keeping.{IsKept-push, key_eq, lookup_none, shown_more}
use Rattle.fleet_names.proofs.names.Names.add.Goals as goal

pub returns-then-not-is_name-clause-duplicate : goal.returns-then-not-is_name-clause-duplicate
returns-then-not-is_name-clause-duplicate c = (
  λ e. absurd (cc),
  λ some. absurd (none_found c.args.self.now c.args.name.now _ c.len-count.ensures.declared (sym c.is_name.ensures ∙ c.if-not-is_name.true) refl some),
)

is_new : (c : goal.After-unwrap) → thing_of (shown c.self.inside) c.args.name.now ≡ None
is_new c = ap (λ names. thing_of names c.args.name.now) c.self.view_is ∙ sym c.find.ensures.is ∙ none_is c.find.result (sym c.is_some.ensures ∙ c.if-is_some.false)

grown : (c : goal.After-unwrap) → map named c.insert.new.self.entries ≡ shown c.self.inside ++ (c.args.name.now, c.args.thing) ∷ []
grown c =
    let key = c.in_ok-key.key in
    let same : c.reserve.new.self.entries ≡ c.self.inside.things.entries = c.reserve.ensures.entries in
    let none : get key_eq c.reserve.new.self key ≡ None = ap (lookup (key_eq key)) same ∙ lookup_none c.self.inside key.items c.args.name.now c.in_ok-key.ensures.items (is_new c) in
    let entries : c.insert.new.self.entries ≡ insert_entry key_eq c.reserve.new.self.entries key c.args.thing = rw c.unwrap.ensures at c.insert.ensures.entries in
    ap (map named) (entries ∙ insert_entry-new key_eq c.reserve.new.self key c.args.thing none ∙ ap (λ es. es ++ (key, c.args.thing) ∷ []) same)
    ∙ shown_more c.self.inside key c.args.name.now c.args.thing c.in_ok-key.ensures.items

pub invariant_of-self-2 : goal.invariant_of-self-2
invariant_of-self-2 c =
    let count : c.len-count.result ≡ length (shown c.self.inside) = c.len-count.ensures.is ∙ ap length (sym c.self.view_is) in
    IsKept-push c.self.inside (record { things = c.insert.new.self; places = c.push.new.self }) c.args.name.now c.args.thing c.len-count.result c.self.invariant (sym c.is_name.ensures ∙ c.if-not-is_name.false) (is_new c)
    (c.requires ∙ ap (count_of (same_kind c.args.thing)) (sym c.self.view_is))
    (grown c)
    c.in_ok-push.ensures.ok
    count
    (omega arith)

pub returns-clause-ok : goal.returns-clause-ok
returns-clause-ok c = grown c ∙ ap (λ names. names ++ (c.args.name.now, c.args.thing) ∷ []) c.self.view_is
