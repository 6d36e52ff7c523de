use Rattle.std.proofs.Common.{◌≡◌, ap, subst, ◌∙◌}
use Rattle.fleet_names.specs.Names.{thing_of, AreDeclared}
use Rattle.fleet_names.proofs.Finding.{lookup-shown, known_found, named_found}
use Rattle.fleet_names.proofs.names.Names.find.Goals as goal

is_told : (c : goal.After-copied) → c.copied.result ≡ thing_of c.args.self.now c.args.name.now
is_told c =
    c.copied.ensures
    ∙ c.get.ensures.value
    ∙ lookup-shown (λ k. k.items) c.args.name.now c.self.inside.things.entries
    ∙ ap (λ names. thing_of names c.args.name.now) c.self.view_is

pub returns-clause-is : goal.returns-clause-is
returns-clause-is c = is_told c

pub returns-clause-known : goal.returns-clause-known
returns-clause-known c = known_found c.args.self.now c.args.name.now c.copied.result (subst AreDeclared c.self.view_is c.self.invariant.declared) (is_told c)

pub returns-clause-named : goal.returns-clause-named
returns-clause-named c = named_found c.args.self.now c.args.name.now c.copied.result (subst AreDeclared c.self.view_is c.self.invariant.declared) (is_told c)
