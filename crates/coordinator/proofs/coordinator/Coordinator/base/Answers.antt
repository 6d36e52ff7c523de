use Rattle.std.proofs.Common.{◌≡◌, ◌-◌, length, Some, ap, sym, subst, ◌∙◌, arith}
use Rattle.std.specs.Prelude.{slice_get}
use Rattle.std.specs.Option.{option_copied}
use Rattle.coordinator.specs.Books.{Book, state_of}
use Rattle.coordinator.proofs.KeptNext.{base_is, good}
use Rattle.coordinator.proofs.coordinator.Coordinator.base.Goals as goal

pub returns-in-Some-clause-value : goal.returns-in-Some-clause-value
returns-in-Some-clause-value c =
    let at : slice_get c.self.inside.marks.items (length c.self.inside.marks.items - 1) ≡ Some c.in-Some.mark.now =
    ap (λ xs. slice_get xs (length xs - 1)) (sym c.deref.ensures.value) ∙ (sym c.last.ensures.value ∙ ap option_copied c.in-Some.is) in
    sym (subst (λ (b : Book). (state_of b).base ≡ c.in-Some.mark.now.before) c.self.view_is (base_is c.self.inside c.self.invariant c.in-Some.mark.now at))

pub returns-in-Some-clause-small : goal.returns-in-Some-clause-small
returns-in-Some-clause-small c =
    let at : slice_get c.self.inside.marks.items (length c.self.inside.marks.items - 1) ≡ Some c.in-Some.mark.now =
    ap (λ xs. slice_get xs (length xs - 1)) (sym c.deref.ensures.value) ∙ (sym c.last.ensures.value ∙ ap option_copied c.in-Some.is) in
    let now = good c.self.inside c.self.invariant in
    omega (arith, base_is c.self.inside c.self.invariant c.in-Some.mark.now at, now.base, now.total)
