use Rattle.std.proofs.Common.{◌≡◌, ◌+◌, ◌∙◌, inl, inr, sym, subst, length, get_or, arith, Option, Some, false}
use Rattle.std.specs.HashMap.{get}
use Rattle.std.specs.Prelude.{nat_eq, slice_get, MatchOption}
use Rattle.std.proofs.lemmas.Bool.{cases_eq, ne_eqb}
use Rattle.std.proofs.lemmas.Option.{slice_get-get_or}
use Rattle.fleet_base.specs.declared.numbers.ClaimGroup.{ClaimGroup}
use Rattle.claim_reach.specs.declared.Reach.{Reach}
use Rattle.claim_reach.proofs.Widening.{IsSpanBelow, one_more, others_stay, whole_span}
use Rattle.claim_reach.proofs.spans.Goals as goal

-- what stands for a claim that isn't there
abbrev blank : ClaimGroup
blank = record { group = 0; alone = false }

pub loop-place-preserved : goal.loop-place-preserved
loop-place-preserved c group =
    let groups = c.args.groups.now in
    let place = c.loop-place.place in
    let g = get_or groups place blank in
    let here : slice_get groups place ≡ Some g = slice_get-get_or groups place blank c.loop-place-test.true in
    let span : Option Reach = get nat_eq c.loop-place.spans g.group in
    let found : c.copied-span.result ≡ span = c.copied-span.ensures ∙ c.get.ensures.value in
    let new : Reach = c.widened.result in
    let first : MatchOption span (new.first ≡ place) (λ old. new.first ≡ old.first) = subst (λ (o : Option Reach). MatchOption o (new.first ≡ place) (λ old. new.first ≡ old.first)) found c.widened.ensures.first in
    let wide : IsSpanBelow groups (place + 1) g.group (Some new) = one_more groups place g here span new (c.loop-place.invariant g.group) first c.widened.ensures.end in
    elim (cases_eq group g.group) [
      | inl same ↦ subst (λ n. IsSpanBelow groups (place + 1) n (get nat_eq c.insert.new.self n)) (sym same) (subst (IsSpanBelow groups (place + 1) g.group) (sym c.in_ok-insert.ensures.updates.1) wide)
      | inr other ↦ subst (IsSpanBelow groups (place + 1) group) (sym (c.in_ok-insert.ensures.updates.2 group (ne_eqb g.group group (λ e. other (sym e))))) (others_stay groups place g here group (get nat_eq c.loop-place.spans group) other (c.loop-place.invariant group))
    ]

pub returns : goal.returns
returns c group =
    let groups = c.args.groups.now in
    let all : c.loop-place.place ≡ length groups = omega arith in
    whole_span groups group _ (subst (λ n. IsSpanBelow groups n group (get nat_eq c.loop-place.spans group)) all (c.loop-place.invariant group))
