use Rattle.std.proofs.Common.{◌≡◌, ℕ, ◌+◌, ◌∙◌, refl, sym, ap, length, get_or, arith, Some, false, List, [], ◌∷◌, ◌++◌}
use Rattle.std.specs.HashMap.{get}
use Rattle.std.specs.Prelude.{nat_eq, slice_get}
use Rattle.std.proofs.lemmas.List.{length-append}
use Rattle.std.proofs.lemmas.Option.{slice_get-get_or}
use Rattle.fleet_base.specs.declared.numbers.ClaimGroup.{ClaimGroup}
use Rattle.claim_reach.specs.declared.Reach.{Reach}
use Rattle.claim_reach.specs.Reaches.{SpansGroup}
use Rattle.claim_reach.proofs.Conflicts.{conflict_within, single_reach}
use Rattle.claim_reach.proofs.Widening.{one_pair_more, spanned, found_span}
use Rattle.claim_reach.proofs.reaches.Goals as goal

length_more : (rs : List Reach) (r : Reach) (n : ℕ) → length rs ≡ n → length (rs ++ r ∷ []) ≡ n + 1
length_more rs r n h = length-append rs (r ∷ []) ∙ ap (λ m. m + 1) h

-- what stands for a claim that isn't there
abbrev blank : ClaimGroup
blank = record { group = 0; alone = false }

pub unreachable-requires : goal.unreachable-requires
unreachable-requires c =
    let groups = c.args.groups.now in
    let g = get_or groups c.loop-claim.claim-index blank in
    let here : slice_get groups c.loop-claim.claim-index ≡ Some g = slice_get-get_or groups c.loop-claim.claim-index blank c.loop-claim-test.true in
    spanned groups g.group (get nat_eq c.in_ok-spans.spans g.group) (c.in_ok-spans.ensures g.group) (sym c.in_default.ensures.value) c.loop-claim.claim-index (g, here, refl)

pub loop-claim-preserved : goal.loop-claim-preserved
loop-claim-preserved c =
    let groups = c.args.groups.now in
    let old = c.loop-claim.reaches.items in
    let reach = c.in-Some.span.now in
    let g = get_or groups c.loop-claim.claim-index blank in
    let here : slice_get groups c.loop-claim.claim-index ≡ Some g = slice_get-get_or groups c.loop-claim.claim-index blank c.loop-claim-test.true in
    let long = c.loop-claim.invariant.long in
    let spans : SpansGroup groups g.group reach = found_span groups g.group (get nat_eq c.in_ok-spans.spans g.group) (c.in_ok-spans.ensures g.group) reach (sym c.in-Some.ensures.value) in
    record {
      long = ap length c.push_reserved.ensures.items ∙ length_more old reach c.loop-claim.claim-index long;
      spans = λ i u v at_u at_v. one_pair_more (λ (h : ClaimGroup) (r : Reach). SpansGroup groups h.group r) groups old g reach (ap (λ n. slice_get groups n) long ∙ here) spans c.loop-claim.invariant.spans i u v at_u (ap (λ (rs : List Reach). slice_get rs i) (sym c.push_reserved.ensures.items) ∙ at_v);
    }

pub returns-clause-conflicts : goal.returns-clause-conflicts
returns-clause-conflicts c = conflict_within c.args.groups.now c.loop-claim.reaches.items (record { long = let l = c.loop-claim.invariant.long in omega arith; spans = c.loop-claim.invariant.spans })

pub returns-clause-single : goal.returns-clause-single
returns-clause-single c = single_reach c.args.groups.now c.loop-claim.reaches.items (record { long = let l = c.loop-claim.invariant.long in omega arith; spans = c.loop-claim.invariant.spans })
