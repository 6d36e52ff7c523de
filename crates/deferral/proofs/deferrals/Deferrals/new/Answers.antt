use Rattle.std.proofs.Common.{◌≡◌, ◌∙◌, sym, ap, subst, length, List, [], None, Option, get_or, arith}
use Rattle.std.proofs.lemmas.List.{length-replicate}
use Rattle.fleet_base.specs.declared.numbers.ClaimGroup.{ClaimGroup}
use Rattle.fleet_base.specs.declared.numbers.ClaimNo.{ClaimNo}
use Rattle.claim_reach.specs.Reaches.{AreReaches}
use Rattle.deferral.specs.declared.pending.Pending.{Pending}
use Rattle.deferral.specs.Backlogs.{is_kept, is_needed}
use Rattle.deferral.proofs.Blanks.{get_or-blank}
use Rattle.deferral.proofs.deferrals.Deferrals.new.Goals as goal

pub invariant_of-result : goal.invariant_of-result
invariant_of-result c =
    let blank : List ClaimNo = [] in
    let nothing : Option Pending = None in
    let told = c.in_ok-groups.ensures.items in
    let groups : length c.in_ok-groups.groups.items ≡ length c.args.groups.now = ap (λ (gs : List ClaimGroup). length gs) told in
    let pending : length c.loop-robot.pending.items ≡ c.loop-robot._robot = ap length c.loop-robot.invariant.0 ∙ length-replicate c.loop-robot._robot nothing in
    let ends : length c.loop-robot.ends.items ≡ c.loop-robot._robot = ap length c.loop-robot.invariant.1 ∙ length-replicate c.loop-robot._robot blank in
    record {
      claims = (let h = c.requires.claims_limit in omega arith);
      robots = (let h = c.requires.robots_limit in omega arith);
      ends = ends ∙ sym pending;
      reaches = subst (λ (gs : List ClaimGroup). AreReaches gs c.in_ok-reaches.reaches.items) (sym told) c.in_ok-reaches.ensures.groups;
      needed_claims = c.in_ok-tally.ensures.needed_claims ∙ sym groups;
      kept_claims = c.in_ok-tally.ensures.kept_claims ∙ sym groups;
      needed = λ n r below. c.in_ok-tally.ensures.needed n r ∙ sym (ap (λ p. is_needed p n) (ap (λ xs. get_or xs r nothing) c.loop-robot.invariant.0 ∙ get_or-blank nothing c.loop-robot._robot r));
      kept = λ n q below. c.in_ok-tally.ensures.kept n q ∙ sym (ap (λ end. is_kept c.in_ok-groups.groups.items end n) (ap (λ xs. get_or xs q blank) c.loop-robot.invariant.1 ∙ get_or-blank blank c.loop-robot._robot q));
    }
