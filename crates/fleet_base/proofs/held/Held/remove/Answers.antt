use Rattle.std.proofs.Common.{◌≡◌, ◌<◌, rules, sym, subst, ◌∙◌, length, take, get_or, arith}
use Rattle.std.proofs.lemmas.List.{length-set, get_or_default}
use Rattle.std.proofs.lemmas.List.Filters.{FiltersInPlace-more_no, FiltersInPlace-more_set}
use Rattle.fleet_base.specs.Lists.{RiseFrom}
use Rattle.fleet_base.proofs.ClaimLemmas.{RiseFrom-filter}
use Rattle.fleet_base.proofs.held.Held.remove.Goals as goal
use Rattle.fleet_base.proofs.held.Held.remove.Goals.{then-held-claim, else-held-claim}

pub loop-place-preserved : goal.loop-place-preserved
loop-place-preserved c =
    let lt : c.loop-place.place < length c.loop-place.self-inside.places = omega (arith, c.loop-place.invariant.size, c.loop-place-test.true, c.self.invariant.short) in
    elim c.if-held-claim.branch [
      | then-held-claim w ↦ rw (w.self-inside-is, w.kept-is) (record {
        count = c.loop-place.invariant.count;
        size = length-set _ _ _ ∙ c.loop-place.invariant.size;
        filters = FiltersInPlace-more_set c.loop-place.invariant.filters lt (search rules) (get_or_default _ _ _ _ lt);
      })
      | else-held-claim w ↦ rw (w.self-inside-is, w.kept-is) (record {
        count = c.loop-place.invariant.count;
        size = c.loop-place.invariant.size;
        filters = FiltersInPlace-more_no {x = get_or c.loop-place.self-inside.places c.loop-place.place (record { 0 = 0 })} c.loop-place.invariant.filters lt (search rules) (get_or_default _ _ _ _ lt);
      })
    ]

pub invariant_of-self : goal.invariant_of-self
invariant_of-self c =
    let all : c.loop-place.place ≡ c.self.inside.count = omega arith in
    record {
      ascending = subst (RiseFrom 0) (sym c.loop-place.invariant.filters.front) (RiseFrom-filter _ 0 _ (subst (λ n. RiseFrom 0 (take n c.self.inside.places)) (sym all) c.self.invariant.ascending));
      short = omega (arith, c.loop-place.invariant.filters.behind, c.self.invariant.short);
    }
