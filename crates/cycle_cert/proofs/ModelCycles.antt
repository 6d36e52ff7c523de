-- The least cycle is the one that the model finds among all short lists.
use Rattle.std.proofs.Common.{◌≡◌, ℕ, ◌<◌, Bool, true, refl, subst, List, [], ◌∷◌, Option, Some, None, unwrap_or}
use Rattle.std.proofs.lemmas.Bool.{both_ways, false_from_ne_true}
use Rattle.std.specs.List.{filter}
use Rattle.fleet_model.specs.Lists.{In, least}
use Rattle.fleet_model.specs.Cycles.{is_cycle, precedes, IsLeastCycle, lists_within, cycle_through}
use Rattle.fleet_model.proofs.Cycles.{precedes_total, precedes_itself, precedes_trans, one_least, cycle_distinct, In_lists_within}
use Rattle.fleet_model.proofs.Distinct.{distinct_length}
use Rattle.fleet_model.proofs.Leasts.{least_none, least_in, least_first}
use Rattle.fleet_model.proofs.Lists.{In-nil, In-filter, In_unfilter}
use Rattle.cycle_cert.proofs.LeastWays.{cycle_inside}

module _ (edge : ℕ → ℕ → Bool) (n r : ℕ) (bounded : (a b : ℕ) → edge a b ≡ true → b < n) where
  -- the cycles of a relation to numbers below n
  abbrev listed : List (List ℕ)
  listed = filter (is_cycle edge r) (lists_within n n)

  -- each cycle is listed
  is_listed : (ys : List ℕ) → is_cycle edge r ys ≡ true → In ys listed
  is_listed ys h =
      let inside = cycle_inside edge n r bounded ys h in
      In-filter (is_cycle edge r) (lists_within n n) (In_lists_within n n ys (distinct_length n ys (cycle_distinct edge r ys h) inside) inside) h

  -- the model's cycle is the least
  model_least : IsLeastCycle edge r (cycle_through n edge r)
  model_least = go (least precedes listed) refl
    where
      go : (o : Option (List ℕ)) → least precedes listed ≡ o → IsLeastCycle edge r (unwrap_or o [])
      go None e = λ ys. false_from_ne_true (is_cycle edge r ys) (λ h. In-nil (subst (λ xs. In ys xs) (least_none precedes listed e) (is_listed ys h)))
      go (Some []) e = absurd (both_ways (is_cycle edge r []) refl (In_unfilter (is_cycle edge r) (lists_within n n) (least_in precedes listed [] e)).1)
      go (Some (x ∷ xs)) e = (
        (In_unfilter (is_cycle edge r) (lists_within n n) (least_in precedes listed (x ∷ xs) e)).1,
        λ ys h. least_first precedes precedes_total precedes_itself precedes_trans listed (x ∷ xs) ys e (is_listed ys h),
      )

  -- the least cycle is the model's
  pub least_is_model : (xs : List ℕ) → IsLeastCycle edge r xs → xs ≡ cycle_through n edge r
  least_is_model xs h = one_least edge r xs (cycle_through n edge r) h model_least
