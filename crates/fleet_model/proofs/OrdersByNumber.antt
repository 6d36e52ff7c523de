-- Where the events that pass a test wait for nothing but what is done or passes with a smaller number, they are an order by number.
use Rattle.std.proofs.Common.{◌≡◌, ◌+◌, ◌<◌, Bool, true, false, cond, ◌⊎◌, inl, inr, refl, sym, ap, ◌∙◌, subst, List, [], ◌∷◌, ◌++◌, arith, append_assoc}
use Rattle.std.proofs.lemmas.List.{append-nil}
use Rattle.std.proofs.lemmas.List.Elements.{filter-append}
use Rattle.std.specs.List.{filter}
use Rattle.fleet_base.specs.declared.numbers.Event.{Event}
use Rattle.fleet_model.specs.Lists.{In, here}
use Rattle.fleet_model.specs.Plans.{is_done, IsReady, IsOrder}
use Rattle.fleet_model.specs.Good.{IsAscending}
use Rattle.fleet_model.proofs.Lists.{In_either, In-append_right, In-append_cases, In-filter, In_unfilter}
use Rattle.fleet_model.proofs.Numbers.{low_bound, ascending_apart, ascending_behind, done_in, done_left, done_right, done_neither, done_none}
use Rattle.fleet_model.proofs.Filters.{filter_in, filter_out}

module _ (behind : Event → Event → Type 0) (plan done : List Event) (p : Event → Bool) (ascends : IsAscending 1 plan)
    (fresh : (e : Event) → In e plan → p e ≡ true → is_done done e ≡ false)
    (closed : (e f : Event) → In e plan → p e ≡ true → In f plan → behind e f → (is_done done f ≡ true) ⊎ ((p f ≡ true) × (f.no.0 < e.no.0))) where
  -- each event that passes is ready behind those in front of it that pass
  ready_at : (front : List Event) (e : Event) (back : List Event) → plan ≡ front ++ e ∷ back → p e ≡ true → IsReady behind plan (done ++ filter p front) e
  ready_at front e back h t = record {
    planned = planned;
    undone = done_neither done (filter p front) e (fresh e planned t) (done_none (filter p front) e (λ g i n. let l = ascending_apart 1 front (e ∷ back) rises (In_unfilter p front i).0 (here refl) in omega arith));
    waited = λ f i b. elim (closed e f planned t i b) [ inl d ↦ done_left done (filter p front) f d | inr x ↦ done_right done (filter p front) f (in_front f x.0 x.1 (In-append_cases front (e ∷ back) (subst (λ es. In f es) h i))) ];
  }
    where
      rises : IsAscending 1 (front ++ e ∷ back)
      rises = subst (λ es. IsAscending 1 es) h ascends

      planned : In e plan
      planned = subst (λ es. In e es) (sym h) (In-append_right front (e ∷ back) (here refl))

      in_front : (f : Event) → p f ≡ true → f.no.0 < e.no.0 → In f front ⊎ In f (e ∷ back) → is_done (filter p front) f ≡ true
      in_front f q l (inl i) = done_in (filter p front) (In-filter p front i q)
      in_front f q l (inr i) = In_either i (λ k. absurd (omega (arith, ap (λ (x : Event). x.no.0) k))) (λ k. let b = low_bound (e.no.0 + 1) back (ascending_behind 1 front (e ∷ back) rises).1 k in absurd (omega arith))

  -- an order goes on over one more event, which passes or not
  order_step : (front : List Event) (e : Event) (back : List Event) (b : Bool) → plan ≡ front ++ e ∷ back → p e ≡ b → IsOrder behind plan (done ++ filter p (front ++ e ∷ [])) (filter p back)
      → IsOrder behind plan (done ++ filter p front) (cond b (e ∷ filter p back) (filter p back))
  order_step front e back true h t rest = (
    ready_at front e back h t,
    subst (λ d. IsOrder behind plan d (filter p back)) (ap (λ es. done ++ es) (filter-append p front (e ∷ []) ∙ ap (λ es. filter p front ++ es) (filter_in p e [] t)) ∙ sym (append_assoc done (filter p front) (e ∷ []))) rest,
  )
  order_step front e back false h t rest =
      subst (λ d. IsOrder behind plan d (filter p back)) (ap (λ es. done ++ es) (filter-append p front (e ∷ []) ∙ (ap (λ es. filter p front ++ es) (filter_out p e [] t) ∙ append-nil (filter p front)))) rest

  -- what passes of the rest is an order once what passes in front is done
  order_from : (front back : List Event) → plan ≡ front ++ back → IsOrder behind plan (done ++ filter p front) (filter p back)
  order_from front [] h = tt
  order_from front (e ∷ back) h = order_step front e back (p e) h refl (order_from (front ++ e ∷ []) back (h ∙ sym (append_assoc front (e ∷ []) back)))

  -- the events that pass are an order
  pub filter_order : IsOrder behind plan done (filter p plan)
  filter_order = subst (λ d. IsOrder behind plan d (filter p plan)) (append-nil done) (order_from [] plan refl)
