-- A robot's last events leave one after another.
use Rattle.std.proofs.Common.{◌≡◌, ℕ, ◌+◌, ◌-◌, ◌<◌, ◌==◌, Bool, true, false, not, ◌||◌, cond, inl, inr, refl, sym, ap, ◌∙◌, subst, List, [], ◌∷◌, ◌++◌, length, take, drop, arith, eq-eqb}
use Rattle.std.specs.List.{filter}
use Rattle.std.proofs.lemmas.Bool.{cases_eq, ne_eqb, not_from_false}
use Rattle.std.proofs.lemmas.List.{append-nil, append_assoc, take-append-drop, take_at, drop_at, length-append, length-take}
use Rattle.std.proofs.lemmas.List.Elements.{filter-append}
use Rattle.std.proofs.lemmas.Option.{slice_get_cases, slice_get_past}
use Rattle.fleet_base.specs.declared.numbers.ClaimGroup.{ClaimGroup}
use Rattle.fleet_base.specs.declared.numbers.Event.{Event}
use Rattle.fleet_model.specs.Lists.{here}
use Rattle.fleet_model.specs.Plans.{own, is_done}
use Rattle.fleet_model.specs.Good.{IsAscending}
use Rattle.fleet_model.proofs.Filters.{filter_all, filter_out, filter_swap}
use Rattle.fleet_model.proofs.Numbers.{IsAscending-filter, IsAscending-own, ascending_apart}
use Rattle.event_graph.specs.Graphs.{IsGraph, without_number, without_events, tail_of}
use Rattle.event_graph.proofs.Changes.{cut_good}
use Rattle.event_graph.proofs.Cuts.{cut_none, cut_some}

same_number : (a b : ℕ) → (a == b) ≡ (b == a)
same_number a b = elim (cases_eq a b) [ inl e ↦ eq-eqb a b e ∙ sym (eq-eqb b a (sym e)) | inr ne ↦ ne_eqb a b ne ∙ sym (ne_eqb b a (λ e. ne (sym e))) ]

-- one event more leaves
one_more : (e : Event) (gone es : List Event) → without_number (without_events es gone) e.no ≡ without_events es (e ∷ gone)
one_more e gone [] = refl
one_more e gone (x ∷ es) = by_tests (is_done gone x) (e.no.0 == x.no.0) (same_number x.no.0 e.no.0) (one_more e gone es)
  where
    by_tests : (d b : Bool) → (x.no.0 == e.no.0) ≡ b → without_number (without_events es gone) e.no ≡ without_events es (e ∷ gone)
        → without_number (cond (not d) (x ∷ without_events es gone) (without_events es gone)) e.no ≡ cond (not (b || d)) (x ∷ without_events es (e ∷ gone)) (without_events es (e ∷ gone))
    by_tests true true q h = h
    by_tests true false q h = h
    by_tests false true q h = ap (λ b. cond (not b) (x ∷ without_number (without_events es gone) e.no) (without_number (without_events es gone) e.no)) q ∙ h
    by_tests false false q h = ap (λ b. cond (not b) (x ∷ without_number (without_events es gone) e.no) (without_number (without_events es gone) e.no)) q ∙ ap (λ xs. x ∷ xs) h

module _ (r : ℕ) (old es : List Event) (rises : IsAscending 0 old) (k : ℕ) (events : es ≡ without_events old (tail_of r k old)) (some : k < length (own r old)) (owns : own r es ≡ take (length (own r old) - k) (own r old)) (front : List Event) (e : Event) (last : own r es ≡ front ++ e ∷ []) where
  all : own r old ≡ front ++ e ∷ tail_of r k old
  all =
      sym (take-append-drop (length (own r old) - k) (own r old))
      ∙ (ap (λ xs. xs ++ tail_of r k old) (sym owns ∙ last) ∙ append_assoc front (e ∷ []) (tail_of r k old))

  front_long : length front ≡ length (own r old) - (k + 1)
  front_long =
      let a = ap length (sym owns ∙ last) in
      let b = length-take (length (own r old) - k) (own r old) in
      let c = length-append front (e ∷ []) in
      omega arith

  pub tail_more : tail_of r (k + 1) old ≡ e ∷ tail_of r k old
  tail_more = ap (λ xs. drop (length (own r old) - (k + 1)) xs) all ∙ drop_at front (e ∷ tail_of r k old) (length (own r old) - (k + 1)) front_long

  pub events_less : without_number es e.no ≡ without_events old (tail_of r (k + 1) old)
  events_less = ap (λ xs. without_number xs e.no) events ∙ (one_more e (tail_of r k old) old ∙ ap (λ gone. without_events old gone) (sym tail_more))

  pub owns_less : own r (without_number es e.no) ≡ take (length (own r old) - (k + 1)) (own r old)
  owns_less =
      filter_swap (λ (x : Event). x.robot.0 == r) (λ (x : Event). not (x.no.0 == e.no.0)) es
      ∙ (ap (λ xs. without_number xs e.no) last
      ∙ (filter-append (λ (x : Event). not (x.no.0 == e.no.0)) front (e ∷ [])
      ∙ (ap (λ xs. filter (λ (x : Event). not (x.no.0 == e.no.0)) front ++ xs) (filter_out (λ (x : Event). not (x.no.0 == e.no.0)) e [] (ap not (eq-eqb e.no.0 e.no.0 refl)))
      ∙ (append-nil (filter (λ (x : Event). not (x.no.0 == e.no.0)) front)
      ∙ (filter_all (λ (x : Event). not (x.no.0 == e.no.0)) front (λ x m. not_from_false (x.no.0 == e.no.0) (ne_eqb x.no.0 e.no.0 (λ q. let a = ascending_apart 0 front (e ∷ []) rising m (here refl) in omega arith)))
      ∙ sym (ap (λ xs. take (length (own r old) - (k + 1)) xs) all ∙ take_at front (e ∷ tail_of r k old) (length (own r old) - (k + 1)) front_long))))))
    where
      rising : IsAscending 0 (front ++ e ∷ [])
      rising = subst (λ xs. IsAscending 0 xs) last (IsAscending-own r 0 es (subst (λ xs. IsAscending 0 xs) (sym events) (IsAscending-filter (λ x. not (is_done (tail_of r k old) x)) 0 old rises)))

-- a graph without a robot's last events
pub tail_good : (robots : ℕ) (groups : List ClaimGroup) (events : List Event) (next r count : ℕ) → IsGraph robots groups events next → IsGraph robots groups (without_events events (tail_of r count events)) next
tail_good robots groups events next r count good =
    elim (slice_get_cases (own r events) (length (own r events) - count)).1 [
      | inl x ↦ subst (λ es. IsGraph robots groups es next) (cut_some r count events x.0 good.ascends x.2) (cut_good robots groups events next good r x.0.no.0)
      | inr n ↦ subst (λ es. IsGraph robots groups es next) (sym (cut_none r count events n.1)) good
    ]

-- no events leave
pub tail_none : (r : ℕ) (es : List Event) → es ≡ without_events es (tail_of r 0 es)
tail_none r es = sym (cut_none r 0 es (slice_get_past (own r es) (length (own r es) - 0) (omega arith)))
