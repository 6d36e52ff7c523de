-- What deferrals show, once a pending route or an end has changed.
use Rattle.std.proofs.Common.{◌≡◌, ℕ, zero, suc, ◌∷◌, arith, ◌<◌, ◌==◌, inl, inr, refl, sym, ap, subst, ◌∙◌, List, [], length, get_or, set, Option, Some, None, get_or-set_same, get_or-set_other}
use Rattle.std.proofs.lemmas.Bool.{cases_eq}
use Rattle.std.specs.Prelude.{slice_get}
use Rattle.std.specs.List.{list_any}
use Rattle.std.specs.Option.{option_map, unwrap_or}
use Rattle.fleet_base.specs.declared.numbers.CellNo.{CellNo}
use Rattle.fleet_base.specs.declared.numbers.ClaimNo.{ClaimNo}
use Rattle.fleet_model.specs.Sites.{Site, footprint_of, needs}
use Rattle.fleet_model.specs.Deferral.{ends}
use Rattle.fleet_model.specs.States.{State}
use Rattle.fleet_model.specs.States as model
use Rattle.fleet_model.specs.Calls.{moved}
use Rattle.deferral.specs.declared.pending.Pending.{Pending}
use Rattle.deferral.specs.Backlogs.{Backlog, is_needed, pending_of, route_of}
use Rattle.deferral.specs.Laws.{Shows}

set_there : {A : Type 0} (xs : List A) (r : ℕ) (a : A) → r < length xs → slice_get (set xs r a) r ≡ Some a
set_there [] r a within = absurd (omega arith)
set_there (x ∷ xs) zero a within = refl
set_there (x ∷ xs) (suc r) a within = set_there xs r a (omega arith)

set_elsewhere : {A : Type 0} (xs : List A) (r q : ℕ) (a : A) → (q ≡ r → ⊥) → slice_get (set xs r a) q ≡ slice_get xs q
set_elsewhere [] r q a other = refl
set_elsewhere (x ∷ xs) zero zero a other = absurd (other refl)
set_elsewhere (x ∷ xs) zero (suc q) a other = refl
set_elsewhere (x ∷ xs) (suc r) zero a other = refl
set_elsewhere (x ∷ xs) (suc r) (suc q) a other = set_elsewhere xs r q a (λ e. other (ap (λ n. suc n) e))

-- what is pending needs the claims of its route
abbrev pub IsNeeding : Site → Option Pending → Type 0
IsNeeding site x = (c : ℕ) → is_needed x c ≡ list_any (λ d. d.0 == c) (needs site (unwrap_or (option_map (λ p. p.route) x) []))

module _ (b : Backlog) (s : State) (r : ℕ) (x : Option Pending) (shows : Shows b s) (place : r < length b.pending) (same : r < length s.pending) (needing : IsNeeding s.fleet.site x) where
  abbrev route : Option (List CellNo)
  route = option_map (λ p. p.route) x

  abbrev after : Backlog
  after = record b { pending = set b.pending r x }

  abbrev state : State
  state = moved s s.fleet r route

  routes : (q : ℕ) → route_of after q ≡ model.pending_of state q
  routes q =
      elim (cases_eq q r) [
        | inl is ↦
            subst (λ k. route_of after k ≡ model.pending_of state k) (sym is)
            (ap (option_map (λ p. p.route)) (get_or-set_same b.pending r x None place) ∙ sym (get_or-set_same s.pending r route None same))
        | inr other ↦
            ap (option_map (λ p. p.route)) (get_or-set_other b.pending r q x None other) ∙ shows.routes q ∙ sym (get_or-set_other s.pending r q route None other)
      ]

  needed : (q c : ℕ) → is_needed (pending_of after q) c ≡ list_any (λ d. d.0 == c) (needs s.fleet.site (unwrap_or (model.pending_of state q) []))
  needed q c =
      elim (cases_eq q r) [
        | inl is ↦
            subst (λ k. is_needed (pending_of after k) c ≡ list_any (λ d. d.0 == c) (needs s.fleet.site (unwrap_or (model.pending_of state k) []))) (sym is)
            (ap (λ p. is_needed p c) (get_or-set_same b.pending r x None place) ∙ needing c ∙ ap (λ p. list_any (λ d. d.0 == c) (needs s.fleet.site (unwrap_or p []))) (sym (get_or-set_same s.pending r route None same)))
        | inr other ↦
            ap (λ p. is_needed p c) (get_or-set_other b.pending r q x None other)
            ∙ shows.needs q c
            ∙ ap (λ p. list_any (λ d. d.0 == c) (needs s.fleet.site (unwrap_or p []))) (sym (get_or-set_other s.pending r q route None other))
      ]

  -- what is pending of a robot has changed
  pub pending_shown : Shows after state
  pending_shown = record { groups = shows.groups; routes = routes; needs = needed; ends = shows.ends }

-- an end has changed
module _ (b : Backlog) (s t : State) (r : ℕ) (a : CellNo) (shows : Shows b s) (place : r < length b.ends) (same : r < length (ends s.fleet))
    (site : t.fleet.site ≡ s.fleet.site) (pending : t.pending ≡ s.pending) (moved_end : ends t.fleet ≡ set (ends s.fleet) r a) where
  abbrev claims : List ClaimNo
  claims = footprint_of s.fleet.site a

  abbrev end_of : ℕ → List ClaimNo
  end_of q = unwrap_or (option_map (footprint_of t.fleet.site) (slice_get (ends t.fleet) q)) []

  ends_then : (q : ℕ) → end_of q ≡ unwrap_or (option_map (footprint_of s.fleet.site) (slice_get (set (ends s.fleet) r a) q)) []
  ends_then q = ap (λ z. unwrap_or (option_map (footprint_of z) (slice_get (ends t.fleet) q)) []) site ∙ ap (λ es. unwrap_or (option_map (footprint_of s.fleet.site) (slice_get es q)) []) moved_end

  pub end_shown : Shows (record b { ends = set b.ends r claims }) t
  end_shown = record {
    groups = shows.groups ∙ ap (λ z. z.groups) (sym site);
    routes = λ q. shows.routes q ∙ ap (λ ps. get_or ps q None) (sym pending);
    needs = λ q c. shows.needs q c ∙ ap (λ ps. list_any (λ d. d.0 == c) (needs s.fleet.site (unwrap_or (get_or ps q None) []))) (sym pending) ∙ ap (λ z. list_any (λ d. d.0 == c) (needs z (unwrap_or (model.pending_of t q) []))) (sym site);
    ends = λ q.
        elim (cases_eq q r) [
          | inl is ↦
              ap (λ k. get_or (set b.ends r claims) k []) is
              ∙ get_or-set_same b.ends r claims [] place
              ∙ sym (ends_then q ∙ ap (λ k. unwrap_or (option_map (footprint_of s.fleet.site) (slice_get (set (ends s.fleet) r a) k)) []) is ∙ ap (λ o. unwrap_or (option_map (footprint_of s.fleet.site) o) []) (set_there (ends s.fleet) r a same))
          | inr other ↦
              get_or-set_other b.ends r q claims [] other
              ∙ shows.ends q
              ∙ sym (ends_then q ∙ ap (λ o. unwrap_or (option_map (footprint_of s.fleet.site) o) []) (set_elsewhere (ends s.fleet) r q a other))
        ];
  }
