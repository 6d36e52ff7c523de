-- Searches through lists, one element on.
use Rattle.std.proofs.Common.{◌≡◌, ℕ, ◌+◌, ◌<◌, ◌≤◌, Bool, true, false, List, [], ◌∷◌, ◌++◌, length, get_or, take, drop, Option, Some, None, sym, ap, ◌∙◌, refl}
use Rattle.std.proofs.lemmas.List.{at_drop_more, drop_all, take_more}
use Rattle.std.proofs.lemmas.Option.{same_Some, slice_get-get_or, slice_get_within}
use Rattle.std.specs.Prelude.{slice_get}
use Rattle.std.specs.List.{find}
use Rattle.std.specs.Option.{option_map}
use Rattle.fleet_base.specs.declared.numbers.CellNo.{CellNo}
use Rattle.fleet_base.specs.declared.numbers.ClaimNo.{ClaimNo}
use Rattle.fleet_model.specs.Lists.{first_some}
use Rattle.fleet_model.specs.Sites.{Site}
use Rattle.coordinator.specs.declared.refused.NewRefused.{NewRefused}
use Rattle.coordinator.specs.Openings.{clash_by, clash_from, clash_with, kept_claim}

module _ {A : Type 0} (p : A → Bool) (xs : List A) (i : ℕ) (d : A) where
  pub find_past : i < length xs → p (get_or xs i d) ≡ false → find p (drop i xs) ≡ find p (drop (i + 1) xs)
  find_past within no_match = at_drop_more (find p) xs i d within ∙ (rw no_match refl)

  pub find_there : i < length xs → p (get_or xs i d) ≡ true → find p (drop i xs) ≡ Some (get_or xs i d)
  find_there within match_is = at_drop_more (find p) xs i d within ∙ (rw match_is refl)

  pub find_none : length xs ≤ i → find p (drop i xs) ≡ None
  find_none past = ap (find p) (drop_all i xs past)

pub take_next : {A : Type 0} (xs : List A) (i : ℕ) (x : A) → slice_get xs i ≡ Some x → take (i + 1) xs ≡ take i xs ++ x ∷ []
take_next xs i x at =
    let within = slice_get_within xs i x at in
    take_more xs i x within ∙ ap (λ y. take i xs ++ y ∷ []) (same_Some (get_or xs i x) x (sym (slice_get-get_or xs i x within) ∙ at))

pub first_none : {A : Type 0} (o : Option A) → first_some (None ∷ o ∷ []) ≡ o
first_none None = refl
first_none (Some x) = refl

module _ (site : Site) (one : ℕ) (a : CellNo) (others : List CellNo) (other i : ℕ) (d : CellNo) where
  pub with_past : i < length others → kept_claim site a (get_or others i d) ≡ None → clash_with site one a other (drop i others) ≡ clash_with site one a (other + 1) (drop (i + 1) others)
  with_past within none = at_drop_more (clash_with site one a other) others i d within ∙ ap (λ o. first_some (option_map (clash_by one other) o ∷ clash_with site one a (other + 1) (drop (i + 1) others) ∷ [])) none ∙ first_none (clash_with site one a (other + 1) (drop (i + 1) others))

  pub with_there : (claim : ClaimNo) → i < length others → kept_claim site a (get_or others i d) ≡ Some claim → clash_with site one a other (drop i others) ≡ Some (clash_by one other claim)
  with_there claim within some = at_drop_more (clash_with site one a other) others i d within ∙ ap (λ o. first_some (option_map (clash_by one other) o ∷ clash_with site one a (other + 1) (drop (i + 1) others) ∷ [])) some

  pub with_none : length others ≤ i → clash_with site one a other (drop i others) ≡ None
  with_none past = ap (clash_with site one a other) (drop_all i others past)

module _ (site : Site) (starts : List CellNo) (i : ℕ) (d : CellNo) where
  pub from_past : i < length starts → clash_with site i (get_or starts i d) (i + 1) (drop (i + 1) starts) ≡ None → clash_from site i (drop i starts) ≡ clash_from site (i + 1) (drop (i + 1) starts)
  from_past within none = at_drop_more (clash_from site i) starts i d within ∙ ap (λ o. first_some (o ∷ clash_from site (i + 1) (drop (i + 1) starts) ∷ [])) none ∙ first_none (clash_from site (i + 1) (drop (i + 1) starts))

  pub from_there : (clash : NewRefused) → i < length starts → clash_with site i (get_or starts i d) (i + 1) (drop (i + 1) starts) ≡ Some clash → clash_from site i (drop i starts) ≡ Some clash
  from_there clash within some = at_drop_more (clash_from site i) starts i d within ∙ ap (λ o. first_some (o ∷ clash_from site (i + 1) (drop (i + 1) starts) ∷ [])) some

  pub from_none : length starts ≤ i → clash_from site i (drop i starts) ≡ None
  from_none past = ap (clash_from site i) (drop_all i starts past)
