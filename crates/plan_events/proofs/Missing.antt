-- The least claim of two lists that isn't held.
use Rattle.std.proofs.Common.{◌≡◌, ℕ, ◌<◌, Bool, true, false, not, ◌||◌, inl, inr, refl, ap, ◌∙◌, List, ◌++◌, arith, Option, Some, None}
use Rattle.std.proofs.lemmas.Bool.{both_ways, and_parts, and_from, or_cases, or_left, or_right, cases_lt, leb-true, leb-false, le-leb}
use Rattle.std.specs.Prelude.{nat_le}
use Rattle.std.specs.List.{filter, All}
use Rattle.fleet_base.specs.declared.numbers.ClaimNo.{ClaimNo}
use Rattle.fleet_model.specs.Lists.{In, least}
use Rattle.fleet_model.specs.Sites.{has_claim}
use Rattle.fleet_model.specs.Replays.{Spot}
use Rattle.fleet_model.proofs.Blockers.{has_In, In_has}
use Rattle.fleet_model.proofs.Leasts.{least_first, least_in, least_some}
use Rattle.fleet_model.proofs.Lists.{All_In, In-append_cases, In-append_left, In-append_right, In-filter, In_unfilter}
use Rattle.plan_events.specs.Clashes.{least_missing}
use Rattle.plan_events.specs.Spots.{is_missing}

abbrev upto : ClaimNo → ClaimNo → Bool
upto c d = nat_le c.0 d.0

upto_total : (c d : ClaimNo) → upto c d ≡ false → upto d c ≡ true
upto_total c d h = let l = leb-false c.0 d.0 h in le-leb d.0 c.0 (omega arith)

upto_itself : (c : ClaimNo) → upto c c ≡ true
upto_itself c = le-leb c.0 c.0 (omega arith)

upto_trans : (c d e : ClaimNo) → upto c d ≡ true → upto d e ≡ true → upto c e ≡ true
upto_trans c d e h g = let l = leb-true c.0 d.0 h in let k = leb-true d.0 e.0 g in le-leb c.0 e.0 (omega arith)

module _ (s : Spot) (left entered : List ClaimNo) where
  abbrev lacks : ClaimNo → Bool
  lacks c = is_missing s left entered c

  abbrev missing : List ClaimNo
  missing = filter (λ c. not (s.holds c)) (left ++ entered)

  listed : (c : ClaimNo) → lacks c ≡ true → In c missing
  listed c t =
      let p = and_parts (has_claim left c || has_claim entered c) (not (s.holds c)) t in
      In-filter (λ d. not (s.holds d)) (left ++ entered) (elim (or_cases (has_claim left c) (has_claim entered c) p.0) [ inl h ↦ In-append_left left entered (has_In left c h) | inr h ↦ In-append_right left entered (has_In entered c h) ]) p.1

  unlisted : (c : ClaimNo) → In c missing → lacks c ≡ true
  unlisted c i =
      let u = In_unfilter (λ d. not (s.holds d)) (left ++ entered) i in
      and_from (has_claim left c || has_claim entered c) (not (s.holds c))
      (elim (In-append_cases left entered u.0) [ inl j ↦ or_left (has_claim left c) (has_claim entered c) (In_has left c j) | inr j ↦ or_right (has_claim left c) (has_claim entered c) (In_has entered c j) ]) u.1

  -- a missing claim is below a bound of both lists
  pub missing_known : {bound : ℕ} → All (λ (c : ClaimNo). c.0 < bound) left → All (λ (c : ClaimNo). c.0 < bound) entered → (c : ClaimNo) → lacks c ≡ true → c.0 < bound
  missing_known {bound} first second c t =
      elim (or_cases (has_claim left c) (has_claim entered c) (and_parts (has_claim left c || has_claim entered c) (not (s.holds c)) t).0) [
        | inl h ↦ All_In (λ (d : ClaimNo). d.0 < bound) left first c (has_In left c h)
        | inr h ↦ All_In (λ (d : ClaimNo). d.0 < bound) entered second c (has_In entered c h)
      ]

  -- where none is missing none is the least
  pub none_missing : (bound : ℕ) → ((c : ClaimNo) → lacks c ≡ true → c.0 < bound) → ((c : ClaimNo) → c.0 < bound → lacks c ≡ false) → least_missing s (left ++ entered) ≡ None
  none_missing bound known free = go (least upto missing) refl
    where
      go : (o : Option ClaimNo) → least upto missing ≡ o → o ≡ None
      go None e = refl
      go (Some c) e = let t = unlisted c (least_in upto missing c e) in absurd (both_ways (lacks c) (free c (known c t)) t)

  -- one below which none is missing is the least
  pub first_missing : (c : ClaimNo) → lacks c ≡ true → ((d : ClaimNo) → d.0 < c.0 → lacks d ≡ false) → least_missing s (left ++ entered) ≡ Some c
  first_missing c t free =
      let z = least_some upto missing c (listed c t) in
      let l = leb-true z.0.0 c.0 (least_first upto upto_total upto_itself upto_trans missing z.0 c z.1 (listed c t)) in
      let m = unlisted z.0 (least_in upto missing z.0 z.1) in
      let same : z.0.0 ≡ c.0 = elim (cases_lt z.0.0 c.0) [ inl h ↦ absurd (both_ways (lacks z.0) (free z.0 h) m) | inr h ↦ omega arith ] in
      z.1 ∙ ap (λ (d : ClaimNo). Some d) (λ i. record { 0 = same i })
