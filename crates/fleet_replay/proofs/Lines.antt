-- The first line in which two texts differ, as a loop over their bytes counts it.
use Rattle.std.proofs.Common.{◌≡◌, ◌≢◌, ℕ, ◌+◌, ◌<◌, ◌≤◌, ◌⊎◌, inl, inr, if◌then◌else◌, List, [], ◌∷◌, length, drop, get_or, min, refl, ap, ◌∙◌, arith}
use Rattle.std.specs.List.{filter}
use Rattle.std.proofs.Math.Nat.{min-eq_left, min-eq_right}
use Rattle.std.proofs.lemmas.Bool.{cases_lt, eq-eqb, ne_eqb}
use Rattle.std.proofs.lemmas.List.{drop_all, drop_more}
use Rattle.site_lines.specs.Lines.{is_feed}
use Rattle.fleet_replay.specs.Tails.{common}

-- how many line feeds two texts have in common at the front, from a place on
abbrev pub feeds_from : List ℕ → List ℕ → ℕ → ℕ
feeds_from text other at = length (filter is_feed (common (drop at text) (drop at other)))

module _ (text other : List ℕ) (at : ℕ) (in_text : at < length text) (in_other : at < length other) where
  heads : feeds_from text other at ≡ length (filter is_feed (common (get_or text at 0 ∷ drop (at + 1) text) (get_or other at 0 ∷ drop (at + 1) other)))
  heads = ap (λ t. length (filter is_feed (common t (drop at other)))) (drop_more text at 0 in_text) ∙ ap (λ o. length (filter is_feed (common (get_or text at 0 ∷ drop (at + 1) text) o))) (drop_more other at 0 in_other)

  -- other bytes have none in common
  pub differs_here : get_or text at 0 ≢ get_or other at 0 → feeds_from text other at ≡ 0
  differs_here differs = heads ∙ ap (λ b. length (filter is_feed (if b then get_or text at 0 ∷ common (drop (at + 1) text) (drop (at + 1) other) else []))) (ne_eqb (get_or text at 0) (get_or other at 0) differs)

  -- the same byte is one more
  pub same_here : get_or text at 0 ≡ get_or other at 0 → feeds_from text other at ≡ length (filter is_feed (get_or text at 0 ∷ common (drop (at + 1) text) (drop (at + 1) other)))
  same_here same = heads ∙ ap (λ b. length (filter is_feed (if b then get_or text at 0 ∷ common (drop (at + 1) text) (drop (at + 1) other) else []))) (eq-eqb (get_or text at 0) (get_or other at 0) same)

  pub feed_here : get_or text at 0 ≡ get_or other at 0 → get_or text at 0 ≡ 10 → feeds_from text other at ≡ feeds_from text other (at + 1) + 1
  feed_here same feed = same_here same ∙ ap (λ b. length (if b then get_or text at 0 ∷ filter is_feed (common (drop (at + 1) text) (drop (at + 1) other)) else filter is_feed (common (drop (at + 1) text) (drop (at + 1) other)))) (eq-eqb (get_or text at 0) 10 feed) ∙ omega arith

  pub no_feed_here : get_or text at 0 ≡ get_or other at 0 → get_or text at 0 ≢ 10 → feeds_from text other at ≡ feeds_from text other (at + 1)
  no_feed_here same none = same_here same ∙ ap (λ b. length (if b then get_or text at 0 ∷ filter is_feed (common (drop (at + 1) text) (drop (at + 1) other)) else filter is_feed (common (drop (at + 1) text) (drop (at + 1) other)))) (ne_eqb (get_or text at 0) 10 none)

common_none : (xs : List ℕ) → common xs [] ≡ []
common_none [] = refl
common_none (x ∷ xs) = refl

-- behind the end of one there is none
pub none_behind : (text other : List ℕ) (at : ℕ) → (length text ≤ at) ⊎ (length other ≤ at) → feeds_from text other at ≡ 0
none_behind text other at (inl past) = ap (λ t. length (filter is_feed (common t (drop at other)))) (drop_all at text past)
none_behind text other at (inr past) = ap (λ o. length (filter is_feed (common (drop at text) o))) (drop_all at other past) ∙ ap (λ c. length (filter is_feed c)) (common_none (drop at text))

-- behind the lesser of two lengths one text is at its end
pub behind_one : (a b m at : ℕ) → m ≡ min a b → m ≤ at → (a ≤ at) ⊎ (b ≤ at)
behind_one a b m at is past = by_order (cases_lt a b)
  where
    by_order : (a < b) ⊎ (b ≤ a) → (a ≤ at) ⊎ (b ≤ at)
    by_order (inl less) = let least : min a b ≡ a = min-eq_left (omega (arith, less)) in inl (omega (arith, is, least, past))
    by_order (inr most) = let least : min a b ≡ b = min-eq_right most in inr (omega (arith, is, least, past))
