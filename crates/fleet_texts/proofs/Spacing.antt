-- Words behind one another.
use Rattle.std.proofs.Common.{◌≡◌, ℕ, zero, suc, ◌+◌, List, [], ◌∷◌, ◌++◌, map, drop, Some, slice_get, ap, ◌∙◌, append_assoc, arith}
use Rattle.std.proofs.lemmas.List.{append-nil}
use Rattle.fleet_texts.specs.Words.{behind}

drop_at : {A : Type 0} (xs : List A) (i : ℕ) (x : A) → slice_get xs i ≡ Some x → drop i xs ≡ x ∷ drop (i + 1) xs
drop_at [] i x at = absurd (cc)
drop_at (y ∷ ys) zero x at = let same : y ≡ x = cc in ap (λ z. z ∷ ys) same
drop_at (y ∷ ys) (suc i) x at = drop_at ys i x at ∙ ap (λ n. x ∷ drop n (y ∷ ys)) (let e : suc (i + 1) ≡ suc i + 1 = omega arith in e)

-- one word more of a list of words
pub word_more : {A : Type 0} (word : A → List ℕ) (xs : List A) (i : ℕ) (x : A) (text more : List ℕ) → slice_get xs i ≡ Some x → more ≡ text ++ behind (word x ∷ [])
    → more ++ behind (map word (drop (i + 1) xs)) ≡ text ++ behind (map word (drop i xs))
word_more word xs i x text more at is =
    rw (is, drop_at xs i x at) (append_assoc text (behind (word x ∷ [])) (behind (map word (drop (i + 1) xs))) ∙ ap (λ words. text ++ (32 ∷ (words ++ behind (map word (drop (i + 1) xs))))) (append-nil (word x)))
