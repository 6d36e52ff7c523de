-- Lists of words, and what is refused among them.
use Rattle.std.proofs.Common.{◌≡◌, ℕ, ◌+◌, ◌<◌, Bool, true, false, cond, List, [], ◌∷◌, ◌++◌, length, map, get_or, drop, Result, Ok, Err, refl, sym, ap, ◌∙◌, Option, Some, None}
use Rattle.std.specs.List.{list_all}
use Rattle.std.proofs.lemmas.List.{drop_more, length-append}
use Rattle.fleet_texts.specs.Words.{lines_text}
use Rattle.site_lines.specs.declared.fault.Code.{Code}
use Rattle.plan_journal.specs.Entries.{unless_code}

-- what a choice that is refused tells
pub is_refused : {T : Type 0} (b : Bool) (x : T) (told code : Code) → (let r : Result T Code = Err told in r ≡ cond b (Ok x) (Err code)) → (b ≡ false) × (told ≡ code)
is_refused true x told code is = absurd (cc)
is_refused false x told code is = (refl, cc)

-- what a choice that is taken tells
pub is_told : {T : Type 0} (b : Bool) (x told : T) (code : Code) → (let r : Result T Code = Ok told in r ≡ cond b (Ok x) (Err code)) → (b ≡ true) × (told ≡ x)
is_told true x told code is = (refl, cc)
is_told false x told code is = absurd (cc)

-- one element fails, so not all pass
fails_all : {A B : Type 0} (test : B → Bool) (now : A → B) (xs : List A) (i : ℕ) (d : A) → i < length xs → list_all test (map now (drop i xs)) ≡ list_all test (map now xs) → test (now (get_or xs i d)) ≡ false → list_all test (map now xs) ≡ false
fails_all test now xs i d lt same fails = sym same ∙ rw (drop_more xs i d lt, fails) refl

pub refuses_all : {A B S T : Type 0} (test : B → Bool) (now : A → B) (xs : List A) (i : ℕ) (d : A) (told code : Code) (x : S) (y : T) → i < length xs → list_all test (map now (drop i xs)) ≡ list_all test (map now xs)
    → (let r : Result S Code = Err told in r ≡ cond (test (now (get_or xs i d))) (Ok x) (Err code)) → (let r : Result T Code = Err told in cond (list_all test (map now xs)) (Ok y) (Err code) ≡ r)
refuses_all test now xs i d told code x y lt same is =
    let told_so = is_refused (test (now (get_or xs i d))) x told code is in
    rw (fails_all test now xs i d lt same told_so.0) (ap (λ (e : Code). Err e) (sym told_so.1))

-- how long a text of lines is
pub length-line : (line : List ℕ) (lines : List (List ℕ)) → length (lines_text (line ∷ lines)) ≡ length line + 1 + length (lines_text lines)
length-line line lines = length-append (line ++ 10 ∷ []) (lines_text lines) ∙ ap (λ n. n + length (lines_text lines)) (length-append line (10 ∷ []))

-- a code that is given in place of a value
pub code_given : {A : Type 0} (value : A) (given : Option Code) (code : Code) → unless_code given value ≡ Err code → given ≡ Some code
code_given value None code is = absurd (cc)
code_given value (Some told) code is = let same : told ≡ code = cc in ap (λ (c : Code). Some c) same
