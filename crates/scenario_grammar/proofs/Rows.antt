-- Tables of codes of which no row fits, and tests over lists.
use Rattle.std.proofs.Common.{◌≡◌, Bool, true, false, List, [], ◌∷◌, None, Ok, refl, sym, ap}
use Rattle.std.specs.List.{AllByRecursion, list_any}
use Rattle.std.proofs.lemmas.Bool.{false≢true, or_from, or_parts}
use Rattle.site_lines.specs.declared.fault.Code.{Code}
use Rattle.site_lines.specs.Readings.{Row, least_code}
use Rattle.scenario_reader.specs.Tables.{code_or, judged}

-- no row of the table fits
abbrev pub NoneFits : List Row → Type 0
NoneFits rows = AllByRecursion (λ (r : Row). r.fits ≡ false) rows

head_passed : (fits : Bool) (code : Code) (rows : List Row) → fits ≡ false → least_code rows ≡ None → least_code (record { fits = fits; code = code } ∷ rows) ≡ None
head_passed true code rows failing rest = absurd (false≢true (sym failing))
head_passed false code rows failing rest = rest

none_least : (rows : List Row) → NoneFits rows → least_code rows ≡ None
none_least [] failing = refl
none_least (r ∷ rows) failing = head_passed r.fits r.code rows failing.0 (none_least rows failing.1)

-- a table of which no row fits gives what it is to give
pub judged_ok : {T : Type 0} (rows : List Row) (t : T) → NoneFits rows → judged rows t ≡ Ok t
judged_ok rows t failing = ap (λ o. code_or o t) (none_least rows failing)

-- no element passes a test
pub each_fails : {A : Type 0} (p : A → Bool) (Q : A → Type 0) → ((x : A) → p x ≡ false → Q x) → (xs : List A) → list_any p xs ≡ false → AllByRecursion Q xs
each_fails p Q turn [] failing = tt
each_fails p Q turn (x ∷ xs) failing = let parts = or_parts (p x) (list_any p xs) failing in (turn x parts.0, each_fails p Q turn xs parts.1)

pub fails_each : {A : Type 0} (p : A → Bool) (Q : A → Type 0) → ((x : A) → Q x → p x ≡ false) → (xs : List A) → AllByRecursion Q xs → list_any p xs ≡ false
fails_each p Q turn [] all = refl
fails_each p Q turn (x ∷ xs) all = or_from (p x) (list_any p xs) (turn x all.0) (fails_each p Q turn xs all.1)
