-- What a table without a fault says of each of its rows.
use Rattle.std.proofs.Common.{◌≡◌, Bool, true, false, List, [], ◌∷◌, Option, Some, None, Ok, Err, Result, refl}
use Rattle.std.specs.List.{AllByRecursion}
use Rattle.site_lines.specs.declared.fault.Code.{Code}
use Rattle.site_lines.specs.Readings.{Row, least_code}
use Rattle.scenario_reader.specs.Tables.{code_or, judged, mapped, IsFine}

head_fine : (fits : Bool) (code : Code) (rows : List Row) → least_code (record { fits = fits; code = code } ∷ rows) ≡ None → (fits ≡ false) × (least_code rows ≡ None)
head_fine true code rows fine = absurd (cc)
head_fine false code rows fine = (refl, fine)

-- no row fits
pub fines : (rows : List Row) → IsFine rows → AllByRecursion (λ (r : Row). r.fits ≡ false) rows
fines [] fine = tt
fines (r ∷ rows) fine = let parts = head_fine r.fits r.code rows fine in (parts.0, fines rows parts.1)

-- a table gives what it is to give only where no row fits
pub judged_fine : {T : Type 0} (rows : List Row) (t u : T) → judged rows t ≡ Ok u → IsFine rows × (t ≡ u)
judged_fine {T} rows t u is = go (least_code rows) refl is
  where
    go : (o : Option Code) → least_code rows ≡ o → code_or o t ≡ Ok u → IsFine rows × (t ≡ u)
    go None e h = (e, cc)
    go (Some code) e h = absurd (cc)

-- what is mapped was given
pub mapped_ok : {S T E : Type 0} (f : S → T) (r : Result S E) (t : T) → mapped f r ≡ Ok t → (s : S) × (r ≡ Ok s) × (f s ≡ t)
mapped_ok f (Ok s) t is = (s, refl, cc)
mapped_ok f (Err e) t is = absurd (cc)
