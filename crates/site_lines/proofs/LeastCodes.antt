-- The code that a table gives is that of its first row that fits.
use Rattle.std.proofs.Common.{◌≡◌, Bool, true, false, List, [], ◌∷◌, Some, refl, ap}
use Rattle.site_lines.specs.declared.fault.Code.{Code}
use Rattle.site_lines.specs.Readings.{Row, least_code, IsLeastCode}

-- the first row fits, or doesn't
at_row : (fits : Bool) (code : Code) (rows : List Row) (told : Code) → least_code (record { fits = fits; code = code } ∷ rows) ≡ Some told → (least_code rows ≡ Some told → IsLeastCode rows told) → IsLeastCode (record { fits = fits; code = code } ∷ rows) told
at_row true code rows told e rest =
    let same : code ≡ told = cc in
    record { front = []; back = rows; split = ap (λ (c : Code). record { fits = true; code = c } ∷ rows) same; before = tt }
at_row false code rows told e rest =
    let later = rest e in
    record { front = record { fits = false; code = code } ∷ later.front; back = later.back; split = ap (λ (rs : List Row). record { fits = false; code = code } ∷ rs) later.split; before = (refl, later.before) }

pub least_code_fits : (rows : List Row) (code : Code) → least_code rows ≡ Some code → IsLeastCode rows code
least_code_fits [] code e = absurd (cc)
least_code_fits (row ∷ rows) code e = at_row row.fits row.code rows code e (λ h. least_code_fits rows code h)
