-- What the rows of a table say of the table that they stand in.
use Rattle.std.proofs.Common.{◌≡◌, Bool, true, false, List, [], ◌∷◌, ◌++◌, Some, None, Ok, Err, Result, refl, sym, ap, subst, ◌∙◌}
use Rattle.std.specs.Prelude.{IsErrAnd}
use Rattle.site_lines.specs.declared.fault.Code.{Code}
use Rattle.site_lines.specs.Readings.{Row, least_code}
use Rattle.scenario_reader.specs.Tables.{code_or, judged, Fails, Gives, IsFine, IsStop}
use Rattle.scenario_reader.specs.declared.stop.Stop.{Stop}
use Rattle.scenario_reader.specs.declared.stop.Stop.TheVariants as stops

-- a row at the head of a table
head_some : (fits : Bool) (own : Code) (rows back : List Row) (code : Code) → least_code (record { fits = fits; code = own } ∷ rows) ≡ Some code
    → (least_code rows ≡ Some code → least_code (rows ++ back) ≡ Some code) → least_code (record { fits = fits; code = own } ∷ (rows ++ back)) ≡ Some code
head_some true own rows back code is rest = is
head_some false own rows back code is rest = rest is

-- the least code of the first rows is the table's
pub first_some : (front back : List Row) (code : Code) → least_code front ≡ Some code → least_code (front ++ back) ≡ Some code
first_some [] back code is = absurd (cc)
first_some (row ∷ rows) back code is = head_some row.fits row.code rows back code is (λ h. first_some rows back code h)

head_none : (fits : Bool) (own : Code) (rows back : List Row) → least_code (record { fits = fits; code = own } ∷ rows) ≡ None
    → (least_code rows ≡ None → least_code (rows ++ back) ≡ least_code back) → least_code (record { fits = fits; code = own } ∷ (rows ++ back)) ≡ least_code back
head_none true own rows back is rest = absurd (cc)
head_none false own rows back is rest = rest is

-- where no fault of the first rows is there, the code is that of the others
pub first_none : (front back : List Row) → least_code front ≡ None → least_code (front ++ back) ≡ least_code back
first_none [] back is = refl
first_none (row ∷ rows) back is = head_none row.fits row.code rows back is (λ h. first_none rows back h)

-- a stop for the first rows
pub first_stops : {T : Type 0} (front back : List Row) (t : T) (stop : Stop) → IsStop front stop → Fails stop (judged (front ++ back) t)
first_stops front back t stops.NoMemory is = tt
first_stops front back t (stops.Bad code) is = ap (λ o. code_or o t) (first_some front back code is)

-- a stop for the rows behind rows without a fault
pub later_stops : {T : Type 0} (front back : List Row) (t : T) (stop : Stop) → IsFine front → IsStop back stop → Fails stop (judged (front ++ back) t)
later_stops front back t stops.NoMemory fine is = tt
later_stops front back t (stops.Bad code) fine is = ap (λ o. code_or o t) (first_none front back fine ∙ is)

-- no fault in either part
pub both_fine : {T : Type 0} (front back : List Row) (t : T) → IsFine front → IsFine back → judged (front ++ back) t ≡ Ok t
both_fine front back t fine is = ap (λ o. code_or o t) (first_none front back fine ∙ is)

-- what a `?` hands on
pub handed_on : {X Y : Type 0} (view : X → Y) (result : Result X Stop) (due : Result Y Code) (stop : Stop) → IsErrAnd result (λ e. e ≡ stop) → Fails stop due → Gives view result due
handed_on view (Ok x) due stop is fails = absurd is
handed_on view (Err e) due stop is fails = subst (λ s. Fails s due) (sym is) fails
