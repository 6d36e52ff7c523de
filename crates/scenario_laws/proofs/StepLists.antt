-- Lines in a row, all accepted.
use Rattle.std.proofs.Common.{◌≡◌, ℕ, ◌+◌, false, List, [], ◌∷◌, ◌++◌, None, Ok, Err, Result, refl, ap, ◌∙◌}
use Rattle.std.specs.Prelude.{flat_map}
use Rattle.std.specs.List.{AllByRecursion}
use Rattle.std.proofs.Math.Numerals.{add-one}
use Rattle.std.proofs.lemmas.List.{append-nil}
use Rattle.std.proofs.lemmas.List.Concat.{flat_map-append}
use Rattle.fleet_model.specs.Lists.{numbers_below}
use Rattle.site_lines.specs.declared.fault.Code.{Code}
use Rattle.site_lines.specs.Readings.{Row, least_code, next_state, onward, read_from}
use Rattle.site_map.proofs.CellLemmas.{numbers_below_push}
use Rattle.scenario.specs.Scenarios.{ScenarioValue}
use Rattle.scenario_reader.specs.Reading.{done, step}
use Rattle.scenario_reader.specs.States.{State}
use Rattle.scenario_reader.specs.Tables.{code_or, judged}
use Rattle.scenario_laws.proofs.RoundTrip.{steps}

then_others : (r : Result State Code) (xs ys : List (List ℕ)) (t : State) → ((u : State) → steps u xs ≡ Ok t → steps u (xs ++ ys) ≡ steps t ys)
    → next_state r (λ u. steps u xs) ≡ Ok t → next_state r (λ u. steps u (xs ++ ys)) ≡ steps t ys
then_others (Ok u) xs ys t next is = next u is
then_others (Err code) xs ys t next is = absurd (cc)

-- Lines behind accepted lines go on from their state.
pub steps_both : (s t : State) (xs ys : List (List ℕ)) → steps s xs ≡ Ok t → steps s (xs ++ ys) ≡ steps t ys
steps_both s t [] ys is = let same : s ≡ t = cc in ap (λ u. steps u ys) same
steps_both s t (x ∷ xs) ys is = then_others (step s x) xs ys t (λ u h. steps_both u t xs ys h) is

-- one line in front
pub step_first : (s t : State) (line : List ℕ) (lines : List (List ℕ)) → step s line ≡ Ok t → steps s (line ∷ lines) ≡ steps t lines
step_first s t line lines is = ap (λ (r : Result State Code). next_state r (λ u. steps u lines)) is

-- one line
pub step_alone : (s t : State) (line : List ℕ) → step s line ≡ Ok t → steps s (line ∷ []) ≡ Ok t
step_alone s t line is = step_first s t line [] is

all_read : (r : Result State Code) (n : ℕ) (lines : List (List ℕ)) (t : State) (value : ScenarioValue) → ((u : State) → steps u lines ≡ Ok t → read_from step done (n + 1) u lines ≡ Ok value)
    → next_state r (λ u. steps u lines) ≡ Ok t → onward {T = ScenarioValue} r n (λ u. read_from step done (n + 1) u lines) ≡ Ok value
all_read (Ok u) n lines t value next is = next u is
all_read (Err code) n lines t value next is = absurd (cc)

-- Lines that are all accepted, and an end that may stand there, give what the end makes of them.
pub steps_read : (s t : State) (n : ℕ) (lines : List (List ℕ)) (value : ScenarioValue) → steps s lines ≡ Ok t → done t ≡ Ok value → read_from step done n s lines ≡ Ok value
steps_read s t n [] value is ends = let same : s ≡ t = cc in rw (same, ends) refl
steps_read s t n (line ∷ lines) value is ends = all_read (step s line) n lines t value (λ u h. steps_read u t (n + 1) lines value h ends) is

-- a table that no row fits
none_fits : (rows : List Row) → AllByRecursion (λ (r : Row). r.fits ≡ false) rows → least_code rows ≡ None
none_fits [] all = refl
none_fits (r ∷ rows) all = rw all.0 (none_fits rows all.1)

pub fine : {T : Type 0} (rows : List Row) (t : T) → AllByRecursion (λ (r : Row). r.fits ≡ false) rows → judged rows t ≡ Ok t
fine rows t all = ap (λ o. code_or o t) (none_fits rows all)

-- the lines of one thing more
pub lines_more : (lines : ℕ → List (List ℕ)) (n : ℕ) → flat_map lines (numbers_below (n + 1)) ≡ flat_map lines (numbers_below n) ++ lines n
lines_more lines n =
    ap (λ k. flat_map lines (numbers_below k)) (add-one n) ∙ ap (λ (ks : List ℕ). flat_map lines ks) (numbers_below_push n) ∙ flat_map-append lines (numbers_below n) (n ∷ [])
    ∙ ap (λ last. flat_map lines (numbers_below n) ++ last) (append-nil (lines n))
