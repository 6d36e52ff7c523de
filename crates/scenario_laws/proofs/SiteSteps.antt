-- What a site line of a canonical text leaves.
use Rattle.std.proofs.Common.{◌≡◌, ℕ, zero, suc, ◌+◌, ◌<◌, ◌≤◌, Bool, true, false, ◌||◌, cond, List, [], ◌∷◌, length, map, Ok, Result, refl, sym, ap, subst, ◌∙◌, arith}
use Rattle.std.specs.Prelude.{flat_map}
use Rattle.std.proofs.lemmas.List.Concat.{flat_map_single}
use Rattle.fleet_model.specs.Lists.{numbers_below}
use Rattle.fleet_names.specs.Names.{Named}
use Rattle.site_lines.specs.declared.fault.Code.{Code}
use Rattle.site_map.specs.Built.{BuiltSite}
use Rattle.scenario_reader.specs.Reading.{keyword_line, step}
use Rattle.scenario_reader.specs.States.{Declared, State, AmongSite}
use Rattle.scenario_reader.specs.Tables.{mapped}
use Rattle.scenario_laws.proofs.RoundTrip.{bare_line, names_upto, steps}
use Rattle.scenario_laws.proofs.CanonicalLines.{AreNameWords, step_worded}
use Rattle.scenario_laws.proofs.StepLists.{lines_more, step_alone, steps_both}

-- what is declared of a site, with the names of so many cells, crossings and areas
abbrev pub ground : Named → BuiltSite → ℕ → ℕ → ℕ → Declared
ground names site cells crossings areas = record { site = site; names = names_upto names cells crossings areas 0; starts = []; missions = [] }

pub same_ground : (site site' : BuiltSite) (names names' : Named) → site ≡ site' → names ≡ names' → (let a : Result Declared Code = Ok (record { site = site; names = names; starts = []; missions = [] }) in let b : Result Declared Code = Ok (record { site = site'; names = names'; starts = []; missions = [] }) in a ≡ b)
same_ground site site' names names' same alike = cc

-- a site line that stands with flows and without
pub stands : (flows : Bool) (given other : Result State Code) → cond (flows || true) given other ≡ given
stands true given other = refl
stands false given other = refl

-- a site line of names is what its keyword makes of them
pub site_step : (flows : Bool) (d e : Declared) (keyword : List ℕ) (words : List (List ℕ)) (made : Result Declared Code) → keyword_line (AmongSite flows d) keyword words ≡ mapped (AmongSite flows) made → AreNameWords (keyword ∷ words) → length words ≤ 1100 → made ≡ Ok e
    → step (AmongSite flows d) (bare_line keyword words) ≡ Ok (AmongSite flows e)
site_step flows d e keyword words made makes good few is = step_worded (AmongSite flows d) keyword words good few ∙ makes ∙ ap (mapped (AmongSite flows)) is

-- lines for each number below n
pub each_steps : (state : ℕ → State) (lines : ℕ → List (List ℕ)) (n : ℕ) → ((k : ℕ) → k < n → steps (state k) (lines k) ≡ Ok (state (k + 1))) → steps (state 0) (flat_map lines (numbers_below n)) ≡ Ok (state n)
each_steps state lines zero one = refl
each_steps state lines (suc n) one =
    let next : n + 1 ≡ suc n = omega arith in
    subst (λ m. steps (state 0) (flat_map lines (numbers_below m)) ≡ Ok (state m)) next
    (ap (steps (state 0)) (lines_more lines n)
    ∙ steps_both (state 0) (state n) (flat_map lines (numbers_below n)) (lines n) (each_steps state lines n (λ k below. one k (omega arith)))
    ∙ one n (omega arith))

-- one line for each number below n
pub each_step : (state : ℕ → State) (line : ℕ → List ℕ) (n : ℕ) → ((k : ℕ) → k < n → step (state k) (line k) ≡ Ok (state (k + 1))) → steps (state 0) (map line (numbers_below n)) ≡ Ok (state n)
each_step state line n one =
    ap (steps (state 0)) (sym (flat_map_single line (numbers_below n)))
    ∙ each_steps state (λ k. line k ∷ []) n (λ k below. step_alone (state k) (state (k + 1)) (line k) (one k below))
