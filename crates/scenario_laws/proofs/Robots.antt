-- The lines of robots are accepted, one after the other.
use Rattle.std.proofs.Common.{◌≡◌, ℕ, suc, ◌+◌, ◌<◌, ◌≤◌, Bool, true, false, leb, List, [], ◌∷◌, ◌++◌, length, map, take, get_or, Option, Some, None, Ok, refl, sym, ap, ◌∙◌, arith}
use Rattle.std.specs.Prelude.{codes}
use Rattle.std.specs.List.{list_any, AllByRecursion}
use Rattle.std.specs.Option.{unwrap_or}
use Rattle.std.proofs.lemmas.Bool.{lt-leb}
use Rattle.std.proofs.lemmas.List.{get_or-take, length-take-le, map-append, take_more}
use Rattle.std.proofs.lemmas.List.Elements.{All-get_or}
use Rattle.fleet_base.specs.declared.numbers.CellNo.{CellNo}
use Rattle.fleet_names.specs.declared.thing.Thing.TheVariants as things
use Rattle.fleet_names.specs.Names.{Named, AreDeclared, count_of, is_name, thing_of}
use Rattle.fleet_names.specs.Things.{is_robot}
use Rattle.site_map.specs.declared.goal.Goal.{Goal}
use Rattle.scenario.specs.Canonical.{name}
use Rattle.scenario.specs.Scenarios.{ScenarioValue, IsScenario, do_conflict}
use Rattle.scenario_reader.specs.FleetLines.{robot_rows}
use Rattle.scenario_reader.specs.Reading.{keyword_line}
use Rattle.scenario_reader.specs.SiteLines.{as_cell, cell_at, cell_named, with_name}
use Rattle.scenario_reader.specs.States.{Declared, AmongRobots}
use Rattle.scenario_reader.specs.Tables.{mapped}
use Rattle.scenario_laws.proofs.RoundTrip.{names_upto}
use Rattle.scenario_laws.proofs.CanonicalNames.{Covers, robots_counted, robots_more, upto_found, upto_free, upto_known}
use Rattle.scenario_laws.proofs.StepLists.{fine}

-- the names of the site's things and of the first n robots
abbrev pub names_at : ScenarioValue → ℕ → Named
names_at s n = names_upto s.names s.site.cells (length s.site.crossings) (length s.site.areas) n

-- a robot whose mission isn't told
abbrev pub no_mission : CellNo → Option (List Goal)
no_mission c = None

-- what is declared behind the lines of n robots
abbrev pub robots_at : ScenarioValue → ℕ → Declared
robots_at s n = record { site = s.site; names = names_at s n; starts = take n s.starts; missions = map no_mission (take n s.starts) }

-- the names of a scenario cover its things
pub covered : (s : ScenarioValue) (n : ℕ) → IsScenario s → n ≤ length s.starts → Covers s.names s.site.cells (length s.site.crossings) (length s.site.areas) n
covered s n is few (things.Cell k) = let counted = is.named.cells in omega arith
covered s n is few (things.Crossing k) = let counted = is.named.crossings in omega arith
covered s n is few (things.Area k) = let counted = is.named.areas in omega arith
covered s n is few (things.Robot k) = let counted = is.named.robots in omega arith

-- no element passes
pub none_passes : {A : Type 0} (p : A → Bool) (xs : List A) (d : A) → ((i : ℕ) → i < length xs → p (get_or xs i d) ≡ false) → list_any p xs ≡ false
none_passes p [] d each = refl
none_passes p (x ∷ xs) d each =
    let first : p x ≡ false = each 0 (omega arith) in
    rw first (none_passes p xs d (λ i lt. each (suc i) (omega arith)))

abbrev first_cell : CellNo
first_cell = record { 0 = 0 }

-- one cell or mission more
starts_more : (s : ScenarioValue) (n : ℕ) → n < length s.starts → take (n + 1) s.starts ≡ take n s.starts ++ get_or s.starts n first_cell ∷ []
starts_more s n lt = take_more s.starts n first_cell lt

module _ (s : ScenarioValue) (n : ℕ) (is : IsScenario s) (declared : AreDeclared s.names) (lt : n < length s.starts) where
  abbrev cell : CellNo
  cell = get_or s.starts n (record { 0 = 0 })

  covers : Covers s.names s.site.cells (length s.site.crossings) (length s.site.areas) n
  covers = covered s n is (omega arith)

  cell_there : cell.0 < s.site.cells
  cell_there = All-get_or (λ c. c.0 < s.site.cells) s.starts n (record { 0 = 0 }) lt is.starts

  cell_is : cell_named (names_at s n) (name s.names (things.Cell cell.0)) ≡ Some cell
  cell_is = ap as_cell (upto_found s.names s.site.cells (length s.site.crossings) (length s.site.areas) n declared covers (things.Cell cell.0) cell_there)

  free : thing_of (names_at s n) (name s.names (things.Robot n)) ≡ None
  free = upto_free s.names s.site.cells (length s.site.crossings) (length s.site.areas) n declared covers (things.Robot n) (let counted = is.named.robots in omega arith) (omega arith)

  pub good_robot : is_name (name s.names (things.Robot n)) ≡ true
  good_robot = (upto_known s.names s.site.cells (length s.site.crossings) (length s.site.areas) (n + 1) declared (covered s (n + 1) is (omega arith)) (things.Robot n) (omega arith)).good

  pub good_cell : is_name (name s.names (things.Cell cell.0)) ≡ true
  good_cell = (upto_known s.names s.site.cells (length s.site.crossings) (length s.site.areas) n declared covers (things.Cell cell.0) cell_there).good

  far : (i : ℕ) → i < length (take n s.starts) → do_conflict s.site (get_or (take n s.starts) i (record { 0 = 0 })) cell ≡ false
  far i below =
      let low : i < n = let len = length-take-le n s.starts (omega arith) in omega arith in
      ap (λ earlier. do_conflict s.site earlier cell) (get_or-take n s.starts i (record { 0 = 0 }) low) ∙ is.apart i n (record { 0 = 0 }) low lt

  far_from_all : list_any (λ earlier. do_conflict s.site earlier cell) (take n s.starts) ≡ false
  far_from_all = none_passes (λ earlier. do_conflict s.site earlier cell) (take n s.starts) (record { 0 = 0 }) far

  abbrev words : List (List ℕ)
  words = name s.names (things.Robot n) ∷ name s.names (things.Cell cell.0) ∷ []

  room : leb 64 (length (take n s.starts)) ≡ false
  room = let len = length-take-le n s.starts (omega arith) in let few = is.few in lt-leb 64 (length (take n s.starts)) (omega arith)

  rows_fine : AllByRecursion (λ r. r.fits ≡ false) (robot_rows (robots_at s n) words)
  rows_fine = (
    refl,
    (refl, (rw (good_robot, good_cell) refl, (rw free refl, (rw cell_is refl, (room, (rw cell_is far_from_all, tt)))))),
  )

  same_value : with_name (names_at s n) (name s.names (things.Robot n)) (things.Robot (count_of is_robot (names_at s n))) ≡ names_at s (n + 1)
  same_value =
      ap (λ k. with_name (names_at s n) (name s.names (things.Robot n)) (things.Robot k)) (robots_counted s.names s.site.cells (length s.site.crossings) (length s.site.areas) n)
      ∙ sym (robots_more s.names s.site.cells (length s.site.crossings) (length s.site.areas) n)

  same_starts : take n s.starts ++ cell_at (names_at s n) (name s.names (things.Cell cell.0)) ∷ [] ≡ take (n + 1) s.starts
  same_starts = ap (λ o. take n s.starts ++ unwrap_or o (record { 0 = 0 }) ∷ []) cell_is ∙ sym (starts_more s n lt)

  same_missions : map no_mission (take n s.starts) ++ None ∷ [] ≡ map no_mission (take (n + 1) s.starts)
  same_missions = sym (ap (map no_mission) (starts_more s n lt) ∙ map-append no_mission (take n s.starts) (get_or s.starts n first_cell ∷ []))

  -- the line of robot n
  pub robot_accepted : keyword_line (AmongRobots (robots_at s n)) (codes "robot") words ≡ Ok (AmongRobots (robots_at s (n + 1)))
  robot_accepted =
      ap (mapped AmongRobots) (fine (robot_rows (robots_at s n) words) _ rows_fine)
      ∙ ap (λ (names : Named). Ok (AmongRobots (record { site = s.site; names = names; starts = take n s.starts ++ cell_at (names_at s n) (name s.names (things.Cell cell.0)) ∷ []; missions = map no_mission (take n s.starts) ++ None ∷ [] }))) same_value
      ∙ ap (λ starts. Ok (AmongRobots (record { site = s.site; names = names_at s (n + 1); starts = starts; missions = map no_mission (take n s.starts) ++ None ∷ [] }))) same_starts
      ∙ ap (λ missions. Ok (AmongRobots (record { site = s.site; names = names_at s (n + 1); starts = take (n + 1) s.starts; missions = missions }))) same_missions
