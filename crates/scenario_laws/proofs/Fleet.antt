-- The lines of a fleet are accepted, and declare it.
use Rattle.std.proofs.Common.{◌≡◌, ℕ, zero, suc, ◌+◌, ◌<◌, ◌≤◌, Bool, true, List, [], ◌∷◌, ◌++◌, length, map, take, get_or, Ok, refl, sym, ap, subst, ◌∙◌, append_assoc, arith}
use Rattle.std.specs.Prelude.{codes, flat_map}
use Rattle.std.specs.List.{AllByRecursion}
use Rattle.std.proofs.Math.Numerals.{add-one}
use Rattle.std.proofs.lemmas.Bool.{ne_eqb}
use Rattle.std.proofs.lemmas.List.{append-nil, length-append, take_all}
use Rattle.std.proofs.lemmas.List.Elements.{recursion_from_All}
use Rattle.std.proofs.lemmas.List.FromFn.{map-range_with_len_more}
use Rattle.fleet_model.specs.Lists.{numbers_below}
use Rattle.fleet_names.specs.declared.thing.Thing.TheVariants as things
use Rattle.fleet_names.specs.Names.{AreDeclared, is_name}
use Rattle.site_map.specs.Goals.{IsGoal}
use Rattle.site_map.specs.declared.goal.Goal.{Goal}
use Rattle.scenario.specs.Canonical.{goal_thing, name}
use Rattle.scenario.specs.Scenarios.{ScenarioValue, IsScenario, legs_of}
use Rattle.scenario_reader.specs.FleetLines.{end_rows}
use Rattle.scenario_reader.specs.Reading.{closed, keyword_line, step}
use Rattle.scenario_reader.specs.States.{Declared, Mission, State, AmongRobots, AmongSite, Ended, InMission}
use Rattle.scenario_reader.specs.Tables.{mapped}
use Rattle.scenario_laws.proofs.RoundTrip.{bare_line, canonical_names_of, fleet_lines_of, leg_line_of, mission_lines_of, robot_line_of, steps}
use Rattle.scenario_laws.proofs.Missions.{done_accepted, goal_good, leg_accepted, legs_few, legs_known, mission_accepted, missions_at, none_told, none_told_yet, robot_good, told}
use Rattle.scenario_laws.proofs.Robots.{good_cell, good_robot, names_at, no_mission, robot_accepted, robots_at}
use Rattle.scenario_laws.proofs.StepLists.{fine, lines_more, step_alone, step_first, steps_both}

-- a line of names is judged by its words
abbrev pub Worded : Type 0
Worded = (state : State) (keyword : List ℕ) (words : List (List ℕ)) → AllByRecursion (λ w. is_name w ≡ true) (keyword ∷ words) → length words ≤ 1100 → step state (bare_line keyword words) ≡ keyword_line state keyword words

-- a robot's line among the site lines closes the site
closes : (flows : Bool) (d : Declared) (words : List (List ℕ)) → keyword_line (AmongSite flows d) (codes "robot") words ≡ keyword_line (AmongRobots (closed d)) (codes "robot") words
closes flows d words = refl

-- the lines of robots and missions
abbrev pub lines_before_end : ScenarioValue → List (List ℕ)
lines_before_end s = map (robot_line_of s.names s.starts) (numbers_below (length s.starts)) ++ flat_map (λ r. mission_lines_of s.names r (legs_of s.missions r)) (numbers_below (length s.missions))

-- behind them stands the end
pub ends_last : (s : ScenarioValue) → lines_before_end s ++ bare_line (codes "end") [] ∷ [] ≡ fleet_lines_of s
ends_last s = append_assoc (map (robot_line_of s.names s.starts) (numbers_below (length s.starts))) (flat_map (λ r. mission_lines_of s.names r (legs_of s.missions r)) (numbers_below (length s.missions))) (bare_line (codes "end") [] ∷ [])

module _ (worded : Worded) (s : ScenarioValue) (is : IsScenario s) (declared : AreDeclared s.names) where
  -- the line of a robot
  robot_read : (state : State) (r : ℕ) → r < length s.starts → step state (robot_line_of s.names s.starts r) ≡ keyword_line state (codes "robot") (name s.names (things.Robot r) ∷ name s.names (things.Cell (get_or s.starts r (record { 0 = 0 })).0) ∷ [])
  robot_read state r lt = worded state (codes "robot") (name s.names (things.Robot r) ∷ name s.names (things.Cell (get_or s.starts r (record { 0 = 0 })).0) ∷ []) (refl, (good_robot s r is declared lt, (good_cell s r is declared lt, tt))) (omega arith)

  robot_stepped : (r : ℕ) → r < length s.starts → step (AmongRobots (robots_at s r)) (robot_line_of s.names s.starts r) ≡ Ok (AmongRobots (robots_at s (r + 1)))
  robot_stepped r lt = robot_read (AmongRobots (robots_at s r)) r lt ∙ robot_accepted s r is declared lt

  -- the lines of the first n robots
  robots_stepped : (n : ℕ) → n ≤ length s.starts → steps (AmongRobots (robots_at s 0)) (map (robot_line_of s.names s.starts) (numbers_below n)) ≡ Ok (AmongRobots (robots_at s n))
  robots_stepped zero few = refl
  robots_stepped (suc n) few =
      ap (λ k. steps (AmongRobots (robots_at s 0)) (map (robot_line_of s.names s.starts) (numbers_below k))) (sym (add-one n))
      ∙ ap (steps (AmongRobots (robots_at s 0))) (map-range_with_len_more (robot_line_of s.names s.starts) 0 n n (omega arith))
      ∙ steps_both (AmongRobots (robots_at s 0)) (AmongRobots (robots_at s n)) (map (robot_line_of s.names s.starts) (numbers_below n)) (robot_line_of s.names s.starts n ∷ []) (robots_stepped n (omega arith))
      ∙ step_alone (AmongRobots (robots_at s n)) (AmongRobots (robots_at s (n + 1))) (robot_line_of s.names s.starts n) (robot_stepped n (omega arith))
      ∙ ap (λ k. Ok (AmongRobots (robots_at s k))) (add-one n)

  -- the lines of the legs of a mission
  legs_stepped : (d : Declared) (m : Mission) (legs : List Goal) → d.names ≡ names_at s (length s.starts) → AllByRecursion (IsGoal s.site) legs → length m.legs + length legs ≤ 64
      → steps (InMission d m) (map (leg_line_of s.names) legs) ≡ Ok (InMission d (record { robot = m.robot; legs = m.legs ++ legs; blocks = m.blocks }))
  legs_stepped d m [] same known few = ap (λ ls. Ok (InMission d (record { robot = m.robot; legs = ls; blocks = m.blocks }))) (sym (append-nil m.legs))
  legs_stepped d m (leg ∷ legs) same known few =
      let m' : Mission = record { robot = m.robot; legs = m.legs ++ leg ∷ []; blocks = m.blocks } in
      let first : step (InMission d m) (leg_line_of s.names leg) ≡ Ok (InMission d m') =
      worded (InMission d m) (codes "visit") (name s.names (goal_thing leg) ∷ []) (refl, (goal_good s is declared leg known.0, tt)) (omega arith) ∙ leg_accepted s is declared d m leg same known.0 (omega arith) in
      let long : length (m.legs ++ leg ∷ []) ≡ length m.legs + 1 = length-append m.legs (leg ∷ []) in
      step_first (InMission d m) (InMission d m') (leg_line_of s.names leg) (map (leg_line_of s.names) legs) first
      ∙ legs_stepped d m' legs same known.1 (omega arith)
      ∙ ap (λ ls. Ok (InMission d (record { robot = m.robot; legs = ls; blocks = m.blocks }))) (append_assoc m.legs (leg ∷ []) legs)

  -- the lines of the mission of robot k
  by_legs : (k : ℕ) (legs : List Goal) → k < length s.starts → legs_of s.missions k ≡ legs → steps (AmongRobots (missions_at s k)) (mission_lines_of s.names k legs) ≡ Ok (AmongRobots (missions_at s (k + 1)))
  by_legs k [] lt same = ap (λ d. Ok (AmongRobots d)) (none_told s is declared k lt same)
  by_legs k (leg ∷ legs) lt same =
      let d : Declared = missions_at s k in
      let opened : Mission = record { robot = k; legs = []; blocks = [] } in
      let filled : Mission = record { robot = k; legs = leg ∷ legs; blocks = [] } in
      let known : AllByRecursion (IsGoal s.site) (leg ∷ legs) = subst (AllByRecursion (IsGoal s.site)) same (recursion_from_All (IsGoal s.site) (legs_of s.missions k) (legs_known s is declared k lt)) in
      let few : length (leg ∷ legs) ≤ 64 = subst (λ ls. length ls ≤ 64) same (legs_few s is declared k lt) in
      let opens : step (AmongRobots d) (bare_line (codes "mission") (name s.names (things.Robot k) ∷ [])) ≡ Ok (InMission d opened) =
      worded (AmongRobots d) (codes "mission") (name s.names (things.Robot k) ∷ []) (refl, (robot_good s is declared k lt, tt)) (omega arith) ∙ mission_accepted s is declared k lt in
      let closes : step (InMission d filled) (bare_line (codes "done") []) ≡ Ok (AmongRobots (missions_at s (k + 1))) =
      worded (InMission d filled) (codes "done") [] (refl, tt) (omega arith) ∙ done_accepted s is declared k lt (leg ∷ legs) (ap told (sym same)) in
      step_first (AmongRobots d) (InMission d opened) (bare_line (codes "mission") (name s.names (things.Robot k) ∷ [])) (map (leg_line_of s.names) (leg ∷ legs) ++ bare_line (codes "done") [] ∷ []) opens
      ∙ steps_both (InMission d opened) (InMission d filled) (map (leg_line_of s.names) (leg ∷ legs)) (bare_line (codes "done") [] ∷ []) (legs_stepped d opened (leg ∷ legs) refl known (omega (arith, few)))
      ∙ step_alone (InMission d filled) (AmongRobots (missions_at s (k + 1))) (bare_line (codes "done") []) closes

  -- the lines of the missions of the first n robots
  missions_stepped : (n : ℕ) → n ≤ length s.starts
      → steps (AmongRobots (missions_at s 0)) (flat_map (λ r. mission_lines_of s.names r (legs_of s.missions r)) (numbers_below n)) ≡ Ok (AmongRobots (missions_at s n))
  missions_stepped zero few = refl
  missions_stepped (suc n) few =
      let lines : ℕ → List (List ℕ) = λ r. mission_lines_of s.names r (legs_of s.missions r) in
      ap (λ k. steps (AmongRobots (missions_at s 0)) (flat_map lines (numbers_below k))) (sym (add-one n))
      ∙ ap (steps (AmongRobots (missions_at s 0))) (lines_more lines n)
      ∙ steps_both (AmongRobots (missions_at s 0)) (AmongRobots (missions_at s n)) (flat_map lines (numbers_below n)) (lines n) (missions_stepped n (omega arith))
      ∙ by_legs n (legs_of s.missions n) (omega arith) refl
      ∙ ap (λ k. Ok (AmongRobots (missions_at s k))) (add-one n)

  -- behind the robots no mission is told
  robots_then_missions : robots_at s (length s.starts) ≡ missions_at s 0
  robots_then_missions =
      let all : take (length s.starts) s.starts ≡ s.starts = take_all (length s.starts) s.starts (omega arith) in
      ap (λ starts. record { site = s.site; names = names_at s (length s.starts); starts = starts; missions = map no_mission starts }) all
      ∙ ap (λ ms. record { site = s.site; names = names_at s (length s.starts); starts = s.starts; missions = ms }) (none_told_yet s.starts s.missions is.missions)

  -- the end
  pub end_stepped : (d : Declared) → d.starts ≡ s.starts → step (AmongRobots d) (bare_line (codes "end") []) ≡ Ok (Ended d)
  end_stepped d same =
      let some = is.some in
      let other = ne_eqb (length d.starts) 0 (λ none. let long = ap length same in absurd (omega arith)) in
      worded (AmongRobots d) (codes "end") [] (refl, tt) (omega arith)
      ∙ ap (mapped Ended) (fine (end_rows d []) d (refl, (other, tt)))

  -- all lines of the fleet but the last, from behind the site's
  among_robots : steps (AmongRobots (robots_at s 0)) (lines_before_end s) ≡ Ok (AmongRobots (missions_at s (length s.missions)))
  among_robots =
      let robots = map (robot_line_of s.names s.starts) (numbers_below (length s.starts)) in
      let missions = flat_map (λ r. mission_lines_of s.names r (legs_of s.missions r)) (numbers_below (length s.missions)) in
      let many = is.missions in
      steps_both (AmongRobots (robots_at s 0)) (AmongRobots (robots_at s (length s.starts))) robots missions (robots_stepped (length s.starts) (omega arith))
      ∙ ap (λ d. steps (AmongRobots d) missions) robots_then_missions
      ∙ missions_stepped (length s.missions) (omega arith)

  -- the first line is a robot's
  from_site : (flows : Bool) (d : Declared) (n : ℕ) (rest : List (List ℕ)) → n ≤ length s.starts → 1 ≤ n
      → steps (AmongSite flows d) (map (robot_line_of s.names s.starts) (numbers_below n) ++ rest) ≡ steps (AmongRobots (closed d)) (map (robot_line_of s.names s.starts) (numbers_below n) ++ rest)
  from_site flows d zero rest few some = absurd (omega arith)
  from_site flows d (suc n) rest few some =
      let first : step (AmongSite flows d) (robot_line_of s.names s.starts 0) ≡ step (AmongRobots (closed d)) (robot_line_of s.names s.starts 0) =
      robot_read (AmongSite flows d) 0 (omega arith) ∙ sym (robot_read (AmongRobots (closed d)) 0 (omega arith)) in
      rw first refl

  -- the fleet's lines but the last, behind the site's
  pub before_end_stepped : (flows : Bool) (d : Declared) → closed d ≡ record { site = s.site; names = canonical_names_of s; starts = []; missions = [] }
      → steps (AmongSite flows d) (lines_before_end s) ≡ Ok (AmongRobots (missions_at s (length s.missions)))
  before_end_stepped flows d is_closed =
      let some = is.some in
      from_site flows d (length s.starts) (flat_map (λ r. mission_lines_of s.names r (legs_of s.missions r)) (numbers_below (length s.missions))) (omega arith) (omega arith)
      ∙ ap (λ e. steps (AmongRobots e) (lines_before_end s)) is_closed
      ∙ among_robots

  -- The fleet's lines, behind the site's, declare the scenario.
  pub fleet_stepped : (flows : Bool) (d : Declared) → closed d ≡ record { site = s.site; names = canonical_names_of s; starts = []; missions = [] }
      → steps (AmongSite flows d) (fleet_lines_of s) ≡ Ok (Ended (missions_at s (length s.missions)))
  fleet_stepped flows d is_closed =
      ap (steps (AmongSite flows d)) (sym (ends_last s))
      ∙ steps_both (AmongSite flows d) (AmongRobots (missions_at s (length s.missions))) (lines_before_end s) (bare_line (codes "end") [] ∷ []) (before_end_stepped flows d is_closed)
      ∙ step_alone (AmongRobots (missions_at s (length s.missions))) (Ended (missions_at s (length s.missions))) (bare_line (codes "end") []) (end_stepped (missions_at s (length s.missions)) refl)
