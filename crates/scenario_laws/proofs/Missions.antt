-- The lines of missions are accepted, one after the other.
use Rattle.std.proofs.Common.{◌≡◌, ℕ, ◌+◌, ◌<◌, ◌≤◌, true, false, ltb, List, [], ◌∷◌, ◌++◌, length, map, take, drop, set, get_or, Option, Some, None, Ok, refl, sym, ap, ◌∙◌, append_assoc, arith}
use Rattle.std.specs.Prelude.{All, codes}
use Rattle.std.specs.List.{AllByRecursion}
use Rattle.std.specs.Option.{unwrap_or}
use Rattle.std.proofs.Math.Seq.{get_or-append_seam, set-append_seam}
use Rattle.std.proofs.lemmas.Bool.{le-ltb}
use Rattle.std.proofs.lemmas.List.{drop_more, length-map, length-take-le, map-append, take_more}
use Rattle.std.proofs.lemmas.List.Elements.{All-get_or}
use Rattle.fleet_names.specs.declared.thing.Thing.TheVariants as things
use Rattle.fleet_names.specs.Names.{Named, AreDeclared, is_name}
use Rattle.fleet_names.specs.Things.{number_of}
use Rattle.site_map.specs.Goals.{IsGoal}
use Rattle.site_map.specs.declared.goal.Goal.{Goal}
use Rattle.site_map.specs.declared.goal.Goal.TheVariants as goals
use Rattle.scenario.specs.Canonical.{goal_thing, name}
use Rattle.scenario.specs.Scenarios.{ScenarioValue, IsMission, IsScenario, legs_of}
use Rattle.scenario_reader.specs.FleetLines.{as_robot, mission_rows, robot_named}
use Rattle.scenario_reader.specs.MissionLines.{as_goal, goal_named, visit_rows}
use Rattle.scenario_reader.specs.Reading.{keyword_line}
use Rattle.scenario_reader.specs.States.{Declared, Mission, AmongRobots, InMission}
use Rattle.scenario_reader.specs.Tables.{mapped}
use Rattle.scenario_laws.proofs.CanonicalNames.{Covers, limit_of, upto_found, upto_known}
use Rattle.scenario_laws.proofs.Robots.{covered, names_at}
use Rattle.scenario_laws.proofs.StepLists.{fine}

-- what is told of a robot's legs: a mission without a leg isn't printed
abbrev pub told : List Goal → Option (List Goal)
told [] = None
told (leg ∷ legs) = Some (leg ∷ legs)

pub told_back : (legs : List Goal) → unwrap_or (told legs) [] ≡ legs
told_back [] = refl
told_back (leg ∷ legs) = refl

abbrev pub untold : List Goal → Option (List Goal)
untold legs = None

-- the missions of the first k robots are told
abbrev pub missions_upto : List (List Goal) → ℕ → List (Option (List Goal))
missions_upto missions k = map told (take k missions) ++ map untold (drop k missions)

-- what is declared behind the missions of k robots
abbrev pub missions_at : ScenarioValue → ℕ → Declared
missions_at s k = record { site = s.site; names = names_at s (length s.starts); starts = s.starts; missions = missions_upto s.missions k }

-- the goal that a name names
goal_is : (goal : Goal) → as_goal (Some (goal_thing goal)) ≡ Some goal
goal_is (goals.Cell c) = refl
goal_is (goals.Area k) = refl

module _ (s : ScenarioValue) (is : IsScenario s) (declared : AreDeclared s.names) where
  covers : Covers s.names s.site.cells (length s.site.crossings) (length s.site.areas) (length s.starts)
  covers = covered s (length s.starts) is (omega arith)

  goal_known : (goal : Goal) → IsGoal s.site goal → number_of (goal_thing goal) < limit_of s.site.cells (length s.site.crossings) (length s.site.areas) (length s.starts) (goal_thing goal)
  goal_known (goals.Cell c) known = known
  goal_known (goals.Area k) known = known

  goal_found : (goal : Goal) → IsGoal s.site goal → goal_named (names_at s (length s.starts)) (name s.names (goal_thing goal)) ≡ Some goal
  goal_found goal known =
      ap as_goal (upto_found s.names s.site.cells (length s.site.crossings) (length s.site.areas) (length s.starts) declared covers (goal_thing goal) (goal_known goal known))
      ∙ goal_is goal

  pub goal_good : (goal : Goal) → IsGoal s.site goal → is_name (name s.names (goal_thing goal)) ≡ true
  goal_good goal known = (upto_known s.names s.site.cells (length s.site.crossings) (length s.site.areas) (length s.starts) declared covers (goal_thing goal) (goal_known goal known)).good

  -- the line of a leg
  pub leg_accepted : (d : Declared) (m : Mission) (goal : Goal) → d.names ≡ names_at s (length s.starts) → IsGoal s.site goal → length m.legs < 64
      → keyword_line (InMission d m) (codes "visit") (name s.names (goal_thing goal) ∷ []) ≡ Ok (InMission d (record m { legs = m.legs ++ goal ∷ [] }))
  leg_accepted d m goal same known few =
      let found : goal_named d.names (name s.names (goal_thing goal)) ≡ Some goal = ap (λ (names : Named). goal_named names (name s.names (goal_thing goal))) same ∙ goal_found goal known in
      let room : ltb 64 (length m.legs + 1) ≡ false = le-ltb 64 (length m.legs + 1) (omega arith) in
      let rows : AllByRecursion (λ r. r.fits ≡ false) (visit_rows d.names m (name s.names (goal_thing goal) ∷ [])) = (refl, (refl, (rw (goal_good goal known) refl, (rw found refl, (room, tt))))) in
      ap (mapped (InMission d)) (fine (visit_rows d.names m (name s.names (goal_thing goal) ∷ [])) _ rows)
      ∙ ap (λ o. Ok (InMission d (record m { legs = m.legs ++ unwrap_or o (goals.Area 0) ∷ [] }))) found

  module _ (k : ℕ) (lt : k < length s.starts) where
    robot_is : robot_named (names_at s (length s.starts)) (name s.names (things.Robot k)) ≡ Some k
    robot_is = ap as_robot (upto_found s.names s.site.cells (length s.site.crossings) (length s.site.areas) (length s.starts) declared covers (things.Robot k) lt)

    pub robot_good : is_name (name s.names (things.Robot k)) ≡ true
    robot_good = (upto_known s.names s.site.cells (length s.site.crossings) (length s.site.areas) (length s.starts) declared covers (things.Robot k) lt).good

    within : k < length s.missions
    within = let many = is.missions in omega arith

    abbrev front : List (Option (List Goal))
    front = map told (take k s.missions)

    abbrev back : List (Option (List Goal))
    back = map untold (drop (k + 1) s.missions)

    front_long : length front ≡ k
    front_long = length-map (take k s.missions) told ∙ length-take-le k s.missions (omega arith)

    before : missions_upto s.missions k ≡ front ++ None ∷ back
    before = ap (λ rest. front ++ map untold rest) (drop_more s.missions k [] within)

    after : missions_upto s.missions (k + 1) ≡ front ++ told (legs_of s.missions k) ∷ back
    after =
        ap (λ first. map told first ++ back) (take_more s.missions k [] within)
        ∙ ap (λ first. first ++ back) (map-append told (take k s.missions) (legs_of s.missions k ∷ []))
        ∙ append_assoc front (told (legs_of s.missions k) ∷ []) back

    untold_yet : get_or (missions_upto s.missions k) k None ≡ None
    untold_yet = ap (λ ms. get_or ms k None) before ∙ ap (λ i. get_or (front ++ None ∷ back) i None) (sym front_long) ∙ get_or-append_seam front None back None

    -- the line that opens the mission of robot k
    pub mission_accepted : keyword_line (AmongRobots (missions_at s k)) (codes "mission") (name s.names (things.Robot k) ∷ []) ≡ Ok (InMission (missions_at s k) (record { robot = k; legs = []; blocks = [] }))
    mission_accepted =
        let rows : AllByRecursion (λ r. r.fits ≡ false) (mission_rows (missions_at s k) (name s.names (things.Robot k) ∷ [])) = (refl, (refl, (rw robot_good refl, (rw robot_is refl, (rw (robot_is, untold_yet) refl, tt))))) in
        ap (mapped (InMission (missions_at s k))) (fine (mission_rows (missions_at s k) (name s.names (things.Robot k) ∷ [])) _ rows)
        ∙ ap (λ o. Ok (InMission (missions_at s k) (record { robot = unwrap_or o 0; legs = []; blocks = [] }))) robot_is

    set_told : (found : Option (List Goal)) → found ≡ told (legs_of s.missions k) → set (missions_upto s.missions k) k found ≡ missions_upto s.missions (k + 1)
    set_told found told_so =
        ap (λ ms. set ms k found) before
        ∙ ap (λ i. set (front ++ None ∷ back) i found) (sym front_long)
        ∙ set-append_seam front None back found
        ∙ ap (λ o. front ++ o ∷ back) told_so
        ∙ sym after

    -- the line that closes it
    pub done_accepted : (legs : List Goal) → Some legs ≡ told (legs_of s.missions k)
        → keyword_line (InMission (missions_at s k) (record { robot = k; legs = legs; blocks = [] })) (codes "done") [] ≡ Ok (AmongRobots (missions_at s (k + 1)))
    done_accepted legs told_so =
        ap (λ ms. Ok (AmongRobots (record { site = s.site; names = names_at s (length s.starts); starts = s.starts; missions = ms }))) (set_told (Some legs) told_so)

    -- a mission without a leg has no line
    pub none_told : legs_of s.missions k ≡ [] → missions_at s k ≡ missions_at s (k + 1)
    none_told none =
        let same : missions_upto s.missions k ≡ missions_upto s.missions (k + 1) = before ∙ ap (λ legs. front ++ told legs ∷ back) (sym none) ∙ sym after in
        ap (λ ms. record { site = s.site; names = names_at s (length s.starts); starts = s.starts; missions = ms }) same

    pub legs_known : All (IsGoal s.site) (legs_of s.missions k)
    legs_known = (All-get_or (IsMission s.site) s.missions k [] within is.legs).goals

    pub legs_few : length (legs_of s.missions k) ≤ 64
    legs_few = (All-get_or (IsMission s.site) s.missions k [] within is.legs).few

-- all are told
pub all_told : (missions : List (List Goal)) → map (λ m. unwrap_or m []) (missions_upto missions (length missions)) ≡ missions
all_told [] = refl
all_told (legs ∷ missions) = rw (told_back legs) (ap (λ ms. legs ∷ ms) (all_told missions))

-- none is told
pub none_told_yet : {A : Type 0} (xs : List A) (missions : List (List Goal)) → length missions ≡ length xs → map (λ (x : A). untold []) xs ≡ missions_upto missions 0
none_told_yet [] [] same = refl
none_told_yet [] (m ∷ ms) same = absurd (omega arith)
none_told_yet (x ∷ xs) [] same = absurd (omega arith)
none_told_yet (x ∷ xs) (m ∷ ms) same = ap (λ (rest : List (Option (List Goal))). None ∷ rest) (none_told_yet xs ms (omega arith))
