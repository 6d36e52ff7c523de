-- What lines that are accepted have made sure of.
use Rattle.std.proofs.Common.{◌≡◌, ℕ, zero, suc, ◌+◌, ◌-◌, ◌*◌, ◌<◌, ◌≤◌, true, false, ◌&&◌, leb, List, [], ◌∷◌, ◌++◌, length, set, drop, get_or, Option, Some, None, Ok, refl, sym, ap, subst, ◌∙◌, arith, length-append, length-take-le, add-zero}
use Rattle.std.specs.Prelude.{All, AllPairs}
use Rattle.std.specs.List.{list_all, list_any}
use Rattle.std.specs.Option.{is_some, unwrap_or}
use Rattle.std.specs.Str.Parse.{digits_value}
use Rattle.std.proofs.lemmas.Bool.{and_parts, not-false, ltb-false, leb-false, leb-true, eqb-false, both_ways, false_from_ne_true}
use Rattle.std.proofs.lemmas.List.{length-set, length-map}
use Rattle.std.proofs.lemmas.List.Elements.{All-nil, All-push, All-set, All-append, All-take, All-get_or}
use Rattle.std.proofs.lemmas.List.Folds.{list_any_at}
use Rattle.std.proofs.lemmas.List.Quantifiers.{all_pairs_push}
use Rattle.fleet_base.specs.declared.numbers.CellNo.{CellNo}
use Rattle.fleet_names.specs.declared.thing.Thing.TheVariants.{Crossing, Area, Robot}
use Rattle.fleet_names.specs.Names.{Named, count_of, is_name, thing_of, AreDeclared}
use Rattle.fleet_names.specs.Things.{is_area, is_crossing, is_robot}
use Rattle.fleet_names.proofs.Adding.{AreDeclared-push}
use Rattle.site_lines.specs.Readings.{Row}
use Rattle.site_map.specs.Built.{BuiltSite, completed_site, crossing_at, with_area, with_crossing, with_flow}
use Rattle.site_map.specs.Cells.{in_order}
use Rattle.site_map.specs.Crossings.{completed, with_line}
use Rattle.site_map.specs.Goals.{IsGoal}
use Rattle.site_map.specs.declared.goal.Goal.{Goal}
use Rattle.site_map.specs.declared.goal.Goal.TheVariants as goals
use Rattle.scenario.specs.Scenarios.{do_conflict, IsMission, NamesAll}
use Rattle.scenario_reader.specs.FleetLines.{end_line, end_rows, mission_line, mission_rows, robot_at, robot_line, robot_named, robot_rows}
use Rattle.scenario_reader.specs.Kept.{IsBare, IsBlock, IsOpen, IsSound}
use Rattle.scenario_reader.specs.MissionLines.{again_line, again_rows, done_line, done_rows, goal_at, goal_named, innermost, opened, outer, repeated, repeat_line, repeat_rows, visit_line, visit_rows}
use Rattle.scenario_reader.specs.Reading.{closed}
use Rattle.scenario_reader.specs.SiteLines.{area_line, area_rows, cell_at, cell_line, cell_named, cell_rows, cells_named, crossing_named, crossing_line, crossing_rows, ends_rows, flow_line, flow_rows, lane_line, lane_rows, link_line, link_rows, linked, new_set_rows, old_set_rows, with_cell_names, with_cells, with_name}
use Rattle.scenario_reader.specs.States.{Block, Declared, Mission}
use Rattle.scenario_reader.specs.Tables.{judged, word, IsFine}
use Rattle.scenario_reader.proofs.Fines.{fines, judged_fine}
use Rattle.scenario_reader.proofs.Naming.{cell_known, declared_cells, free_none, goal_known, named_cells, named_more, robot_known, word_is_name}
use Rattle.scenario_reader.proofs.Repeats.{length-repeated}

pub sound_ground : (d : Declared) → d.starts ≡ [] → d.missions ≡ [] → AreDeclared d.names → NamesAll d.names d.site 0 → IsSound d
sound_ground d none empty declared named = record {
  few = omega (arith, ap length none);
  starts = subst (λ (cs : List CellNo). All (λ c. c.0 < d.site.cells) cs) (sym none) (All-nil (λ (c : CellNo). c.0 < d.site.cells));
  apart = subst (λ (cs : List CellNo). AllPairs (λ a b. do_conflict d.site a b ≡ false) cs) (sym none) (λ i j e before within. absurd (omega arith));
  declared = declared;
  named = subst (λ (n : ℕ). NamesAll d.names d.site n) (sym (ap length none)) named;
  missions = ap length empty ∙ sym (ap length none);
  legs = subst (λ (ms : List (Option (List Goal))). All (λ m. IsMission d.site (unwrap_or m [])) ms) (sym empty) (All-nil (λ (m : Option (List Goal)). IsMission d.site (unwrap_or m [])));
}

named_bare : (d : Declared) → IsBare d → NamesAll d.names d.site 0
named_bare d bare = subst (λ (n : ℕ). NamesAll d.names d.site n) (ap length bare.1) bare.0.named

-- a site line
ground_reached : (rows : List Row) (new d : Declared) → judged rows new ≡ Ok d → new.starts ≡ [] → new.missions ≡ [] → (IsFine rows → AreDeclared new.names × NamesAll new.names new.site 0) → IsBare d
ground_reached rows new d is none empty names =
    let fine = judged_fine rows new d is in
    let parts = names fine.0 in
    subst IsBare fine.1 (sound_ground new none empty parts.0 parts.1, none, empty)

pub cell_reached : (d e : Declared) (words : List (List ℕ)) → IsBare d → cell_line d words ≡ Ok e → IsBare e
cell_reached d e words bare is = ground_reached (cell_rows d words) (record d { site = with_cells d.site words; names = with_cell_names d.names words }) e is bare.1 bare.2
    (λ fine.
    let f = fines (cell_rows d words) fine in
    (declared_cells words d.names bare.0.declared (not-false (list_all is_name words) f.1.0) f.1.1.0, named_cells words d.names d.site 0 (named_bare d bare)))

-- a name that is new and good
new_name : (names : Named) (words : List (List ℕ)) (back : List Row) → AreDeclared names → IsFine (new_set_rows names words ++ back) → (is_name (word words 0) ≡ true) × (thing_of names (word words 0) ≡ None)
new_name names words back declared fine =
    let f = fines (new_set_rows names words ++ back) fine in
    let enough : 2 ≤ length words = ltb-false (length words) 2 f.0 in
    (word_is_name words 0 (not-false (list_all is_name words) f.1.0) (omega arith), free_none names (word words 0) f.1.1.0)

pub crossing_reached : (d e : Declared) (words : List (List ℕ)) → IsBare d → crossing_line d words ≡ Ok e → IsBare e
crossing_reached d e words bare is =
    let cells : List CellNo = cells_named d.names (drop 1 words) in
    let t = Crossing (count_of is_crossing d.names) in
    ground_reached (new_set_rows d.names words ++ crossing_rows d.site cells) (record d { site = with_crossing d.site cells; names = with_name d.names (word words 0) t }) e is bare.1 bare.2
    (λ fine.
    let n = new_name d.names words (crossing_rows d.site cells) bare.0.declared fine in (
      AreDeclared-push d.names (word words 0) t bare.0.declared n.0 n.1 refl,
      named_more d.names d.site (with_crossing d.site cells) 0 0 (word words 0) t (named_bare d bare) (sym (add-zero _)) (length-append d.site.crossings _) (sym (add-zero _)) refl,
    ))

pub area_reached : (d e : Declared) (words : List (List ℕ)) → IsBare d → area_line d words ≡ Ok e → IsBare e
area_reached d e words bare is =
    let cells : List CellNo = cells_named d.names (drop 1 words) in
    let t = Area (count_of is_area d.names) in
    ground_reached (new_set_rows d.names words ++ area_rows d.site cells) (record d { site = with_area d.site cells; names = with_name d.names (word words 0) t }) e is bare.1 bare.2
    (λ fine.
    let n = new_name d.names words (area_rows d.site cells) bare.0.declared fine in (
      AreDeclared-push d.names (word words 0) t bare.0.declared n.0 n.1 refl,
      named_more d.names d.site (with_area d.site cells) 0 0 (word words 0) t (named_bare d bare) (sym (add-zero _)) (sym (add-zero _)) (length-append d.site.areas _) refl,
    ))

-- the names stay, and so do the numbers of what they name
same_names : (names : Named) (site site' : BuiltSite) (n : ℕ) → NamesAll names site n → site'.cells ≡ site.cells → length site'.crossings ≡ length site.crossings → length site'.areas ≡ length site.areas → NamesAll names site' n
same_names names site site' n all cells crossings areas = record { cells = all.cells ∙ sym cells; crossings = all.crossings ∙ sym crossings; areas = all.areas ∙ sym areas; robots = all.robots }

pub flow_reached : (d e : Declared) (words : List (List ℕ)) → IsBare d → flow_line d words ≡ Ok e → IsBare e
flow_reached d e words bare is =
    let k : ℕ = unwrap_or (crossing_named d.names (word words 0)) 0 in
    let cells : List CellNo = cells_named d.names (drop 1 words) in
    ground_reached (old_set_rows d.names words ++ flow_rows d.site k cells) (record d { site = with_flow d.site k cells }) e is bare.1 bare.2
    (λ fine. (bare.0.declared, same_names d.names d.site (with_flow d.site k cells) 0 (named_bare d bare) refl (length-set d.site.crossings k (with_line (crossing_at d.site k) (in_order d.site.cells cells))) refl))

pub link_reached : (d e : Declared) (words : List (List ℕ)) → IsBare d → link_line d words ≡ Ok e → IsBare e
link_reached d e words bare is =
    let a : CellNo = cell_at d.names (word words 0) in
    let b : CellNo = cell_at d.names (word words 1) in
    let site : BuiltSite = linked d.site a b (digits_value 10 (word words 2)) in
    ground_reached (ends_rows d.names words ++ link_rows d.site a b) (record d { site = site }) e is bare.1 bare.2 (λ fine. (bare.0.declared, same_names d.names d.site site 0 (named_bare d bare) refl refl refl))

pub lane_reached : (d e : Declared) (words : List (List ℕ)) → IsBare d → lane_line d words ≡ Ok e → IsBare e
lane_reached d e words bare is =
    let a : CellNo = cell_at d.names (word words 0) in
    let b : CellNo = cell_at d.names (word words 1) in
    let cost : ℕ = digits_value 10 (word words 2) in
    let site : BuiltSite = linked (linked d.site a b cost) b a cost in
    ground_reached (ends_rows d.names words ++ lane_rows d.site a b) (record d { site = site }) e is bare.1 bare.2 (λ fine. (bare.0.declared, same_names d.names d.site site 0 (named_bare d bare) refl refl refl))

pub closed_sound : (d : Declared) → IsBare d → IsSound (closed d)
closed_sound d bare = sound_ground (closed d) bare.1 bare.2 bare.0.declared (same_names d.names d.site (completed_site d.site) 0 (named_bare d bare) refl (length-map d.site.crossings completed) refl)

-- a start that is in nobody's way
all_free : (site : BuiltSite) (starts : List CellNo) (start : CellNo) → list_any (λ earlier. do_conflict site earlier start) starts ≡ false → (k : ℕ) (d : CellNo) → k < length starts → do_conflict site (get_or starts k d) start ≡ false
all_free site starts start free k d within = false_from_ne_true (do_conflict site (get_or starts k d) start) (λ h. both_ways (list_any (λ earlier. do_conflict site earlier start) starts) free (list_any_at (λ earlier. do_conflict site earlier start) starts k d within h))

no_legs : (site : BuiltSite) → IsMission site []
no_legs site = record { few = omega arith; goals = All-nil (IsGoal site) }

pub robot_reached : (d e : Declared) (words : List (List ℕ)) → IsSound d → robot_line d words ≡ Ok e → IsSound e
robot_reached d e words sound is =
    let start : CellNo = cell_at d.names (word words 1) in
    let t = Robot (count_of is_robot d.names) in
    let fine = judged_fine (robot_rows d words) _ e is in
    let f = fines (robot_rows d words) fine.0 in
    let enough : 2 ≤ length words = ltb-false (length words) 2 f.0 in
    let good = word_is_name words 0 (not-false (list_all is_name words) f.1.1.0) (omega arith) in
    let known : start.0 < d.site.cells = subst (λ n. start.0 < n) sound.named.cells (cell_known d.names (word words 1) sound.declared (not-false (is_some (cell_named d.names (word words 1))) f.1.1.1.1.0)) in
    let room : length d.starts < 64 = leb-false 64 (length d.starts) f.1.1.1.1.1.0 in
    let more : length (d.starts ++ start ∷ []) ≡ length d.starts + 1 = length-append d.starts (start ∷ []) in
    subst IsSound fine.1 (record {
      few = omega arith;
      starts = All-push (λ (c : CellNo). c.0 < d.site.cells) d.starts start sound.starts known;
      apart = all_pairs_push (λ a b. do_conflict d.site a b ≡ false) d.starts start sound.apart (all_free d.site d.starts start f.1.1.1.1.1.1.0);
      declared = AreDeclared-push d.names (word words 0) t sound.declared good (free_none d.names (word words 0) f.1.1.1.0) refl;
      named = named_more d.names d.site d.site (length d.starts) (length (d.starts ++ start ∷ [])) (word words 0) t sound.named (sym (add-zero _)) (sym (add-zero _)) (sym (add-zero _)) more;
      missions = length-append d.missions (None ∷ []) ∙ ap (λ n. n + 1) sound.missions ∙ sym more;
      legs = All-push (λ (m : Option (List Goal)). IsMission d.site (unwrap_or m [])) d.missions None sound.legs (no_legs d.site);
    })

pub mission_reached : (d : Declared) (m : Mission) (words : List (List ℕ)) → IsSound d → mission_line d words ≡ Ok m → IsOpen d m
mission_reached d m words sound is =
    let fine = judged_fine (mission_rows d words) (record { robot = robot_at d.names (word words 0); legs = []; blocks = [] }) m is in
    let f = fines (mission_rows d words) fine.0 in
    subst (IsOpen d) fine.1 (record {
      robot = subst (λ n. robot_at d.names (word words 0) < n) sound.named.robots (robot_known d.names (word words 0) sound.declared (not-false (is_some (robot_named d.names (word words 0))) f.1.1.1.0));
      legs = no_legs d.site;
      blocks = All-nil (IsBlock d.site);
      deep = omega arith;
    })

pub end_reached : (d e : Declared) (words : List (List ℕ)) → IsSound d → end_line d words ≡ Ok e → IsSound e × (1 ≤ length e.starts)
end_reached d e words sound is =
    let fine = judged_fine (end_rows d words) d e is in
    let f = fines (end_rows d words) fine.0 in
    let some : length d.starts ≡ 0 → ⊥ = eqb-false (length d.starts) 0 f.1.0 in
    subst (λ (x : Declared). IsSound x × (1 ≤ length x.starts)) fine.1 (sound, omega arith)

pub visit_reached : (d : Declared) (m n : Mission) (words : List (List ℕ)) → IsSound d → IsOpen d m → visit_line d.names m words ≡ Ok n → IsOpen d n
visit_reached d m n words sound reached is =
    let fine = judged_fine (visit_rows d.names m words) (record m { legs = m.legs ++ goal_at d.names (word words 0) ∷ [] }) n is in
    let f = fines (visit_rows d.names m words) fine.0 in
    let few : length m.legs + 1 ≤ 64 = ltb-false 64 (length m.legs + 1) f.1.1.1.1.0 in
    let goal : Goal = unwrap_or (goal_named d.names (word words 0)) (goals.Area 0) in
    let more : length (m.legs ++ goal ∷ []) ≡ length m.legs + 1 = length-append m.legs (goal ∷ []) in
    subst (IsOpen d) fine.1 (record {
      robot = reached.robot;
      legs = record {
        few = omega arith;
        goals = All-push (IsGoal d.site) m.legs goal reached.legs.goals (goal_known d.names d.site (length d.starts) (word words 0) (goals.Area 0) sound.declared sound.named (not-false (is_some (goal_named d.names (word words 0))) f.1.1.1.0));
      };
      blocks = reached.blocks;
      deep = reached.deep;
    })

pub repeat_reached : (d : Declared) (m n : Mission) (words : List (List ℕ)) → IsOpen d m → repeat_line m words ≡ Ok n → IsOpen d n
repeat_reached d m n words reached is =
    let fine = judged_fine (repeat_rows m words) (record m { legs = []; blocks = m.blocks ++ opened (digits_value 10 (word words 0)) m.legs ∷ [] }) n is in
    let f = fines (repeat_rows m words) fine.0 in
    let within = and_parts (leb 1 (digits_value 10 (word words 0))) (leb (digits_value 10 (word words 0)) 64) (not-false (leb 1 (digits_value 10 (word words 0)) && leb (digits_value 10 (word words 0)) 64) f.1.1.1.0) in
    let times : digits_value 10 (word words 0) ≤ 64 = leb-true (digits_value 10 (word words 0)) 64 within.1 in
    let shallow : length m.blocks < 4 = leb-false 4 (length m.blocks) f.1.1.1.1.0 in
    let block : Block = record { times = digits_value 10 (word words 0); before = m.legs } in
    let more : length (m.blocks ++ block ∷ []) ≡ length m.blocks + 1 = length-append m.blocks (block ∷ []) in
    subst (IsOpen d) fine.1 (record {
      robot = reached.robot;
      legs = no_legs d.site;
      blocks = All-push (IsBlock d.site) m.blocks block reached.blocks (record { times = times; before = reached.legs });
      deep = omega arith;
    })

repeated_goals : (site : BuiltSite) (n : ℕ) (legs : List Goal) → All (IsGoal site) legs → All (IsGoal site) (repeated n legs)
repeated_goals site zero legs all = All-nil (IsGoal site)
repeated_goals site (suc n) legs all = All-append (IsGoal site) legs (repeated n legs) all (repeated_goals site n legs all)

pub again_reached : (d : Declared) (m n : Mission) (words : List (List ℕ)) → IsOpen d m → again_line m words ≡ Ok n → IsOpen d n
again_reached d m n words reached is =
    let fine = judged_fine (again_rows m words) (record m { legs = (innermost m.blocks).before ++ repeated (innermost m.blocks).times m.legs; blocks = outer m.blocks }) n is in
    let f = fines (again_rows m words) fine.0 in
    let block : Block = innermost m.blocks in
    let some : length m.blocks ≡ 0 → ⊥ = eqb-false (length m.blocks) 0 f.1.0 in
    let kept : IsBlock d.site block = All-get_or (IsBlock d.site) m.blocks (length m.blocks - 1) (record { times = 0; before = [] }) (omega arith) reached.blocks in
    let room : length block.before + block.times * length m.legs ≤ 64 = ltb-false 64 (length block.before + block.times * length m.legs) f.1.1.0 in
    let long : length (block.before ++ repeated block.times m.legs) ≡ length block.before + block.times * length m.legs =
    length-append block.before (repeated block.times m.legs) ∙ ap (λ k. length block.before + k) (length-repeated block.times m.legs) in
    subst (IsOpen d) fine.1 (record {
      robot = reached.robot;
      legs = record {
        few = omega arith;
        goals = All-append (IsGoal d.site) block.before (repeated block.times m.legs) kept.before.goals (repeated_goals d.site block.times m.legs reached.legs.goals);
      };
      blocks = All-take (IsBlock d.site) (length m.blocks - 1) m.blocks reached.blocks;
      deep = omega (arith, length-take-le {A = Block}, reached.deep);
    })

pub done_reached : (d e : Declared) (m : Mission) (words : List (List ℕ)) → IsSound d → IsOpen d m → done_line d m words ≡ Ok e → IsSound e
done_reached d e m words sound reached is =
    let fine = judged_fine (done_rows m words) (record d { missions = set d.missions m.robot (Some m.legs) }) e is in
    subst IsSound fine.1 (record {
      few = sound.few;
      starts = sound.starts;
      apart = sound.apart;
      declared = sound.declared;
      named = sound.named;
      missions = length-set d.missions m.robot (Some m.legs) ∙ sound.missions;
      legs = All-set (λ (o : Option (List Goal)). IsMission d.site (unwrap_or o [])) d.missions m.robot (Some m.legs) reached.legs sound.legs;
    })
