-- Lines of robots and missions are read just where the grammar has them, and mean what it says there.
use Rattle.std.proofs.Common.{◌≡◌, ℕ, zero, suc, ◌+◌, ◌-◌, ◌*◌, ◌<◌, ◌≤◌, true, false, eqb, ltb, List, [], ◌∷◌, ◌++◌, length, get_or, set, take, Option, Some, None, Ok, refl, sym, ap, subst, ◌∙◌, arith, length-append}
use Rattle.std.specs.List.{list_all, list_any}
use Rattle.std.specs.Option.{is_some, unwrap_or}
use Rattle.std.specs.Str.Parse.{digits_value}
use Rattle.std.proofs.lemmas.Bool.{and_from, and_parts, eqb-false, eqb-true, false≢true, le-ltb, leb-false, lt-leb, ltb-false, ne_eqb, not-false, not_from_true}
use Rattle.std.proofs.lemmas.List.{get_or_push}
use Rattle.std.proofs.Math.Seq.{take-append_seam}
use Rattle.fleet_base.specs.declared.numbers.CellNo.{CellNo}
use Rattle.fleet_names.specs.declared.thing.Thing.{Thing}
use Rattle.fleet_names.specs.declared.thing.Thing.TheVariants.{Cell, Crossing, Area, Robot}
use Rattle.fleet_names.specs.Names.{Named, is_name, thing_of}
use Rattle.site_lines.specs.Numbers.{is_number}
use Rattle.site_map.specs.declared.goal.Goal.{Goal}
use Rattle.site_map.specs.declared.goal.Goal.TheVariants as goals
use Rattle.scenario.specs.Scenarios.{do_conflict}
use Rattle.scenario_reader.specs.FleetLines.{as_robot, end_line, end_rows, mission_line, mission_rows, robot_at, robot_line, robot_named, robot_rows}
use Rattle.scenario_reader.specs.MissionLines.{again_line, again_rows, as_goal, done_line, done_rows, goal_at, goal_named, innermost, opened, outer, repeated, repeat_line, repeat_rows, visit_line, visit_rows}
use Rattle.scenario_reader.specs.SiteLines.{cell_at, cell_named}
use Rattle.scenario_reader.specs.States.{Block, Declared, Mission}
use Rattle.scenario_reader.specs.Tables.{judged}
use Rattle.scenario_reader.proofs.Fines.{fines, judged_fine}
use Rattle.scenario_grammar.specs.Grammar.{Denotes, IsNumber, IsRobot, Word, goal_thing, times, with_named_robot}
use Rattle.scenario_grammar.proofs.LinkKinds.{at_denotes, cell_at_is}
use Rattle.scenario_grammar.proofs.Names.{has_cell_name, in_range, is_free, new_is, number_is}
use Rattle.scenario_grammar.proofs.Rows.{each_fails, fails_each, judged_ok}

-- `robot NAME CELL`
pub record ReadsRobot (d : Declared) (words : List Word) (e : Declared) : Type 0 where
  pub name : Word
  pub start : Word
  pub cell : CellNo
  pub words_are : words ≡ name ∷ start ∷ []
  pub is : IsRobot d name start cell
  pub declared : with_named_robot d name cell ≡ e

pub robot_read : (d e : Declared) (words : List Word) → robot_line d words ≡ Ok e → ReadsRobot d words e
robot_read d e [] is = absurd (cc)
robot_read d e (name ∷ []) is = absurd (cc)
robot_read d e (name ∷ start ∷ other ∷ more) is =
    let fine = judged_fine (robot_rows d (name ∷ start ∷ other ∷ more)) (with_named_robot d name (cell_at d.names start)) e is in
    let f = fines (robot_rows d (name ∷ start ∷ other ∷ more)) fine.0 in
    let few : length (name ∷ start ∷ other ∷ more) ≤ 2 = ltb-false 2 (length (name ∷ start ∷ other ∷ more)) f.1.0 in
    absurd (omega arith)
robot_read d e (name ∷ start ∷ []) is =
    let cell : CellNo = cell_at d.names start in
    let fine = judged_fine (robot_rows d (name ∷ start ∷ [])) (with_named_robot d name cell) e is in
    let f = fines (robot_rows d (name ∷ start ∷ [])) fine.0 in
    let goods = and_parts (is_name name) (list_all is_name (start ∷ [])) (not-false (list_all is_name (name ∷ start ∷ [])) f.1.1.0) in
    record {
      name = name;
      start = start;
      cell = cell;
      words_are = refl;
      is = record {
        new = new_is d.names name goods.0 f.1.1.1.0;
        place = at_denotes d.names start (and_parts (is_name start) true goods.1).0 (not-false (is_some (cell_named d.names start)) f.1.1.1.1.0);
        room = leb-false 64 (length d.starts) f.1.1.1.1.1.0;
        apart = each_fails (λ (earlier : CellNo). do_conflict d.site earlier cell) (λ (earlier : CellNo). do_conflict d.site earlier cell ≡ false) (λ earlier failing. failing) d.starts f.1.1.1.1.1.1.0;
      };
      declared = fine.1;
    }

pub robot_taken : (d : Declared) (name start : Word) (cell : CellNo) → IsRobot d name start cell → robot_line d (name ∷ start ∷ []) ≡ Ok (with_named_robot d name cell)
robot_taken d name start cell is =
    let room : length d.starts < 64 = is.room in
    subst (λ (c : CellNo). judged (robot_rows d (name ∷ start ∷ [])) (with_named_robot d name c) ≡ Ok (with_named_robot d name cell)) (sym (cell_at_is d.names start cell is.place))
    (judged_ok (robot_rows d (name ∷ start ∷ [])) (with_named_robot d name cell) (
      refl,
      (
        refl,
        (
          not_from_true (list_all is_name (name ∷ start ∷ [])) (and_from (is_name name) (list_all is_name (start ∷ [])) is.new.name (and_from (is_name start) true is.place.name refl)),
          (
            is_free d.names name is.new,
            (
              not_from_true (is_some (cell_named d.names start)) (has_cell_name d.names start cell is.place),
              (
                lt-leb 64 (length d.starts) room,
                (
                  subst (λ (c : CellNo). list_any (λ earlier. do_conflict d.site earlier c) d.starts ≡ false) (sym (cell_at_is d.names start cell is.place))
                      (fails_each (λ (earlier : CellNo). do_conflict d.site earlier cell) (λ (earlier : CellNo). do_conflict d.site earlier cell ≡ false) (λ earlier failing. failing) d.starts is.apart),
                  tt,
                ),
              ),
            ),
          ),
        ),
      ),
    ))

-- a word that names a robot
robot_is : (names : Named) (word : Word) → is_name word ≡ true → is_some (robot_named names word) ≡ true → Denotes names word (Robot (robot_at names word))
robot_is names word name some = go (thing_of names word) refl some
  where
    go : (o : Option Thing) → thing_of names word ≡ o → is_some (as_robot o) ≡ true → Denotes names word (Robot (robot_at names word))
    go None e some = absurd (false≢true some)
    go (Some (Cell n)) e some = absurd (false≢true some)
    go (Some (Crossing n)) e some = absurd (false≢true some)
    go (Some (Area n)) e some = absurd (false≢true some)
    go (Some (Robot n)) e some = record { name = name; is = e ∙ ap (λ (k : ℕ). Some (Robot k)) (sym (ap (λ (o : Option Thing). unwrap_or (as_robot o) 0) e)) }

robot_at_is : (names : Named) (word : Word) (robot : ℕ) → Denotes names word (Robot robot) → robot_at names word ≡ robot
robot_at_is names word robot denotes = ap (λ (o : Option Thing). unwrap_or (as_robot o) 0) denotes.is

has_robot_name : (names : Named) (word : Word) (robot : ℕ) → Denotes names word (Robot robot) → is_some (robot_named names word) ≡ true
has_robot_name names word robot denotes = ap (λ (o : Option Thing). is_some (as_robot o)) denotes.is

no_mission : (o : Option (List Goal)) → is_some o ≡ false → o ≡ None
no_mission None is = refl
no_mission (Some gs) is = absurd (false≢true (sym is))

-- a mission that nothing stands in yet
abbrev pub opening : ℕ → Mission
opening robot = record { robot = robot; legs = []; blocks = [] }

-- `mission ROBOT`
pub record ReadsMission (d : Declared) (words : List Word) (m : Mission) : Type 0 where
  pub name : Word
  pub robot : ℕ
  pub words_are : words ≡ name ∷ []
  pub denotes : Denotes d.names name (Robot robot)
  pub first : get_or d.missions robot None ≡ None
  pub opened : opening robot ≡ m

pub mission_read : (d : Declared) (m : Mission) (words : List Word) → mission_line d words ≡ Ok m → ReadsMission d words m
mission_read d m [] is = absurd (cc)
mission_read d m (name ∷ other ∷ more) is =
    let fine = judged_fine (mission_rows d (name ∷ other ∷ more)) (opening (robot_at d.names name)) m is in
    let f = fines (mission_rows d (name ∷ other ∷ more)) fine.0 in
    let few : length (name ∷ other ∷ more) ≤ 1 = ltb-false 1 (length (name ∷ other ∷ more)) f.1.0 in
    absurd (omega arith)
mission_read d m (name ∷ []) is =
    let fine = judged_fine (mission_rows d (name ∷ [])) (opening (robot_at d.names name)) m is in
    let f = fines (mission_rows d (name ∷ [])) fine.0 in
    let good = and_parts (is_name name) true (not-false (list_all is_name (name ∷ [])) f.1.1.0) in
    record {
      name = name;
      robot = robot_at d.names name;
      words_are = refl;
      denotes = robot_is d.names name good.0 (not-false (is_some (robot_named d.names name)) f.1.1.1.0);
      first = no_mission (get_or d.missions (robot_at d.names name) None) f.1.1.1.1.0;
      opened = fine.1;
    }

pub mission_taken : (d : Declared) (name : Word) (robot : ℕ) → Denotes d.names name (Robot robot) → get_or d.missions robot None ≡ None → mission_line d (name ∷ []) ≡ Ok (opening robot)
mission_taken d name robot denotes first =
    let at : robot_at d.names name ≡ robot = robot_at_is d.names name robot denotes in
    judged_ok (mission_rows d (name ∷ [])) (opening (robot_at d.names name)) (
      refl,
      (
        refl,
        (
          not_from_true (list_all is_name (name ∷ [])) (and_from (is_name name) true denotes.name refl),
          (
            not_from_true (is_some (robot_named d.names name)) (has_robot_name d.names name robot denotes),
            (
              ap (λ (k : ℕ). is_some (get_or d.missions k None)) at ∙ ap (λ (o : Option (List Goal)). is_some o) first,
              tt,
            ),
          ),
        ),
      ),
    )
    ∙ ap (λ (k : ℕ). Ok (opening k)) at

-- a word that names a goal
goal_is : (names : Named) (word : Word) → is_name word ≡ true → is_some (goal_named names word) ≡ true → Denotes names word (goal_thing (goal_at names word))
goal_is names word name some = go (thing_of names word) refl some
  where
    go : (o : Option Thing) → thing_of names word ≡ o → is_some (as_goal o) ≡ true → Denotes names word (goal_thing (goal_at names word))
    go None e some = absurd (false≢true some)
    go (Some (Cell n)) e some = record { name = name; is = e ∙ ap (λ (g : Goal). Some (goal_thing g)) (sym (ap (λ (o : Option Thing). unwrap_or (as_goal o) (goals.Area 0)) e)) }
    go (Some (Crossing n)) e some = absurd (false≢true some)
    go (Some (Area n)) e some = record { name = name; is = e ∙ ap (λ (g : Goal). Some (goal_thing g)) (sym (ap (λ (o : Option Thing). unwrap_or (as_goal o) (goals.Area 0)) e)) }
    go (Some (Robot n)) e some = absurd (false≢true some)

of_goal : (goal : Goal) → as_goal (Some (goal_thing goal)) ≡ Some goal
of_goal (goals.Cell c) = refl
of_goal (goals.Area n) = refl

goal_found : (names : Named) (word : Word) (goal : Goal) → Denotes names word (goal_thing goal) → goal_named names word ≡ Some goal
goal_found names word goal denotes = ap as_goal denotes.is ∙ of_goal goal

abbrev pub with_leg : Mission → Goal → Mission
with_leg m goal = record m { legs = m.legs ++ goal ∷ [] }

-- `visit GOAL`
pub record ReadsVisit (names : Named) (m : Mission) (words : List Word) (n : Mission) : Type 0 where
  pub word : Word
  pub goal : Goal
  pub words_are : words ≡ word ∷ []
  pub denotes : Denotes names word (goal_thing goal)
  pub few : length m.legs + 1 ≤ 64
  pub added : with_leg m goal ≡ n

pub visit_read : (names : Named) (m n : Mission) (words : List Word) → visit_line names m words ≡ Ok n → ReadsVisit names m words n
visit_read names m n [] is = absurd (cc)
visit_read names m n (word ∷ other ∷ more) is =
    let fine = judged_fine (visit_rows names m (word ∷ other ∷ more)) (with_leg m (goal_at names word)) n is in
    let f = fines (visit_rows names m (word ∷ other ∷ more)) fine.0 in
    let few : length (word ∷ other ∷ more) ≤ 1 = ltb-false 1 (length (word ∷ other ∷ more)) f.1.0 in
    absurd (omega arith)
visit_read names m n (word ∷ []) is =
    let fine = judged_fine (visit_rows names m (word ∷ [])) (with_leg m (goal_at names word)) n is in
    let f = fines (visit_rows names m (word ∷ [])) fine.0 in
    let good = and_parts (is_name word) true (not-false (list_all is_name (word ∷ [])) f.1.1.0) in
    record {
      word = word;
      goal = goal_at names word;
      words_are = refl;
      denotes = goal_is names word good.0 (not-false (is_some (goal_named names word)) f.1.1.1.0);
      few = ltb-false 64 (length m.legs + 1) f.1.1.1.1.0;
      added = fine.1;
    }

pub visit_taken : (names : Named) (m : Mission) (word : Word) (goal : Goal) → Denotes names word (goal_thing goal) → length m.legs + 1 ≤ 64 → visit_line names m (word ∷ []) ≡ Ok (with_leg m goal)
visit_taken names m word goal denotes few =
    let found = goal_found names word goal denotes in
    judged_ok (visit_rows names m (word ∷ [])) (with_leg m (goal_at names word)) (
      refl,
      (
        refl,
        (
          not_from_true (list_all is_name (word ∷ [])) (and_from (is_name word) true denotes.name refl),
          (
            not_from_true (is_some (goal_named names word)) (ap (λ (o : Option Goal). is_some o) found),
            (
              le-ltb 64 (length m.legs + 1) few,
              tt,
            ),
          ),
        ),
      ),
    )
    ∙ ap (λ (o : Option Goal). Ok (with_leg m (unwrap_or o (goals.Area 0)))) found

abbrev pub in_block : Mission → ℕ → Mission
in_block m n = record m { legs = []; blocks = m.blocks ++ opened n m.legs ∷ [] }

-- `repeat TIMES`
pub record ReadsRepeat (m : Mission) (words : List Word) (n : Mission) : Type 0 where
  pub word : Word
  pub number : ℕ
  pub words_are : words ≡ word ∷ []
  pub says : IsNumber 1 64 word number
  pub shallow : length m.blocks < 4
  pub opened : in_block m number ≡ n

pub repeat_read : (m n : Mission) (words : List Word) → repeat_line m words ≡ Ok n → ReadsRepeat m words n
repeat_read m n [] is = absurd (cc)
repeat_read m n (word ∷ other ∷ more) is =
    let fine = judged_fine (repeat_rows m (word ∷ other ∷ more)) (in_block m (digits_value 10 word)) n is in
    let f = fines (repeat_rows m (word ∷ other ∷ more)) fine.0 in
    let few : length (word ∷ other ∷ more) ≤ 1 = ltb-false 1 (length (word ∷ other ∷ more)) f.1.0 in
    absurd (omega arith)
repeat_read m n (word ∷ []) is =
    let fine = judged_fine (repeat_rows m (word ∷ [])) (in_block m (digits_value 10 word)) n is in
    let f = fines (repeat_rows m (word ∷ [])) fine.0 in
    record {
      word = word;
      number = digits_value 10 word;
      words_are = refl;
      says = number_is 1 64 word (not-false (is_number 9 word) f.1.1.0) f.1.1.1.0;
      shallow = leb-false 4 (length m.blocks) f.1.1.1.1.0;
      opened = fine.1;
    }

pub repeat_taken : (m : Mission) (word : Word) (n : ℕ) → IsNumber 1 64 word n → length m.blocks < 4 → repeat_line m (word ∷ []) ≡ Ok (in_block m n)
repeat_taken m word n says shallow =
    judged_ok (repeat_rows m (word ∷ [])) (in_block m (digits_value 10 word))
    (refl, (refl, (not_from_true (is_number 9 word) says.digits, (in_range 1 64 word n says, (lt-leb 4 (length m.blocks) shallow, tt)))))
    ∙ ap (λ (k : ℕ). Ok (in_block m k)) (sym says.value)

-- legs so many times, by the reader and by the grammar
pub same_times : (n : ℕ) (legs : List Goal) → repeated n legs ≡ times n legs
same_times zero legs = refl
same_times (suc n) legs = ap (λ (more : List Goal). legs ++ more) (same_times n legs)

less_one : (xs : List Block) (b : Block) → length (xs ++ b ∷ []) - 1 ≡ length xs
less_one xs b = omega (arith, length-append xs (b ∷ []))

innermost_is : (xs : List Block) (b : Block) → innermost (xs ++ b ∷ []) ≡ b
innermost_is xs b = get_or_push xs b (record { times = 0; before = [] }) (length (xs ++ b ∷ []) - 1) (sym (less_one xs b))

outer_is : (xs : List Block) (b : Block) → outer (xs ++ b ∷ []) ≡ xs
outer_is xs b = ap (λ (n : ℕ). take n (xs ++ b ∷ [])) (less_one xs b) ∙ take-append_seam xs (b ∷ [])

-- the blocks around the innermost one, and what it becomes in the one around it
abbrev pub out_of : ℕ → List Goal → List Block → Block → Mission
out_of robot legs around b = record { robot = robot; legs = b.before ++ repeated b.times legs; blocks = around }

abbrev pub out_of_innermost : Mission → Mission
out_of_innermost m = record m { legs = (innermost m.blocks).before ++ repeated (innermost m.blocks).times m.legs; blocks = outer m.blocks }

out_is : (robot : ℕ) (legs : List Goal) (around : List Block) (b : Block) → out_of_innermost (record { robot = robot; legs = legs; blocks = around ++ b ∷ [] }) ≡ out_of robot legs around b
out_is robot legs around b =
    ap (λ (x : Block). record { robot = robot; legs = x.before ++ repeated x.times legs; blocks = outer (around ++ b ∷ []) }) (innermost_is around b)
    ∙ ap (λ (xs : List Block). record { robot = robot; legs = b.before ++ repeated b.times legs; blocks = xs }) (outer_is around b)

-- `again`, where no block is open
pub again_alone : (robot : ℕ) (legs : List Goal) (n : Mission) (words : List Word) → again_line (record { robot = robot; legs = legs; blocks = [] }) words ≡ Ok n → ⊥
again_alone robot legs n words is =
    let m : Mission = record { robot = robot; legs = legs; blocks = [] } in
    let fine = judged_fine (again_rows m words) (out_of_innermost m) n is in
    let f = fines (again_rows m words) fine.0 in
    eqb-false 0 0 f.1.0 refl

no_words : (words : List Word) → ltb 0 (length words) ≡ false → words ≡ []
no_words [] failing = refl
no_words (word ∷ words) failing = let few : length (word ∷ words) ≤ 0 = ltb-false 0 (length (word ∷ words)) failing in absurd (omega arith)

-- `again`
pub record ReadsAgain (robot : ℕ) (legs : List Goal) (around : List Block) (b : Block) (words : List Word) (n : Mission) : Type 0 where
  pub words_are : words ≡ []
  pub few : length b.before + b.times * length legs ≤ 64
  pub closed : out_of robot legs around b ≡ n

pub again_read : (robot : ℕ) (legs : List Goal) (around : List Block) (b : Block) (n : Mission) (words : List Word) → again_line (record { robot = robot; legs = legs; blocks = around ++ b ∷ [] }) words ≡ Ok n → ReadsAgain robot legs around b words n
again_read robot legs around b n words is =
    let m : Mission = record { robot = robot; legs = legs; blocks = around ++ b ∷ [] } in
    let fine = judged_fine (again_rows m words) (out_of_innermost m) n is in
    let f = fines (again_rows m words) fine.0 in
    record {
      words_are = no_words words f.0;
      few = ltb-false 64 (length b.before + b.times * length legs) (subst (λ (x : Block). ltb 64 (length x.before + x.times * length legs) ≡ false) (innermost_is around b) f.1.1.0);
      closed = sym (out_is robot legs around b) ∙ fine.1;
    }

pub again_taken : (robot : ℕ) (legs : List Goal) (around : List Block) (b : Block) → length b.before + b.times * length legs ≤ 64 → again_line (record { robot = robot; legs = legs; blocks = around ++ b ∷ [] }) [] ≡ Ok (out_of robot legs around b)
again_taken robot legs around b few =
    let m : Mission = record { robot = robot; legs = legs; blocks = around ++ b ∷ [] } in
    let open_block : length (around ++ b ∷ []) ≡ 0 → ⊥ = λ none. omega (arith, none, length-append around (b ∷ [])) in
    judged_ok (again_rows m []) (out_of_innermost m) (
      refl,
      (
        ne_eqb (length (around ++ b ∷ [])) 0 open_block,
        (
          subst (λ (x : Block). ltb 64 (length x.before + x.times * length legs) ≡ false) (sym (innermost_is around b)) (le-ltb 64 (length b.before + b.times * length legs) few),
          tt,
        ),
      ),
    )
    ∙ ap (λ (x : Mission). Ok x) (out_is robot legs around b)

-- `done`
pub record ReadsDone (d : Declared) (m : Mission) (words : List Word) (e : Declared) : Type 0 where
  pub words_are : words ≡ []
  pub none_open : length m.blocks ≡ 0
  pub declared : record d { missions = set d.missions m.robot (Some m.legs) } ≡ e

pub done_read : (d e : Declared) (m : Mission) (words : List Word) → done_line d m words ≡ Ok e → ReadsDone d m words e
done_read d e m words is =
    let fine = judged_fine (done_rows m words) (record d { missions = set d.missions m.robot (Some m.legs) }) e is in
    let f = fines (done_rows m words) fine.0 in
    record { words_are = no_words words f.0; none_open = eqb-true (length m.blocks) 0 (not-false (eqb (length m.blocks) 0) f.1.0); declared = fine.1 }

-- `end`
pub record ReadsEnd (d : Declared) (words : List Word) (e : Declared) : Type 0 where
  pub words_are : words ≡ []
  pub some : 1 ≤ length e.starts
  pub same : d ≡ e

pub end_read : (d e : Declared) (words : List Word) → end_line d words ≡ Ok e → ReadsEnd d words e
end_read d e words is =
    let fine = judged_fine (end_rows d words) d e is in
    let f = fines (end_rows d words) fine.0 in
    let some : length d.starts ≡ 0 → ⊥ = eqb-false (length d.starts) 0 f.1.0 in
    record { words_are = no_words words f.0; some = subst (λ (x : Declared). 1 ≤ length x.starts) fine.1 (omega arith); same = fine.1 }

pub end_taken : (d : Declared) → 1 ≤ length d.starts → end_line d [] ≡ Ok d
end_taken d some =
    let there : length d.starts ≡ 0 → ⊥ = λ none. omega (arith, none) in
    judged_ok (end_rows d []) d (refl, (ne_eqb (length d.starts) 0 there, tt))
