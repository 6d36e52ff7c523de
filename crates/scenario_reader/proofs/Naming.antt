-- The names name just what is there, also with one more.
use Rattle.std.proofs.Common.{◌≡◌, ℕ, zero, suc, ◌+◌, ◌<◌, Bool, true, false, cond, List, [], ◌∷◌, length, Option, Some, None, refl, sym, ap, subst, ◌∙◌, arith, add-zero}
use Rattle.std.specs.Prelude.{IfSome}
use Rattle.std.specs.List.{list_all}
use Rattle.std.specs.Option.{is_some, unwrap_or}
use Rattle.std.proofs.lemmas.Bool.{and_parts, or_parts, false≢true}
use Rattle.std.proofs.lemmas.List.Sums.{sum_by-append}
use Rattle.fleet_names.specs.declared.thing.Thing.{Thing}
use Rattle.fleet_names.specs.declared.thing.Thing.TheVariants.{Cell, Crossing, Area, Robot}
use Rattle.fleet_names.specs.Names.{Named, count_of, is_name, thing_of, AreDeclared}
use Rattle.fleet_names.specs.Things.{is_area, is_cell, is_crossing, is_robot, number_of, same_kind}
use Rattle.fleet_names.proofs.Adding.{AreDeclared-push}
use Rattle.fleet_names.proofs.Finding.{known_found, none_is}
use Rattle.site_map.specs.Built.{BuiltSite, with_cell}
use Rattle.site_map.specs.Goals.{IsGoal}
use Rattle.site_map.specs.declared.goal.Goal.{Goal}
use Rattle.scenario.specs.Scenarios.{NamesAll}
use Rattle.scenario_reader.specs.FleetLines.{as_robot, robot_at, robot_named}
use Rattle.scenario_reader.specs.MissionLines.{as_goal, goal_named}
use Rattle.scenario_reader.specs.SiteLines.{as_cell, cell_at, cell_named, has_taken, is_taken, with_cell_name, with_cell_names, with_cells, with_name}
use Rattle.scenario_reader.specs.Tables.{word}

-- one more in a count
pub counted_push : (test : Thing → Bool) (names : Named) (name : List ℕ) (t : Thing) → count_of test (with_name names name t) ≡ count_of test names + cond (test t) 1 0
counted_push test names name t = sum_by-append (λ (e : List ℕ × Thing). cond (test e.1) 1 0) names ((name, t) ∷ []) ∙ ap (λ n. count_of test names + n) (one (test t))
  where
    one : (b : Bool) → 0 + cond b 1 0 ≡ cond b 1 0
    one true = refl
    one false = refl

pub named_more : (names : Named) (site site' : BuiltSite) (n n' : ℕ) (name : List ℕ) (t : Thing) → NamesAll names site n → site'.cells ≡ site.cells + cond (is_cell t) 1 0 → length site'.crossings ≡ length site.crossings + cond (is_crossing t) 1 0
    → length site'.areas ≡ length site.areas + cond (is_area t) 1 0 → n' ≡ n + cond (is_robot t) 1 0 → NamesAll (with_name names name t) site' n'
named_more names site site' n n' name t all cells crossings areas robots = record {
  cells = counted_push is_cell names name t ∙ ap (λ k. k + cond (is_cell t) 1 0) all.cells ∙ sym cells;
  crossings = counted_push is_crossing names name t ∙ ap (λ k. k + cond (is_crossing t) 1 0) all.crossings ∙ sym crossings;
  areas = counted_push is_area names name t ∙ ap (λ k. k + cond (is_area t) 1 0) all.areas ∙ sym areas;
  robots = counted_push is_robot names name t ∙ ap (λ k. k + cond (is_robot t) 1 0) all.robots ∙ sym robots;
}

-- a name that isn't taken
pub free_none : (names : Named) (name : List ℕ) → is_taken names name ≡ false → thing_of names name ≡ None
free_none names name free = none_is (thing_of names name) free

-- new names of cells
pub named_cells : (words : List (List ℕ)) (names : Named) (site : BuiltSite) (n : ℕ) → NamesAll names site n → NamesAll (with_cell_names names words) (with_cells site words) n
named_cells [] names site n all = all
named_cells (name ∷ more) names site n all =
    named_cells more (with_cell_name names name) (with_cell site) n
    (named_more names site (with_cell site) n n name (Cell (count_of is_cell names)) all refl (sym (add-zero _)) (sym (add-zero _)) (sym (add-zero _)))

pub declared_cells : (words : List (List ℕ)) (names : Named) → AreDeclared names → list_all is_name words ≡ true → has_taken names words ≡ false → AreDeclared (with_cell_names names words)
declared_cells [] names declared good free = declared
declared_cells (name ∷ more) names declared good free =
    let goods = and_parts (is_name name) (list_all is_name more) good in
    let frees = or_parts (is_taken names name) (has_taken (with_cell_name names name) more) free in
    declared_cells more (with_cell_name names name) (AreDeclared-push names name (Cell (count_of is_cell names)) declared goods.0 (free_none names name frees.0) refl) goods.1 frees.1

-- the word at a place below the number of words is a name, where all are
pub word_is_name : (words : List (List ℕ)) (n : ℕ) → list_all is_name words ≡ true → n < length words → is_name (word words n) ≡ true
word_is_name [] n good within = absurd (omega arith)
word_is_name (w ∷ ws) zero good within = (and_parts (is_name w) (list_all is_name ws) good).0
word_is_name (w ∷ ws) (suc n) good within = word_is_name ws n (and_parts (is_name w) (list_all is_name ws) good).1 (omega arith)

-- a cell that is named is one of those that have names
pub cell_known : (names : Named) (name : List ℕ) → AreDeclared names → is_some (cell_named names name) ≡ true → (cell_at names name).0 < count_of is_cell names
cell_known names name declared is = go (thing_of names name) (known_found names name (thing_of names name) declared refl) is
  where
    go : (o : Option Thing) → IfSome o (λ t. number_of t < count_of (same_kind t) names) → is_some (as_cell o) ≡ true → (unwrap_or (as_cell o) (record { 0 = 0 })).0 < count_of is_cell names
    go None known is = absurd (false≢true is)
    go (Some (Cell k)) known is = known
    go (Some (Crossing k)) known is = absurd (false≢true is)
    go (Some (Area k)) known is = absurd (false≢true is)
    go (Some (Robot k)) known is = absurd (false≢true is)

-- so is a robot
pub robot_known : (names : Named) (name : List ℕ) → AreDeclared names → is_some (robot_named names name) ≡ true → robot_at names name < count_of is_robot names
robot_known names name declared is = go (thing_of names name) (known_found names name (thing_of names name) declared refl) is
  where
    go : (o : Option Thing) → IfSome o (λ t. number_of t < count_of (same_kind t) names) → is_some (as_robot o) ≡ true → unwrap_or (as_robot o) 0 < count_of is_robot names
    go None known is = absurd (false≢true is)
    go (Some (Cell k)) known is = absurd (false≢true is)
    go (Some (Crossing k)) known is = absurd (false≢true is)
    go (Some (Area k)) known is = absurd (false≢true is)
    go (Some (Robot k)) known is = known

-- a goal that is named is one of the site
pub goal_known : (names : Named) (site : BuiltSite) (n : ℕ) (name : List ℕ) (other : Goal) → AreDeclared names → NamesAll names site n → is_some (goal_named names name) ≡ true → IsGoal site (unwrap_or (goal_named names name) other)
goal_known names site n name other declared all is = go (thing_of names name) (known_found names name (thing_of names name) declared refl) is
  where
    go : (o : Option Thing) → IfSome o (λ t. number_of t < count_of (same_kind t) names) → is_some (as_goal o) ≡ true → IsGoal site (unwrap_or (as_goal o) other)
    go None known is = absurd (false≢true is)
    go (Some (Cell k)) known is = subst (λ m. k < m) all.cells known
    go (Some (Crossing k)) known is = absurd (false≢true is)
    go (Some (Area k)) known is = subst (λ m. k < m) all.areas known
    go (Some (Robot k)) known is = absurd (false≢true is)
