-- Names that are read, and printed again.
use Rattle.std.proofs.Common.{◌≡◌, ℕ, Bool, true, List, [], ◌∷◌, map, Option, Some, None, refl, sym, ap}
use Rattle.std.specs.List.{list_all, AllByRecursion}
use Rattle.std.specs.Option.{is_some, unwrap_or}
use Rattle.std.proofs.lemmas.Bool.{and_parts, false≢true}
use Rattle.fleet_names.specs.declared.thing.Thing.{Thing}
use Rattle.fleet_names.specs.declared.thing.Thing.TheVariants as thing
use Rattle.fleet_names.specs.Names.{Named, thing_of, name_of, AreDeclared}
use Rattle.fleet_names.proofs.Finding.{known_found, named_found}
use Rattle.fleet_texts.specs.Words.{name_text, cell_text, robot_text}
use Rattle.plan_journal.specs.Entries.{robot_number, cell_number, is_robot, is_cell, robot_in, cell_in}
use Rattle.plan_journal.specs.Printable.{IsRobot, IsCell}

pub text_is : (names : Named) (found : Thing) (word : List ℕ) → name_of names found ≡ Some word → name_text names found ≡ word
unfolding name_text
text_is names found word is = ap (λ o. unwrap_or o []) is

-- what a word tells that is the name of a thing of one kind: its text is the word, and it is known
pub record IsTold {A : Type 0} (text : A → List ℕ) (of : List ℕ → A) (known : A → Type 0) (word : List ℕ) : Type 0 where
  pub same : text (of word) ≡ word
  pub known_it : known (of word)

pub record AreTold {A : Type 0} (text : A → List ℕ) (of : List ℕ → A) (known : A → Type 0) (words : List (List ℕ)) : Type 0 where
  pub same : map text (map of words) ≡ words
  pub known_all : AllByRecursion known (map of words)

told_all : {A : Type 0} (text : A → List ℕ) (of : List ℕ → A) (known : A → Type 0) (is : List ℕ → Bool) → ((word : List ℕ) → is word ≡ true → IsTold text of known word) → (words : List (List ℕ)) → list_all is words ≡ true → AreTold text of known words
told_all text of known is each [] all = record { same = refl; known_all = tt }
told_all text of known is each (word ∷ words) all =
    let parts = and_parts (is word) (list_all is words) all in
    let first = each word parts.0 in
    let rest = told_all text of known is each words parts.1 in
    record { same = rw (first.same, rest.same) refl; known_all = (first.known_it, rest.known_all) }

-- robots
robot_found : (found : Option Thing) → is_some (robot_number found) ≡ true → found ≡ Some (thing.Robot (unwrap_or (robot_number found) 0))
robot_found (Some (thing.Robot n)) some = refl
robot_found (Some (thing.Cell n)) some = absurd (false≢true some)
robot_found (Some (thing.Crossing n)) some = absurd (false≢true some)
robot_found (Some (thing.Area n)) some = absurd (false≢true some)
robot_found None some = absurd (false≢true some)

pub told_robot : (names : Named) (word : List ℕ) → AreDeclared names → is_robot names word ≡ true → IsTold (robot_text names) (robot_in names) (IsRobot names) word
told_robot names word declared some =
    let is = sym (robot_found (thing_of names word) some) in
    let t : Thing = thing.Robot (robot_in names word).0 in
    record { same = text_is names t word (named_found names word (Some t) declared is); known_it = known_found names word (Some t) declared is }

pub told_robots : (names : Named) (words : List (List ℕ)) → AreDeclared names → list_all (is_robot names) words ≡ true → AreTold (robot_text names) (robot_in names) (IsRobot names) words
told_robots names words declared all = told_all (robot_text names) (robot_in names) (IsRobot names) (is_robot names) (λ word some. told_robot names word declared some) words all

-- cells
cell_found : (found : Option Thing) → is_some (cell_number found) ≡ true → found ≡ Some (thing.Cell (unwrap_or (cell_number found) 0))
cell_found (Some (thing.Cell n)) some = refl
cell_found (Some (thing.Robot n)) some = absurd (false≢true some)
cell_found (Some (thing.Crossing n)) some = absurd (false≢true some)
cell_found (Some (thing.Area n)) some = absurd (false≢true some)
cell_found None some = absurd (false≢true some)

pub told_cell : (names : Named) (word : List ℕ) → AreDeclared names → is_cell names word ≡ true → IsTold (cell_text names) (cell_in names) (IsCell names) word
told_cell names word declared some =
    let is = sym (cell_found (thing_of names word) some) in
    let t : Thing = thing.Cell (cell_in names word).0 in
    record { same = text_is names t word (named_found names word (Some t) declared is); known_it = known_found names word (Some t) declared is }

pub told_cells : (names : Named) (words : List (List ℕ)) → AreDeclared names → list_all (is_cell names) words ≡ true → AreTold (cell_text names) (cell_in names) (IsCell names) words
told_cells names words declared all = told_all (cell_text names) (cell_in names) (IsCell names) (is_cell names) (λ word some. told_cell names word declared some) words all
