-- A line without a fault says a command, unless it is blank.
use Rattle.std.proofs.Common.{◌≡◌, ℕ, Bool, true, false, List, [], ◌∷◌, length, Option, Some, None, refl, arith}
use Rattle.std.specs.Prelude.{◌==◌, not, nat_lt, option_and_then}
use Rattle.std.specs.Option.{is_some, option_map}
use Rattle.std.proofs.lemmas.Bool.Decides.{nat_tests}
use Rattle.fleet_base.specs.declared.numbers.RobotNo.{RobotNo}
use Rattle.fleet_names.specs.Names.{Named}
use Rattle.site_lines.specs.declared.fault.Code.TheVariants.{C1, C2, C4, C5, C6}
use Rattle.site_lines.specs.Readings.{Row, least_code}
use Rattle.site_lines.specs.Lines.{is_too_long}
use Rattle.site_lines.specs.Numbers.{is_number}
use Rattle.site_lines.specs.Words.{words_of, has_bad_byte, is_blank}
use Rattle.fleet_commands.specs.declared.command.Command.{Command}
use Rattle.fleet_calls.specs.declared.request.Request.{Request}
use Rattle.fleet_calls.specs.declared.request.Request.TheVariants as request
use Rattle.fleet_commands.specs.declared.keyword.Keyword.{Keyword}
use Rattle.fleet_commands.specs.declared.keyword.Keyword.TheVariants.{Propose, Retry, Cancel, Withdraw, Replan, Report, Look}
use Rattle.fleet_commands.specs.Keywords.{keyword_of}
use Rattle.fleet_commands.specs.Reading.{first, second, behind, undeclared, faults_behind, keyword_faults, word_faults, command_behind, command_in}
use Rattle.fleet_commands.specs.Texts.{IsGoodLine}
use Rattle.fleet_commands.specs.UsedNames.{robot_named, cells_named, goal_named}

-- a command of a robot and what it asks
abbrev made : Option RobotNo → Option Request → Option Command
made robot asks = option_and_then (λ r. option_map (λ q. record { robot = r; request = q }) asks) robot

abbrev Says : Option RobotNo → Option Request → Type 0
Says robot asks = is_some (made robot asks) ≡ true

-- the robot is there, after rows that don't fit
robot_alone : (few many : Bool) (robot : Option RobotNo) (q : Request) → least_code (record { fits = few; code = C4 } ∷ record { fits = many; code = C5 } ∷ undeclared robot ∷ []) ≡ None → Says robot (Some q)
robot_alone true many robot q e = absurd (cc)
robot_alone false true robot q e = absurd (cc)
robot_alone false false None q e = absurd (cc)
robot_alone false false (Some r) q e = refl

with_number : (few many bad : Bool) (robot : Option RobotNo) (q : Request)
    → least_code (record { fits = few; code = C4 } ∷ record { fits = many; code = C5 } ∷ record { fits = bad; code = C6 } ∷ undeclared robot ∷ []) ≡ None → Says robot (Some q)
with_number true many bad robot q e = absurd (cc)
with_number false true bad robot q e = absurd (cc)
with_number false false true robot q e = absurd (cc)
with_number false false false None q e = absurd (cc)
with_number false false false (Some r) q e = refl

with_cells : {T : Type 0} (few : Bool) (robot : Option RobotNo) (named : Option T) (asks : T → Request) → least_code (record { fits = few; code = C4 } ∷ undeclared robot ∷ undeclared named ∷ []) ≡ None → Says robot (option_map asks named)
with_cells true robot named asks e = absurd (cc)
with_cells false None named asks e = absurd (cc)
with_cells false (Some r) None asks e = absurd (cc)
with_cells false (Some r) (Some t) asks e = refl

with_goal : {T : Type 0} (few many : Bool) (robot : Option RobotNo) (named : Option T) (asks : T → Request)
    → least_code (record { fits = few; code = C4 } ∷ record { fits = many; code = C5 } ∷ undeclared robot ∷ undeclared named ∷ []) ≡ None → Says robot (option_map asks named)
with_goal true many robot named asks e = absurd (cc)
with_goal false true robot named asks e = absurd (cc)
with_goal false false None named asks e = absurd (cc)
with_goal false false (Some r) None asks e = absurd (cc)
with_goal false false (Some r) (Some t) asks e = refl

behind_says : (names : Named) (keyword : Keyword) (words : List (List ℕ)) → least_code (faults_behind names keyword words) ≡ None → is_some (command_behind names keyword words) ≡ true
behind_says names Propose words e = with_cells (nat_lt (length words) 2) (robot_named names (first words)) (cells_named names (behind words)) (λ cells. request.Propose cells) e
behind_says names Retry words e = robot_alone (nat_lt (length words) 1) (nat_lt 1 (length words)) (robot_named names (first words)) request.Retry e
behind_says names Cancel words e = robot_alone (nat_lt (length words) 1) (nat_lt 1 (length words)) (robot_named names (first words)) request.Cancel e
behind_says names Withdraw words e = robot_alone (nat_lt (length words) 1) (nat_lt 1 (length words)) (robot_named names (first words)) request.Withdraw e
behind_says names Replan words e = with_goal (nat_lt (length words) 2) (nat_lt 2 (length words)) (robot_named names (first words)) (goal_named names (second words)) (λ goal. request.Replan goal) e
behind_says names Report words e = with_number (nat_lt (length words) 2) (nat_lt 2 (length words)) (not (is_number 15 (second words))) (robot_named names (first words)) (request.Report _) e
behind_says names Look words e = robot_alone (nat_lt (length words) 1) (nat_lt 1 (length words)) (robot_named names (first words)) request.Look e

keyword_says : (names : Named) (keyword : Option Keyword) (words : List (List ℕ)) → least_code (keyword_faults names keyword words) ≡ None → is_some (option_and_then (λ k. command_behind names k words) keyword) ≡ true
keyword_says names None words e = absurd (cc)
keyword_says names (Some keyword) words e = behind_says names keyword words e

words_say : (names : Named) (words : List (List ℕ)) → least_code (word_faults names words) ≡ None → is_some (command_in names words) ≡ not (length words == 0)
words_say names [] e = refl
words_say names (word ∷ words) e =
    let some : (length (word ∷ words) == 0) ≡ false = grind (arith, nat_tests) in
    rw some (keyword_says names (keyword_of word) words e)

-- the rows of a line's length and bytes
past : (long bad : Bool) (rows : List Row) → least_code (record { fits = long; code = C1 } ∷ record { fits = bad; code = C2 } ∷ rows) ≡ None → least_code rows ≡ None
past true bad rows e = absurd (cc)
past false true rows e = absurd (cc)
past false false rows e = e

pub line_says : (names : Named) (line : List ℕ) → IsGoodLine names line → is_some (command_in names (words_of line)) ≡ not (is_blank line)
line_says names line good = words_say names (words_of line) (past (is_too_long line) (has_bad_byte line) (word_faults names (words_of line)) good)
