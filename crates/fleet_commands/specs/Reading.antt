-- What the lines of commands say.
use Rattle.std.specs.Prelude.{ℕ, nat_lt, true, not, List, [], ◌∷◌, ◌++◌, length, Option, Some, None, Result, Ok, Err, option_and_then}
use Rattle.std.specs.Option.{is_none, option_map, option_to_list}
use Rattle.std.specs.Str.Parse.{digits_value}
use Rattle.fleet_names.specs.Names.{Named}
use Rattle.site_lines.specs.declared.fault.At.{At}
use Rattle.site_lines.specs.declared.fault.Code.{Code}
use Rattle.site_lines.specs.declared.fault.Code.TheVariants.{C1, C2, C3, C4, C5, C6, C7}
use Rattle.site_lines.specs.Lines.{input_lines, is_too_long}
use Rattle.site_lines.specs.Numbers.{is_number}
use Rattle.site_lines.specs.Readings.{Row, least_code, read_from}
use Rattle.site_lines.specs.Words.{words_of, has_bad_byte}
use Rattle.fleet_commands.specs.declared.command.Command.{Command}
use Rattle.fleet_calls.specs.declared.request.Request.{Request}
use Rattle.fleet_calls.specs.declared.request.Request.TheVariants as request
use Rattle.fleet_commands.specs.declared.keyword.Keyword.{Keyword}
use Rattle.fleet_commands.specs.declared.keyword.Keyword.TheVariants.{Propose, Retry, Cancel, Withdraw, Replan, Report, Look}
use Rattle.fleet_commands.specs.Keywords.{keyword_of}
use Rattle.fleet_commands.specs.UsedNames.{robot_named, cells_named, goal_named}

-- the first of these words, those behind it, and the second
abbrev pub first : List (List ℕ) → List ℕ
first [] = []
first (word ∷ words) = word

abbrev pub behind : List (List ℕ) → List (List ℕ)
behind [] = []
behind (word ∷ words) = words

abbrev pub second : List (List ℕ) → List ℕ
second words = first (behind words)

-- fewer words than n
abbrev pub too_few : ℕ → List (List ℕ) → Row
too_few n words = record { fits = nat_lt (length words) n; code = C4 }

-- more words than n
abbrev pub too_many : ℕ → List (List ℕ) → Row
too_many n words = record { fits = nat_lt n (length words); code = C5 }

-- a word in the place of a number that isn't 1 to 15 digits
abbrev pub no_number : List ℕ → Row
no_number word = record { fits = not (is_number 15 word); code = C6 }

-- words that name nothing in their place: one isn't declared, or is of another kind
abbrev pub undeclared : {T : Type 0} → Option T → Row
undeclared named = record { fits = is_none named; code = C7 }

-- the table of the commands that have a robot alone behind them
abbrev pub robot_faults : Named → List (List ℕ) → List Row
robot_faults names words = too_few 1 words ∷ too_many 1 words ∷ undeclared (robot_named names (first words)) ∷ []

-- the table of a command, over the words behind it
abbrev pub faults_behind : Named → Keyword → List (List ℕ) → List Row
faults_behind names Propose words = too_few 2 words ∷ undeclared (robot_named names (first words)) ∷ undeclared (cells_named names (behind words)) ∷ []
faults_behind names Retry words = robot_faults names words
faults_behind names Cancel words = robot_faults names words
faults_behind names Withdraw words = robot_faults names words
faults_behind names Replan words = too_few 2 words ∷ too_many 2 words ∷ undeclared (robot_named names (first words)) ∷ undeclared (goal_named names (second words)) ∷ []
faults_behind names Report words = too_few 2 words ∷ too_many 2 words ∷ no_number (second words) ∷ undeclared (robot_named names (first words)) ∷ []
faults_behind names Look words = robot_faults names words

-- the table behind a first word, which begins a command or none
abbrev pub keyword_faults : Named → Option Keyword → List (List ℕ) → List Row
keyword_faults names None words = record { fits = true; code = C3 } ∷ []
keyword_faults names (Some keyword) words = faults_behind names keyword words

-- the table of the words of a line; a blank line has none
abbrev pub word_faults : Named → List (List ℕ) → List Row
word_faults names [] = []
word_faults names (word ∷ words) = keyword_faults names (keyword_of word) words

-- the table of a line, in the order of the codes
abbrev pub faults_of : Named → List ℕ → List Row
faults_of names line =
    record { fits = is_too_long line; code = C1 }
    ∷ record { fits = has_bad_byte line; code = C2 }
    ∷ word_faults names (words_of line)

-- what a command asks for, by the words behind it
abbrev pub request_of : Named → Keyword → List (List ℕ) → Option Request
request_of names Propose words = option_map (λ cells. request.Propose cells) (cells_named names (behind words))
request_of names Retry words = Some request.Retry
request_of names Cancel words = Some request.Cancel
request_of names Withdraw words = Some request.Withdraw
request_of names Replan words = option_map (λ goal. request.Replan goal) (goal_named names (second words))
request_of names Report words = Some (request.Report (record { 0 = digits_value 10 (second words) }))
request_of names Look words = Some request.Look

-- the command of a keyword and the words behind it
abbrev pub command_behind : Named → Keyword → List (List ℕ) → Option Command
command_behind names keyword words = option_and_then (λ r. option_map (λ q. record { robot = r; request = q }) (request_of names keyword words)) (robot_named names (first words))

-- the command that the words of a line without a fault say; those of a blank line say none
abbrev pub command_in : Named → List (List ℕ) → Option Command
command_in names [] = None
command_in names (word ∷ words) = option_and_then (λ keyword. command_behind names keyword words) (keyword_of word)

-- the value, unless there is a code
abbrev pub unless : {T : Type 0} → Option Code → T → Result T Code
unless (Some code) value = Err code
unless None value = Ok value

-- the commands with that of one more line, or the line's least code
abbrev pub with_line : Named → List Command → List ℕ → Result (List Command) Code
with_line names commands line = unless (least_code (faults_of names line)) (commands ++ option_to_list (command_in names (words_of line)))

-- the commands of the lines behind a scenario, or the first bad line; the first of the lines has the number n
abbrev pub commands_of : Named → ℕ → List ℕ → Result (List Command) At
commands_of names n bytes = read_from (with_line names) (λ commands. Ok commands) n [] (input_lines bytes)
