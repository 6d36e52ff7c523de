-- The forms of the program: lists of words.
use denote.Ref.{Bor}
use Rattle.std.specs.Prelude.{ℕ, if◌then◌else◌, List, [], ◌∷◌, map, codes, Some, None}
use Rattle.std.specs.declared.option.Option.{Option}
use Rattle.std.specs.Str.{bytes_eq}
use Rattle.form_base.specs.Forms.{FormSpec}
use Rattle.fleet_assign.specs.Form.{assign_form}
use Rattle.fleet_check.specs.Check.{check_form}
use Rattle.fleet_replay.specs.Form.{replay_form}
use Rattle.fleet_route.specs.Form.{route_form}
use Rattle.fleet_script.specs.Form.{script_form}
use Rattle.fleet_cli.specs.declared.form.Form as declared
use Rattle.fleet_cli.specs.declared.form.Form.TheVariants as variants

-- what the words ask for
pub data Form : Type 0 where
  Check : Form
  Route : List ℕ → List ℕ → Form
  Script : Form
  Replay : Form
  Assign : Form

-- a form without where its words lie in memory
abbrev pub form_view : declared.Form → Form
form_view variants.Check = Check
form_view (variants.Route from to) = Route from.now to.now
form_view variants.Script = Script
form_view variants.Replay = Replay
form_view variants.Assign = Assign

-- the form that one word is
abbrev pub one_word : List ℕ → Option Form
one_word word =
    if bytes_eq word (codes "check") then Some Check
    else (if bytes_eq word (codes "script") then Some Script
    else (if bytes_eq word (codes "replay") then Some Replay
    else (if bytes_eq word (codes "assign") then Some Assign
    else None)))

-- the form that three words are: `route FROM TO`, where the last two may be any words
abbrev pub three_words : List ℕ → List ℕ → List ℕ → Option Form
three_words word from to = if bytes_eq word (codes "route") then Some (Route from to) else None

-- the form that the words are, if they are one
abbrev pub form_of : List (List ℕ) → Option Form
form_of (word ∷ []) = one_word word
form_of (word ∷ from ∷ to ∷ []) = three_words word from to
form_of words = None

-- the form that the words of a call are, if they are one
abbrev pub form_asked : List (Bor (List ℕ)) → Option Form
form_asked words = form_of (map (λ word. word.now) words)

-- what is written where the words are no form
abbrev pub usage_text : List ℕ
usage_text = codes "usage: fleet check | route FROM TO | script | replay | assign\n"

-- what each form is
abbrev pub spec_of : Form → FormSpec
spec_of Check = check_form
spec_of (Route from to) = route_form from to
spec_of Script = script_form
spec_of Replay = replay_form
spec_of Assign = assign_form
