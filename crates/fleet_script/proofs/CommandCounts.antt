-- A text has few commands for its bytes.
use Rattle.std.proofs.Common.{◌≡◌, ℕ, suc, ◌+◌, ◌*◌, ◌<◌, ◌≤◌, ◌&&◌, inl, inr, ◌-◌, Bool, true, false, cond, eqb, get_or, List, [], ◌∷◌, ◌++◌, length, map, take, codes, Option, Some, None, Ok, Err, Result, refl, sym, ap, subst, arith}
use Rattle.std.specs.Prelude.{not, option_and_then}
use Rattle.std.specs.List.{filter, onto_first, slice_split}
use Rattle.std.specs.Option.{option_to_list}
use Rattle.std.specs.Str.{bytes_eq}
use Rattle.std.proofs.lemmas.Bool.{cases_lt, false_from_ne_true}
use Rattle.std.proofs.lemmas.List.{length-append, length-take}
use Rattle.std.proofs.lemmas.Slice.Eq.{bytes_eq-Decides}
use Rattle.fleet_commands.specs.Keywords.{keyword_of}
use Rattle.fleet_commands.specs.Reading.{command_behind, command_in, commands_of, faults_of, unless, with_line}
use Rattle.fleet_commands.specs.declared.command.Command.{Command}
use Rattle.fleet_names.specs.Names.{Named}
use Rattle.site_lines.specs.declared.fault.Code.{Code}
use Rattle.site_lines.specs.Lines.{is_feed, lines_of, without_return}
use Rattle.site_lines.specs.Readings.{least_code, onward, read_from}
use Rattle.site_lines.specs.Words.{before_comment, has_bytes, is_word_byte, text_behind, words_of}

-- how many bytes lists have together
abbrev all_bytes : List (List ℕ) → ℕ
all_bytes [] = 0
all_bytes (part ∷ parts) = length part + all_bytes parts

-- and lines with a line feed each
abbrev line_bytes : List (List ℕ) → ℕ
line_bytes [] = 0
line_bytes (line ∷ lines) = (length line + 1) + line_bytes lines

-- the lines of a text have no more bytes than it, but for one line feed
onto_bytes : (b : ℕ) (n : ℕ) (lines : List (List ℕ)) → line_bytes lines ≤ n + 1 → line_bytes (onto_first b lines) ≤ suc n + 1
onto_bytes b n [] most = omega arith
onto_bytes b n (line ∷ lines) most = omega (arith, most)

lines_short : (bs : List ℕ) → line_bytes (lines_of bs) ≤ length bs + 1
lines_short [] = omega arith
lines_short (b ∷ bs) = by_feed (is_feed b) (lines_short bs)
  where
    by_feed : (feed : Bool) → line_bytes (lines_of bs) ≤ length bs + 1 → line_bytes (cond feed ([] ∷ lines_of bs) (onto_first b (lines_of bs))) ≤ suc (length bs) + 1
    by_feed true most = omega (arith, most)
    by_feed false most = onto_bytes b (length bs) (lines_of bs) most

-- what stands before a comment is no longer than the line
text_short : (within : Bool) (bs : List ℕ) → length (text_behind within bs) ≤ length bs
text_short within [] = omega arith
text_short within (b ∷ bs) = by_end (not within && eqb b 35) (text_short (is_word_byte b) bs)
  where
    by_end : (ends : Bool) → length (text_behind (is_word_byte b) bs) ≤ length bs → length (cond ends [] (b ∷ text_behind (is_word_byte b) bs)) ≤ suc (length bs)
    by_end true rest = omega arith
    by_end false rest = omega (arith, rest)

onto_parts : (b : ℕ) (parts : List (List ℕ)) → all_bytes (onto_first b parts) ≡ suc (all_bytes parts)
onto_parts b [] = omega arith
onto_parts b (part ∷ parts) = omega arith

-- the parts of a list have no more bytes than it
parts_short : (p : ℕ → Bool) (bs : List ℕ) → all_bytes (slice_split p bs) ≤ length bs
parts_short p [] = omega arith
parts_short p (b ∷ bs) = by_test (p b) (parts_short p bs)
  where
    by_test : (splits : Bool) → all_bytes (slice_split p bs) ≤ length bs → all_bytes (cond splits ([] ∷ slice_split p bs) (onto_first b (slice_split p bs))) ≤ suc (length bs)
    by_test true rest = omega (arith, rest)
    by_test false rest = let more = onto_parts b (slice_split p bs) in omega (arith, rest, more)

-- so is the first of those that are kept
first_kept : (q : List ℕ → Bool) (parts : List (List ℕ)) (word : List ℕ) (words : List (List ℕ)) → filter q parts ≡ word ∷ words → length word ≤ all_bytes parts
first_kept q [] word words is = absurd (cc)
first_kept q (part ∷ parts) word words is = by_test (q part) is (first_kept q parts word words)
  where
    by_test : (kept : Bool) → cond kept (part ∷ filter q parts) (filter q parts) ≡ word ∷ words → (filter q parts ≡ word ∷ words → length word ≤ all_bytes parts) → length word ≤ length part + all_bytes parts
    by_test true e rest = let same : part ≡ word = cc in let long = ap length same in omega (arith, long)
    by_test false e rest = let short = rest e in omega (arith, short)

-- a line is as long as its first word
word_short : (line word : List ℕ) (words : List (List ℕ)) → words_of line ≡ word ∷ words → length word ≤ length line
word_short line word words is =
    let kept = first_kept has_bytes (slice_split (λ b. not (is_word_byte b)) (before_comment line)) word words is in
    let parts = parts_short (λ b. not (is_word_byte b)) (before_comment line) in
    let text = text_short false line in
    omega (arith, kept, parts, text)

-- The word that begins a command has at least 4 bytes.
differs : (word text : List ℕ) → length word < 4 → 4 ≤ length text → bytes_eq word text ≡ false
differs word text short long = false_from_ne_true (bytes_eq word text) (λ is. let same = ap length ((bytes_eq-Decides word text).0 is) in omega (arith, short, long, same))

no_keyword : (word : List ℕ) → length word < 4 → keyword_of word ≡ None
no_keyword word short =
    rw (
      differs word (codes "propose") short (omega arith),
      differs word (codes "retry") short (omega arith),
      differs word (codes "cancel") short (omega arith),
      differs word (codes "withdraw") short (omega arith),
      differs word (codes "replan") short (omega arith),
      differs word (codes "report") short (omega arith),
      differs word (codes "look") short (omega arith),
    ) refl

pub at_most_one : {A : Type 0} (o : Option A) → length (option_to_list o) ≤ 1
at_most_one None = omega arith
at_most_one (Some a) = omega arith

-- a line says at most one command, and one that does has at least 4 bytes
module _ (names : Named) (line : List ℕ) where
  by_words : (words : List (List ℕ)) → words_of line ≡ words → 4 * length (option_to_list (command_in names words)) ≤ length line
  by_words [] is = omega arith
  by_words (word ∷ words) is =
      elim (cases_lt (length word) 4) [
        | inl short ↦
            let none = ap (λ keyword. option_and_then (λ k. command_behind names k words) keyword) (no_keyword word short) in
            subst (λ (o : Option Command). 4 * length (option_to_list o) ≤ length line) (sym none) (omega arith)
        | inr long ↦
            let most = word_short line word words is in
            let one = at_most_one (command_in names (word ∷ words)) in
            omega (arith, most, long, one)
      ]

  line_few : 4 * length (option_to_list (command_in names (words_of line))) ≤ length line
  line_few = by_words (words_of line) refl

return_short : (line : List ℕ) → length (without_return line) ≤ length line
return_short line =
    elim (eqb (get_or line (length line - 1) 0) 13) as (λ b. length (cond b (take (length line - 1) line) line) ≤ length line) [
      | true ↦ simp length-take (omega arith)
      | false ↦ omega arith
    ]

-- The commands of lines.
unless_is : (o : Option Code) (commands out : List Command) → unless o commands ≡ Ok out → commands ≡ out
unless_is None commands out is = cc
unless_is (Some code) commands out is = absurd (cc)

module _ (names : Named) where
  read_few : (n : ℕ) (commands : List Command) (raws : List (List ℕ)) (out : List Command) → read_from (with_line names) (λ cs. Ok cs) n commands (map without_return raws) ≡ Ok out → 5 * length out ≤ 5 * length commands + line_bytes raws
  read_few n commands [] out is = let same : commands ≡ out = cc in let count = ap length same in omega (arith, count)
  read_few n commands (raw ∷ raws) out is = on_line (with_line names commands (without_return raw)) refl is (λ more e. read_few (n + 1) more raws out e)
    where
      on_line : (r : Result (List Command) Code) → with_line names commands (without_return raw) ≡ r → onward r n (λ t. read_from (with_line names) (λ cs. Ok cs) (n + 1) t (map without_return raws)) ≡ Ok out
          → ((more : List Command) → read_from (with_line names) (λ cs. Ok cs) (n + 1) more (map without_return raws) ≡ Ok out → 5 * length out ≤ 5 * length more + line_bytes raws) → 5 * length out ≤ 5 * length commands + ((length raw + 1) + line_bytes raws)
      on_line (Err code) stepped e later = absurd (cc)
      on_line (Ok more) stepped e later =
          let line = without_return raw in
          let one = option_to_list (command_in names (words_of line)) in
          let grown = ap length (unless_is (least_code (faults_of names line)) (commands ++ one) more stepped) in
          let both = length-append commands one in
          let few = line_few names line in
          let single = at_most_one (command_in names (words_of line)) in
          let short = return_short raw in
          let rest = later more e in
          omega (arith, grown, both, few, single, short, rest)

  -- a text has at most one command for five of its bytes
  pub commands_few : (n : ℕ) (bytes : List ℕ) (commands : List Command) → commands_of names n bytes ≡ Ok commands → 5 * length commands ≤ length bytes + 1
  commands_few n bytes commands is =
      let read = read_few n [] (lines_of bytes) commands is in
      let lines = lines_short bytes in
      omega (arith, read, lines)
