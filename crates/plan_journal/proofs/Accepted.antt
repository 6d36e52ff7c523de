-- An accepted text begins with the printed text of its entries.
use Rattle.std.proofs.Common.{◌≡◌, ⊎_elim, ℕ, ◌+◌, ◌≤◌, Bool, true, false, cond, List, [], ◌∷◌, ◌++◌, length, map, Option, Some, None, Result, Ok, Err, refl, sym, ap, subst, ◌∙◌, append_assoc, arith}
use Rattle.std.specs.Prelude.{codes}
use Rattle.std.specs.List.{list_any, AllByRecursion}
use Rattle.std.specs.Str.{bytes_eq}
use Rattle.std.proofs.lemmas.Bool.{cases_Bool, eqb-true, ltb-false}
use Rattle.std.proofs.lemmas.List.{take_at}
use Rattle.std.proofs.lemmas.List.Concat.{flat_map-append}
use Rattle.std.proofs.lemmas.Slice.Eq.{bytes_eq-Decides}
use Rattle.fleet_base.specs.declared.entries.Entry.{Entry}
use Rattle.fleet_names.specs.Names.{Named, AreDeclared}
use Rattle.fleet_texts.specs.Words.{spaced, lines_text}
use Rattle.fleet_texts.specs.Texts.{entry_text, journal_text}
use Rattle.site_lines.specs.Lines.{is_feed, is_too_long}
use Rattle.site_lines.specs.Readings.{onward, read_from}
use Rattle.site_lines.specs.declared.fault.Code.{Code}
use Rattle.site_lines.specs.declared.fault.Code.TheVariants.{J1, J2, J3}
use Rattle.plan_journal.specs.Entries.{line_of}
use Rattle.plan_journal.specs.Printable.{IsPrintable, IsPrintedFront}
use Rattle.plan_journal.specs.Reading.{Front, Progress, Begun, Among, Ended, checked, is_odd, parts_of, onto_line, ended_lines, is_full, with_line, no_front, header_line, behind_line, read_line, read_all, journal_of}
use Rattle.plan_journal.proofs.Lists.{length-line}
use Rattle.plan_journal.proofs.Printed.{IsToldLine, line_told, spaced_parts}
use Rattle.plan_journal.proofs.Steps.{ended_stays, said}

-- what a line that is judged further tells
checked_by : {A : Type 0} (long odd : Bool) (rest : Result A Code) (value : A) → cond long (Err J1) (cond odd (Err J2) rest) ≡ Ok value → (long ≡ false) × (rest ≡ Ok value)
checked_by true odd rest value is = absurd (cc)
checked_by false true rest value is = absurd (cc)
checked_by false false rest value is = (refl, is)

-- an accepted line, as it is printed
abbrev pub IsPrintedLine : Named → Option Entry → List ℕ → Type 0
IsPrintedLine names (Some entry) line = (line ≡ entry_text names entry) × IsPrintable names entry
IsPrintedLine names None line = line ≡ codes "end"

printed_line : (names : Named) (told : Option Entry) (line : List ℕ) → length line ≤ 65536 → IsToldLine names told (parts_of line) → IsPrintedLine names told line
unfolding entry_text
printed_line names (Some entry) line short told =
    let same : entry_text names entry ≡ line = ap spaced told.spelled ∙ spaced_parts line in
    (sym same, record { robot = told.robot; act = told.act; short = subst (λ (bytes : List ℕ). length bytes ≤ 65536) (sym same) short })
printed_line names None line short told = sym (spaced_parts line) ∙ ap spaced told

said_told : (names : Named) (entries : List Entry) (line : List ℕ) (told : Option Entry) → AreDeclared names → said names entries line ≡ Ok told → IsPrintedLine names told line
said_told names entries line told declared says =
    let parts = checked_by (is_too_long line) (list_any is_odd line) (line_of names (is_full entries) (parts_of line)) told says in
    printed_line names told line (ltb-false 65536 (length line) parts.0) (line_told names (is_full entries) (parts_of line) told declared parts.1)

-- the lines from an entry on that are accepted
pub record IsAccepted (names : Named) (before front : Front) (lines : List (List ℕ)) : Type 0 where
  pub es : List Entry
  pub more : List (List ℕ)
  pub split : lines ≡ map (entry_text names) es ++ codes "end" ∷ more
  pub grown : front.entries ≡ before.entries ++ es
  pub bytes : front.used ≡ before.used + length (lines_text (map (entry_text names) es ++ codes "end" ∷ []))
  pub count : front.lines ≡ before.lines + (length es + 1)
  pub printable : AllByRecursion (IsPrintable names) es

same_front : {E : Type 0} (a b : Front) → (let r : Result Front E = Ok a in r ≡ Ok b) → a ≡ b
same_front a b is = cc

at_last : (names : Named) (n : ℕ) (before front : Front) (line : List ℕ) (lines : List (List ℕ)) → line ≡ codes "end" → read_from (read_line names) read_all n (Ended (with_line before line [])) lines ≡ Ok front → IsAccepted names before front (line ∷ lines)
at_last names n before front line lines last is =
    let same = same_front (with_line before line []) front (sym (ended_stays names n (with_line before line []) lines) ∙ is) in
    record {
      es = [];
      more = lines;
      split = ap (λ l. l ∷ lines) last;
      grown = sym (ap (λ (f : Front). f.entries) same);
      bytes = sym (ap (λ (f : Front). f.used) same) ∙ ap (λ (l : List ℕ). before.used + (length l + 1)) last;
      count = sym (ap (λ (f : Front). f.lines) same);
      printable = tt;
    }

one_accepted : (names : Named) (before front : Front) (line : List ℕ) (lines : List (List ℕ)) (entry : Entry) → line ≡ entry_text names entry → IsPrintable names entry → IsAccepted names (with_line before line (entry ∷ [])) front lines
    → IsAccepted names before front (line ∷ lines)
one_accepted names before front line lines entry is printable rest =
    let used = rest.bytes in
    let count = rest.count in
    let long = length-line (entry_text names entry) (map (entry_text names) rest.es ++ codes "end" ∷ []) in
    let same = ap length is in
    record {
      es = entry ∷ rest.es;
      more = rest.more;
      split = rw (is, rest.split) refl;
      grown = rest.grown ∙ append_assoc before.entries (entry ∷ []) rest.es;
      bytes = omega arith;
      count = omega arith;
      printable = (printable, rest.printable);
    }

accepted_by : (names : Named) (n : ℕ) (before front : Front) (line : List ℕ) (lines : List (List ℕ)) (told : Result (Option Entry) Code) → AreDeclared names → said names before.entries line ≡ told
    → ((next : Front) → read_from (read_line names) read_all (n + 1) (Among next) lines ≡ Ok front → IsAccepted names next front lines)
    → onward (behind_line before line told) n (λ t. read_from (read_line names) read_all (n + 1) t lines) ≡ Ok front → IsAccepted names before front (line ∷ lines)
accepted_by names n before front line lines (Ok (Some entry)) declared says next is =
    let told = said_told names before.entries line (Some entry) declared says in
    one_accepted names before front line lines entry told.0 told.1 (next (with_line before line (entry ∷ [])) is)
accepted_by names n before front line lines (Ok None) declared says next is = at_last names (n + 1) before front line lines (said_told names before.entries line None declared says) is
accepted_by names n before front line lines (Err code) declared says next is = absurd (cc)

accepted : (names : Named) (n : ℕ) (before front : Front) (lines : List (List ℕ)) → AreDeclared names → read_from (read_line names) read_all n (Among before) lines ≡ Ok front → IsAccepted names before front lines
accepted names n before front [] declared is = absurd (cc)
accepted names n before front (line ∷ lines) declared is = accepted_by names n before front line lines (said names before.entries line) declared refl (λ next h. accepted names (n + 1) next front lines declared h) is

-- the header
header_by : (line : List ℕ) (b : Bool) (p told : Progress) → bytes_eq line (codes "journal 1") ≡ b → (let r : Result Progress Code = cond b (Ok p) (Err J3) in r ≡ Ok told) → (line ≡ codes "journal 1") × (p ≡ told)
header_by line true p told same is = ((bytes_eq-Decides line (codes "journal 1")).0 same, cc)
header_by line false p told same is = absurd (cc)

header_told : (line : List ℕ) (told : Progress) → checked line (header_line line) ≡ Ok told → (line ≡ codes "journal 1") × (Among (with_line no_front line []) ≡ told)
header_told line told says =
    let parts = checked_by (is_too_long line) (list_any is_odd line) (header_line line) told says in
    header_by line (bytes_eq line (codes "journal 1")) (Among (with_line no_front line [])) told refl parts.1

-- a text is its ended lines, and the bytes behind them
text_line : (b : ℕ) (bs rest : List ℕ) (lines : List (List ℕ)) → bs ≡ lines_text lines ++ rest → (more : List ℕ) × (b ∷ bs ≡ lines_text (onto_line b lines) ++ more)
text_line b bs rest [] is = (b ∷ bs, refl)
text_line b bs rest (line ∷ lines) is = (rest, ap (λ bytes. b ∷ bytes) is)

text_lines : (bytes : List ℕ) → (rest : List ℕ) × (bytes ≡ lines_text (ended_lines bytes) ++ rest)
text_lines [] = ([], refl)
text_lines (b ∷ bs) =
    let later = text_lines bs in
    ⊎_elim (λ feed. (later.0, rw feed (rw (← (eqb-true b 10 feed)) (ap (λ bytes. b ∷ bytes) later.1)))) (λ other. rw other (text_line b bs later.0 (ended_lines bs) later.1)) (cases_Bool (is_feed b))

-- the text of an accepted journal
front_printed : (names : Named) (bytes rest : List ℕ) (front : Front) (line : List ℕ) (lines : List (List ℕ)) → bytes ≡ lines_text (line ∷ lines) ++ rest → line ≡ codes "journal 1" → IsAccepted names (with_line no_front line []) front lines → IsPrintedFront names bytes front
unfolding journal_text
front_printed names bytes rest front line lines is header accepted =
    let end : List (List ℕ) = map (entry_text names) accepted.es ++ codes "end" ∷ [] in
    let split : lines ≡ end ++ accepted.more = accepted.split ∙ sym (append_assoc (map (entry_text names) accepted.es) (codes "end" ∷ []) accepted.more) in
    let whole : bytes ≡ lines_text (line ∷ end) ++ (lines_text accepted.more ++ rest) =
    is ∙ ap (λ ls. lines_text (line ∷ ls) ++ rest) split ∙ ap (λ text. text ++ rest) (flat_map-append (λ l. l ++ 10 ∷ []) (line ∷ end) accepted.more) ∙ append_assoc (lines_text (line ∷ end)) (lines_text accepted.more) rest in
    let used = accepted.bytes in
    let count = accepted.count in
    let long = length-line line end in
    let first : lines_text (line ∷ end) ≡ lines_text (codes "journal 1" ∷ end) = ap (λ l. lines_text (l ∷ end)) header in
    let grown : front.entries ≡ accepted.es = accepted.grown in
    record {
      text = rw (whole, grown) (take_at (lines_text (line ∷ end)) (lines_text accepted.more ++ rest) front.used (omega arith) ∙ first);
      count = rw grown (omega arith);
      printable = rw grown accepted.printable;
    }

top_by : (names : Named) (bytes : List ℕ) (front : Front) (line : List ℕ) (lines : List (List ℕ)) (told : Result Progress Code) → AreDeclared names → ended_lines bytes ≡ line ∷ lines → checked line (header_line line) ≡ told
    → onward told 1 (λ t. read_from (read_line names) read_all 2 t lines) ≡ Ok front → IsPrintedFront names bytes front
top_by names bytes front line lines (Ok progress) declared split says is =
    let header = header_told line progress says in
    let text = text_lines bytes in
    let from : read_from (read_line names) read_all 2 (Among (with_line no_front line [])) lines ≡ Ok front = rw header.1 is in
    front_printed names bytes text.0 front line lines (text.1 ∙ ap (λ ls. lines_text ls ++ text.0) split) header.0 (accepted names 2 (with_line no_front line []) front lines declared from)
top_by names bytes front line lines (Err code) declared split says is = absurd (cc)

lines_by : (names : Named) (bytes : List ℕ) (front : Front) (lines : List (List ℕ)) → AreDeclared names → ended_lines bytes ≡ lines → read_from (read_line names) read_all 1 Begun lines ≡ Ok front → IsPrintedFront names bytes front
lines_by names bytes front [] declared split is = absurd (cc)
lines_by names bytes front (line ∷ lines) declared split is = top_by names bytes front line lines (checked line (header_line line)) declared split refl is

pub journal_printed : (names : Named) (bytes : List ℕ) (front : Front) → AreDeclared names → journal_of names bytes ≡ Ok front → IsPrintedFront names bytes front
unfolding journal_of
journal_printed names bytes front declared is = lines_by names bytes front (ended_lines bytes) declared refl is
