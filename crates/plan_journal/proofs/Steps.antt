-- One line of a journal more.
use Rattle.std.proofs.Common.{◌≡◌, ◌⊎◌, inl, inr, ℕ, ◌+◌, ◌-◌, ◌<◌, ◌≤◌, ltb, Bool, true, false, cond, List, [], ◌∷◌, ◌++◌, length, take, drop, Option, Some, None, Result, Ok, Err, refl, sym, ap, ◌∙◌, arith}
use Rattle.std.specs.Prelude.{slice_range, codes}
use Rattle.std.specs.Str.{bytes_eq}
use Rattle.std.proofs.lemmas.Bool.{cases_lt, false≢true, le-leb, le-ltb, lt-leb, lt-ltb}
use Rattle.std.proofs.lemmas.List.{append-nil, append_assoc, length-append, length-take, length-drop}
use Rattle.std.specs.List.{list_any}
use Rattle.std.specs.Option.{is_some}
use Rattle.site_lines.specs.Lines.{is_too_long}
use Rattle.fleet_base.specs.declared.entries.Entry.{Entry}
use Rattle.fleet_names.specs.Names.{Named}
use Rattle.site_lines.specs.Readings.{read_from}
use Rattle.site_lines.specs.declared.fault.Code.{Code}
use Rattle.site_lines.specs.declared.fault.Code.TheVariants.{J1, J2, J3, J9}
use Rattle.plan_journal.specs.declared.lines.LineRefused.{LineRefused}
use Rattle.plan_journal.specs.declared.lines.LineRefused.TheVariants as refused
use Rattle.plan_journal.specs.Gives.{GivesLine, refused_at}
use Rattle.plan_journal.specs.Entries.{line_of}
use Rattle.plan_journal.specs.Left.{IsRead, front_to, left}
use Rattle.plan_journal.specs.declared.reading.Place.{Place}
use Rattle.plan_journal.specs.Reading.{journal_of, no_front, is_odd, Front, Among, Ended, checked, parts_of, ended_lines, is_full, with_line, read_line, read_all}

-- a line that is judged as the header
header_told : {A B : Type 0} (long odd same : Bool) (x : A) (y : B) → cond long (Err J1) (cond odd (Err J2) (cond same (Ok x) (Err J3))) ≡ Ok x → cond long (Err J1) (cond odd (Err J2) (cond same (Ok y) (Err J3))) ≡ Ok y
header_told true odd same x y is = absurd (cc)
header_told false true same x y is = absurd (cc)
header_told false false true x y is = refl
header_told false false false x y is = absurd (cc)

header_refused : {A B : Type 0} (long odd same : Bool) (x : A) (y : B) (code : Code) → cond long (Err J1) (cond odd (Err J2) (cond same (Ok x) (Err J3))) ≡ Err code → cond long (Err J1) (cond odd (Err J2) (cond same (Ok y) (Err J3))) ≡ Err code
header_refused true odd same x y code is = let told : J1 ≡ code = cc in ap (λ (c : Code). Err c) told
header_refused false true same x y code is = let told : J2 ≡ code = cc in ap (λ (c : Code). Err c) told
header_refused false false true x y code is = absurd (cc)
header_refused false false false x y code is = let told : J3 ≡ code = cc in ap (λ (c : Code). Err c) told

-- what a line says
abbrev pub said : Named → List Entry → List ℕ → Result (Option Entry) Code
said names entries line = checked line (line_of names (is_full entries) (parts_of line))

-- nothing behind the end is looked at
pub ended_stays : (names : Named) (n : ℕ) (front : Front) (lines : List (List ℕ)) → read_from (read_line names) read_all n (Ended front) lines ≡ Ok front
ended_stays names n front [] = refl
ended_stays names n front (line ∷ lines) = ended_stays names (n + 1) front lines

-- the place behind one more line, which ends there
abbrev pub behind : Place → ℕ → Place
behind place next = record { used = next; lines = place.lines + 1 }

module _ (names : Named) (bytes : List ℕ) (entries : List Entry) (place : Place) (line : List ℕ) (next : ℕ) (is : ended_lines (drop place.used bytes) ≡ line ∷ ended_lines (drop next bytes)) (ends : next ≡ place.used + (length line + 1)) where
  pub one_more : (entry : Entry) → said names entries line ≡ Ok (Some entry) → left names bytes entries place ≡ left names bytes (entries ++ entry ∷ []) (behind place next)
  unfolding left
  one_more entry says =
      rw (is, says) (ap (λ used. read_from (read_line names) read_all (place.lines + 1 + 1) (Among (record { entries = entries ++ entry ∷ []; used = used; lines = place.lines + 1 })) (ended_lines (drop next bytes))) (sym ends))

  pub at_end : said names entries line ≡ Ok None → left names bytes entries place ≡ Ok (front_to entries (behind place next))
  unfolding left
  at_end says =
      rw (is, says)
      (ended_stays names (place.lines + 1 + 1) (with_line (front_to entries place) line []) (ended_lines (drop next bytes))
      ∙ ap (λ es. Ok (record { entries = es; used = place.used + (length line + 1); lines = place.lines + 1 })) (append-nil entries)
      ∙ ap (λ used. Ok (record { entries = entries; used = used; lines = place.lines + 1 })) (sym ends))

  pub at_fault : (code : Code) → said names entries line ≡ Err code → left names bytes entries place ≡ Err (record { line = place.lines + 1; code = code })
  unfolding left
  at_fault code says = rw (is, says) refl

pub cut_off : (names : Named) (bytes : List ℕ) (entries : List Entry) (place : Place) → ended_lines (drop place.used bytes) ≡ [] → left names bytes entries place ≡ Err (record { line = place.lines + 1; code = J9 })
unfolding left
cut_off names bytes entries place none = rw none refl

-- The header.
pub no_header : (names : Named) (bytes : List ℕ) → ended_lines bytes ≡ [] → journal_of names bytes ≡ Err (record { line = 1; code = J9 })
unfolding journal_of
no_header names bytes none = rw none refl

-- whether a line is the header
abbrev pub header_code : List ℕ → Result (Unit {0}) Code
header_code line = checked line (cond (bytes_eq line (codes "journal 1")) (Ok tt) (Err J3))

whole_line : (bytes : List ℕ) (stop : ℕ) → slice_range bytes 0 stop ≡ take stop bytes
whole_line bytes stop = ap (λ n. take n bytes) (let e : stop - 0 ≡ stop = omega arith in e)

pub bad_header : (names : Named) (bytes : List ℕ) (stop : ℕ) (lines : List (List ℕ)) (code : Code) → ended_lines bytes ≡ slice_range bytes 0 stop ∷ lines → Err code ≡ header_code (take stop bytes)
    → journal_of names bytes ≡ Err (record { line = 1; code = code })
unfolding journal_of
bad_header names bytes stop lines code is says =
    let line : List ℕ = take stop bytes in
    let told = header_refused (is_too_long line) (list_any is_odd line) (bytes_eq line (codes "journal 1")) tt (Among (with_line no_front line [])) code (sym says) in
    rw (is, whole_line bytes stop, told) refl

pub good_header : (names : Named) (bytes : List ℕ) (stop : ℕ) → ended_lines bytes ≡ slice_range bytes 0 stop ∷ ended_lines (drop (stop + 1) bytes) → Ok tt ≡ header_code (take stop bytes) → stop < length bytes
    → journal_of names bytes ≡ left names bytes [] (record { used = stop + 1; lines = 1 })
unfolding journal_of left
good_header names bytes stop is says high =
    let line : List ℕ = take stop bytes in
    let told = header_told (is_too_long line) (list_any is_odd line) (bytes_eq line (codes "journal 1")) tt (Among (with_line no_front line [])) (sym says) in
    let ends : 0 + (length line + 1) ≡ stop + 1 = simp length-take (omega arith) in
    rw (is, whole_line bytes stop, told) (ap (λ used. read_from (read_line names) read_all 2 (Among (record { entries = []; used = used; lines = 1 })) (ended_lines (drop (stop + 1) bytes))) ends)

-- A line that is read.
place_behind : (bytes : List ℕ) (at stop : ℕ) → at ≤ stop → stop < length bytes → stop + 1 ≡ at + (length (slice_range bytes at stop) + 1)
place_behind bytes at stop low high = simp (length-take, length-drop) (omega arith)

-- each line above but the header has an entry
full_is : (entries : List Entry) (lines : ℕ) → lines ≡ length entries + 1 → ltb 1000000 lines ≡ is_full entries
full_is entries lines count = by_order (cases_lt 1000000 lines)
  where
    by_order : (1000000 < lines) ⊎ (lines ≤ 1000000) → ltb 1000000 lines ≡ is_full entries
    by_order (inl above) = lt-ltb 1000000 lines above ∙ sym (le-leb 1000000 (length entries) (omega (arith, above, count)))
    by_order (inr most) = le-ltb 1000000 lines most ∙ sym (lt-leb 1000000 (length entries) (omega (arith, most, count)))

module _ (names : Named) (bytes : List ℕ) (place : Place) (stop : ℕ) (low : place.used ≤ stop) (high : stop < length bytes) (is : ended_lines (drop place.used bytes) ≡ slice_range bytes place.used stop ∷ ended_lines (drop (stop + 1) bytes))
    (entries : List Entry) (count : place.lines ≡ length entries + 1) where
  abbrev line : List ℕ
  line = slice_range bytes place.used stop

  abbrev told : Result (Option Entry) Code
  told = checked line (line_of names (ltb 1000000 place.lines) (parts_of line))

  told_is : told ≡ said names entries line
  told_is = ap (λ full. checked line (line_of names full (parts_of line))) (full_is entries place.lines count)

  abbrev ends : stop + 1 ≡ place.used + (length line + 1)
  ends = place_behind bytes place.used stop low high

  pub read_said : (entry : Option Entry) → told ≡ Ok entry → IsRead names bytes entries place (behind place (stop + 1)) (Ok entry)
  read_said (Some entry) says = one_more names bytes entries place line (stop + 1) is ends entry (sym told_is ∙ says)
  read_said None says = at_end names bytes entries place line (stop + 1) is ends (sym told_is ∙ says)

  pub read_fault : (refused : LineRefused) → GivesLine {A = Option Entry} (λ entry. entry) (Err refused) told → IsRead names bytes entries place place (Err (refused_at (place.lines + 1) refused))
  read_fault (refused.Bad code) says = at_fault names bytes entries place line (stop + 1) is ends code (sym told_is ∙ says)
  read_fault refused.NoMemory says = tt

-- what was read between two places: more entries
abbrev pub IsBetween : Named → List ℕ → Place → Place → Type 0
IsBetween names bytes from to = (entries : List Entry) → from.lines ≡ length entries + 1 → (more : List Entry) × (left names bytes entries from ≡ left names bytes (entries ++ more) to) × (to.lines ≡ length (entries ++ more) + 1)

-- one entry more
pub between_more : (names : Named) (bytes : List ℕ) (from old new : Place) (told : Option Entry) → is_some told ≡ true → ((entries : List Entry) → old.lines ≡ length entries + 1 → IsRead names bytes entries old new (Ok told)) → new.lines ≡ old.lines + 1 → IsBetween names bytes from old → IsBetween names bytes from new
between_more names bytes from old new None some read moved between = absurd (false≢true some)
between_more names bytes from old new (Some entry) some read moved between = λ entries count.
    let so_far = between entries count in
    let above = entries ++ so_far.0 in
    let next : above ++ entry ∷ [] ≡ entries ++ (so_far.0 ++ entry ∷ []) = append_assoc entries so_far.0 (entry ∷ []) in
    let grown : length (above ++ entry ∷ []) ≡ length above + 1 = length-append above (entry ∷ []) in
    let lines = so_far.2 in (
      so_far.0 ++ entry ∷ [],
      so_far.1 ∙ read above lines ∙ ap (λ es. left names bytes es new) next,
      omega (arith, moved, lines, grown) ∙ ap (λ es. length es + 1) next,
    )
