-- The first bad line of a journal is within its text.
use Rattle.std.proofs.Common.{◌≡◌, ℕ, suc, ◌+◌, ◌≤◌, Bool, true, false, if◌then◌else◌, List, [], ◌∷◌, length, Ok, Err, Result, arith}
use Rattle.fleet_names.specs.Names.{Named}
use Rattle.site_lines.specs.declared.fault.At.{At}
use Rattle.site_lines.specs.declared.fault.Code.{Code}
use Rattle.site_lines.specs.Lines.{is_feed}
use Rattle.site_lines.specs.Readings.{onward, read_from}
use Rattle.plan_journal.specs.Reading.{Begun, ended_lines, journal_of, onto_line, read_all, read_line}

-- the first bad line is at most one behind the last
module _ {S T : Type 0} (step : S → List ℕ → Result S Code) (done : S → Result T Code) (at : At) where
  end_within : (n : ℕ) (r : Result T Code) → onward r n (λ (t : T). let ok : Result T At = Ok t in ok) ≡ Err at → at.line ≤ n + 0
  end_within n (Ok t) is = absurd (cc)
  end_within n (Err code) is = let same : n ≡ at.line = cc in omega (arith, same)

  line_within : (n m : ℕ) (r : Result S Code) (rest : S → Result T At) → onward r n rest ≡ Err at → ((t : S) → rest t ≡ Err at → at.line ≤ (n + 1) + m) → at.line ≤ n + suc m
  line_within n m (Ok t) rest is later = let le = later t is in omega (arith, le)
  line_within n m (Err code) rest is later = let same : n ≡ at.line = cc in omega (arith, same)

  fault_within : (n : ℕ) (s : S) (lines : List (List ℕ)) → read_from step done n s lines ≡ Err at → at.line ≤ n + length lines
  fault_within n s [] is = end_within n (done s) is
  fault_within n s (line ∷ lines) is = line_within n (length lines) (step s line) (λ t. read_from step done (n + 1) t lines) is (λ t e. fault_within (n + 1) t lines e)

-- how many bytes lines have with their line feeds
bytes_in : List (List ℕ) → ℕ
bytes_in [] = 0
bytes_in (line ∷ lines) = (length line + 1) + bytes_in lines

lines_within : (lines : List (List ℕ)) → length lines ≤ bytes_in lines
unfolding bytes_in
lines_within [] = omega arith
lines_within (line ∷ lines) = let rest = lines_within lines in omega (arith, rest)

-- the ended lines of a text have no more bytes than it
ended_within : (bs : List ℕ) → bytes_in (ended_lines bs) ≤ length bs
unfolding bytes_in
ended_within [] = omega arith
ended_within (b ∷ bs) = by_feed (is_feed b) (ended_within bs)
  where
    onto : (lines : List (List ℕ)) → bytes_in lines ≤ length bs → bytes_in (onto_line b lines) ≤ suc (length bs)
    onto [] le = omega arith
    onto (line ∷ lines) le = omega (arith, le)

    by_feed : (feed : Bool) → bytes_in (ended_lines bs) ≤ length bs → bytes_in (if feed then [] ∷ ended_lines bs else onto_line b (ended_lines bs)) ≤ suc (length bs)
    by_feed true le = omega (arith, le)
    by_feed false le = onto (ended_lines bs) le

-- its first bad line is at most one behind as many as it has bytes
pub fault_in : (names : Named) (text : List ℕ) (at : At) → journal_of names text ≡ Err at → at.line ≤ length text + 1
unfolding journal_of
fault_in names text at is =
    let line = fault_within (read_line names) read_all at 1 Begun (ended_lines text) is in
    let lines = lines_within (ended_lines text) in
    let bytes = ended_within text in
    omega (arith, line, lines, bytes)
