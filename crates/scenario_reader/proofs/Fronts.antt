-- The front of a text: where it ends, and what is read up to there.
use Rattle.std.proofs.Common.{◌≡◌, ℕ, zero, suc, ◌+◌, ◌-◌, ◌<◌, ◌≤◌, Bool, true, false, not, cond, ltb, List, [], ◌∷◌, length, drop, Some, None, Ok, Err, Result, refl, sym, ap, subst, ◌∙◌, arith, ⊎_elim}
use Rattle.std.specs.List.{position_or_len}
use Rattle.std.proofs.lemmas.Bool.{cases_Bool, false≢true, lt-ltb, le-ltb, cases_lt}
use Rattle.std.proofs.lemmas.List.{length-drop, drop-drop}
use Rattle.std.proofs.Math.Numerals.{add-one}
use Rattle.site_lines.specs.declared.fault.At.{At}
use Rattle.site_lines.specs.declared.fault.Code.{Code}
use Rattle.site_lines.specs.declared.fault.Code.TheVariants.{S22}
use Rattle.site_lines.specs.declared.line.Line.{Line}
use Rattle.site_lines.specs.Lines.{is_feed, line_from, stop_of}
use Rattle.site_lines.specs.Readings.{onward, read_from}
use Rattle.scenario.specs.Scenarios.{ScenarioValue}
use Rattle.scenario_reader.specs.Reading.{bytes_of_lines, done, front_done, front_step, is_ended, step}
use Rattle.scenario_reader.specs.States.{Declared, State, AtHeader, AmongSite, AmongRobots, InMission, Ended, scenario_in}
use Rattle.scenario_reader.specs.Tables.{mapped, Fails, FailsAt}
use Rattle.scenario_reader.specs.declared.stop.Stop.{Stop}
use Rattle.scenario_reader.specs.declared.stop.Stop.TheVariants as stops
use Rattle.scenario_reader.specs.declared.stop.ReadRefused.{ReadRefused}
use Rattle.scenario_reader.specs.declared.stop.ReadRefused.TheVariants as refusals

-- a line that is taken, and one that is stopped, before the end
pub front_takes : (s t : State) (n : ℕ) (raw : List ℕ) → is_ended s ≡ false → step s raw ≡ Ok t → front_step (s, n) raw ≡ Ok (t, n + 1)
front_takes s t n raw going is =
    ap (λ (b : Bool). cond b (Ok (s, n)) (mapped (λ (u : State). (u, n + 1)) (step s raw))) going ∙ ap (λ (r : Result State Code). mapped (λ (u : State). (u, n + 1)) r) is

mapped_fails : {S T : Type 0} (f : S → T) (r : Result S Code) (stop : Stop) → Fails stop r → Fails stop (mapped f r)
mapped_fails f r stops.NoMemory fails = tt
mapped_fails {S} {T} f r (stops.Bad code) fails = ap (λ (x : Result S Code). mapped f x) fails

pub front_stops : (s : State) (n : ℕ) (raw : List ℕ) (stop : Stop) → is_ended s ≡ false → Fails stop (step s raw) → Fails stop (front_step (s, n) raw)
front_stops s n raw stop going fails = subst (λ (r : Result (State × ℕ) Code). Fails stop r) (sym (ap (λ (b : Bool). cond b (Ok (s, n)) (mapped (λ (u : State). (u, n + 1)) (step s raw))) going)) (mapped_fails (λ (u : State). (u, n + 1)) (step s raw) stop fails)

-- what is mapped fails where it did
pub whole_fails : {S T : Type 0} (f : S → T) (r : Result S At) (refused : ReadRefused) → FailsAt refused r → FailsAt refused (mapped f r)
whole_fails f r refusals.NoMemory fails = tt
whole_fails {S} {T} f r (refusals.Bad at) fails = ap (λ (x : Result S At). mapped f x) fails

-- behind the end nothing is looked at
ended_stays : (d : Declared) (n m : ℕ) (lines : List (List ℕ)) → read_from front_step front_done m (Ended d, n) lines ≡ Ok (scenario_in d, n)
ended_stays d n m [] = refl
ended_stays d n m (line ∷ lines) = ended_stays d n (m + 1) lines

pub front_found : (t : State) (n m k : ℕ) (lines : List (List ℕ)) (s : ScenarioValue) → is_ended t ≡ true → onward (done t) k (λ u. Ok u) ≡ Ok s → read_from front_step front_done m (t, n) lines ≡ Ok (s, n)
front_found AtHeader n m k lines s ended is = absurd (false≢true ended)
front_found (AmongSite flows d) n m k lines s ended is = absurd (false≢true ended)
front_found (AmongRobots d) n m k lines s ended is = absurd (false≢true ended)
front_found (InMission d o) n m k lines s ended is = absurd (false≢true ended)
front_found (Ended d) n m k lines s ended is = let same : scenario_in d ≡ s = cc in ended_stays d n m lines ∙ ap (λ (x : ScenarioValue). Ok (x, n)) same

pub front_fails : (t : State) (n m k : ℕ) (lines : List (List ℕ)) (refused : ReadRefused) → is_ended t ≡ true → FailsAt refused (onward {T = ScenarioValue} (done t) k (λ u. Ok u)) → FailsAt refused (read_from front_step front_done m (t, n) lines)
front_fails AtHeader n m k lines refused ended is = absurd (false≢true ended)
front_fails (AmongSite flows d) n m k lines refused ended is = absurd (false≢true ended)
front_fails (AmongRobots d) n m k lines refused ended is = absurd (false≢true ended)
front_fails (InMission d o) n m k lines refused ended is = absurd (false≢true ended)
front_fails (Ended d) n m k lines refusals.NoMemory ended is = tt
front_fails (Ended d) n m k lines (refusals.Bad at) ended is = absurd (cc)

-- a text that ends before the end
pub front_open : (s : State) (n m : ℕ) → is_ended s ≡ false → onward {T = ScenarioValue × ℕ} (front_done (s, n)) m (λ u. Ok u) ≡ Err (record { line = m; code = S22 })
front_open AtHeader n m going = refl
front_open (AmongSite flows d) n m going = refl
front_open (AmongRobots d) n m going = refl
front_open (InMission d o) n m going = refl
front_open (Ended d) n m going = absurd (false≢true (sym going))

none_left : (k : ℕ) → bytes_of_lines k [] ≡ 0
none_left zero = refl
none_left (suc k) = refl

-- how many bytes the first line has, with its line feed
abbrev first_bytes_of : List ℕ → ℕ
first_bytes_of xs = cond (ltb (position_or_len is_feed xs) (length xs)) (position_or_len is_feed xs + 1) (position_or_len is_feed xs)

by_feed : (b : Bool) (x y : ℕ) → b ≡ true → cond b x y ≡ x
by_feed true x y is = refl
by_feed false x y is = absurd (false≢true is)

by_none : (b : Bool) (x y : ℕ) → b ≡ false → cond b x y ≡ y
by_none true x y is = absurd (false≢true (sym is))
by_none false x y is = refl

first_feed : (b : ℕ) (bs : List ℕ) → is_feed b ≡ true → first_bytes_of (b ∷ bs) ≡ 1
first_feed b bs e =
    let place : position_or_len is_feed (b ∷ bs) ≡ 0 = ap (λ t. cond (not t) (1 + position_or_len is_feed bs) 0) e in
    ap (λ n. cond (ltb n (length (b ∷ bs))) (n + 1) n) place ∙ by_feed (ltb 0 (length (b ∷ bs))) 1 0 (lt-ltb 0 (length (b ∷ bs)) (omega arith))

first_more : (b : ℕ) (bs : List ℕ) → is_feed b ≡ false → first_bytes_of (b ∷ bs) ≡ first_bytes_of bs + 1
first_more b bs e = ap (λ n. cond (ltb n (length (b ∷ bs))) (n + 1) n) place ∙ ⊎_elim ended open_line (cases_lt p (length bs))
  where
    p : ℕ
    p = position_or_len is_feed bs

    place : position_or_len is_feed (b ∷ bs) ≡ 1 + position_or_len is_feed bs
    place = ap (λ t. cond (not t) (1 + position_or_len is_feed bs) 0) e

    ended : position_or_len is_feed bs < length bs → cond (ltb (1 + position_or_len is_feed bs) (length (b ∷ bs))) (1 + position_or_len is_feed bs + 1) (1 + position_or_len is_feed bs) ≡ first_bytes_of bs + 1
    ended l =
        let n : ℕ = position_or_len is_feed bs in
        let one = by_feed (ltb (1 + n) (length (b ∷ bs))) (1 + n + 1) (1 + n) (lt-ltb (1 + n) (length (b ∷ bs)) (omega arith)) in
        let two = by_feed (ltb n (length bs)) (n + 1) n (lt-ltb n (length bs) l) in
        omega (arith, one, two)

    open_line : length bs ≤ position_or_len is_feed bs → cond (ltb (1 + position_or_len is_feed bs) (length (b ∷ bs))) (1 + position_or_len is_feed bs + 1) (1 + position_or_len is_feed bs) ≡ first_bytes_of bs + 1
    open_line l =
        let n : ℕ = position_or_len is_feed bs in
        let one = by_none (ltb (1 + n) (length (b ∷ bs))) (1 + n + 1) (1 + n) (le-ltb (1 + n) (length (b ∷ bs)) (omega arith)) in
        let two = by_none (ltb n (length bs)) (n + 1) n (le-ltb n (length bs) l) in
        omega (arith, one, two)

-- its first line aside, a text has as many bytes as are left
line_bytes : (xs : List ℕ) (k : ℕ) → bytes_of_lines (suc k) xs ≡ first_bytes_of xs + bytes_of_lines k (drop (first_bytes_of xs) xs)
line_bytes [] k = let none = none_left k in omega arith
line_bytes (b ∷ bs) k =
    ⊎_elim
    (λ (e : is_feed b ≡ true).
    let here : bytes_of_lines (suc k) (b ∷ bs) ≡ bytes_of_lines k bs + 1 = ap (λ t. cond t (bytes_of_lines k bs) (bytes_of_lines (suc k) bs) + 1) e in
    let there : first_bytes_of (b ∷ bs) + bytes_of_lines k (drop (first_bytes_of (b ∷ bs)) (b ∷ bs)) ≡ 1 + bytes_of_lines k bs = ap (λ n. n + bytes_of_lines k (drop n (b ∷ bs))) (first_feed b bs e) in
    omega (arith, here, there))
    (λ (e : is_feed b ≡ false).
    let here : bytes_of_lines (suc k) (b ∷ bs) ≡ bytes_of_lines (suc k) bs + 1 = ap (λ t. cond t (bytes_of_lines k bs) (bytes_of_lines (suc k) bs) + 1) e in
    let later = line_bytes bs k in
    let q : ℕ = first_bytes_of bs in
    let there : first_bytes_of (b ∷ bs) + bytes_of_lines k (drop (first_bytes_of (b ∷ bs)) (b ∷ bs)) ≡ (q + 1) + bytes_of_lines k (drop (q + 1) (b ∷ bs)) = ap (λ n. n + bytes_of_lines k (drop n (b ∷ bs))) (first_more b bs e) in
    let less : bytes_of_lines k (drop (q + 1) (b ∷ bs)) ≡ bytes_of_lines k (drop q bs) = ap (λ n. bytes_of_lines k (drop n (b ∷ bs))) (add-one q) in
    omega (arith, here, there, later, less))
    (cases_Bool (is_feed b))

-- the line that begins at a place
there_is : {X : Type 0} (b : Bool) (x y : X) → b ≡ true → cond b x y ≡ x
there_is true x y is = refl
there_is false x y is = absurd (false≢true is)

inside : (line made : Line) → Some line ≡ Some made → line ≡ made
inside line made is = cc

next_by : (at p n m : ℕ) → m ≡ n - at → at < n → cond (ltb (at + p) n) (at + p + 1) (at + p) ≡ at + cond (ltb p m) (p + 1) p
next_by at p n m left within = ⊎_elim
    (λ (l : at + p < n).
    let one = by_feed (ltb (at + p) n) (at + p + 1) (at + p) (lt-ltb (at + p) n l) in
    let two = by_feed (ltb p m) (p + 1) p (lt-ltb p m (omega arith)) in
    omega (arith, one, two))
    (λ (l : n ≤ at + p).
    let one = by_none (ltb (at + p) n) (at + p + 1) (at + p) (le-ltb (at + p) n l) in
    let two = by_none (ltb p m) (p + 1) p (le-ltb p m (omega arith)) in
    omega (arith, one, two))
    (cases_lt (at + p) n)

next_is : (bytes : List ℕ) (at : ℕ) (line : Line) → at < length bytes → Some line ≡ line_from bytes at → line.next ≡ at + first_bytes_of (drop at bytes)
next_is bytes at line within is =
    let stop : ℕ = stop_of bytes at in
    let ended : Bool = ltb stop (length bytes) in
    let made : Line = record { start = at; stop = stop; next = cond ended (stop + 1) stop; ended = ended } in
    let same : line ≡ made = inside line made (is ∙ there_is (ltb at (length bytes)) (Some made) None (lt-ltb at (length bytes) within)) in
    ap (λ (l : Line). l.next) same ∙ next_by at (position_or_len is_feed (drop at bytes)) (length bytes) (length (drop at bytes)) (length-drop at bytes) within

pub line_used : (bytes : List ℕ) (at : ℕ) (line : Line) (k : ℕ) → at < length bytes → Some line ≡ line_from bytes at → at + bytes_of_lines (suc k) (drop at bytes) ≡ line.next + bytes_of_lines k (drop line.next bytes)
line_used bytes at line k within is =
    let next = next_is bytes at line within is in
    let q : ℕ = first_bytes_of (drop at bytes) in
    let split = line_bytes (drop at bytes) k in
    let left : bytes_of_lines k (drop q (drop at bytes)) ≡ bytes_of_lines k (drop line.next bytes) = ap (λ xs. bytes_of_lines k xs) (drop-drop q at bytes) ∙ ap (λ n. bytes_of_lines k (drop n bytes)) (sym next) in
    omega (arith, next, split, left)
