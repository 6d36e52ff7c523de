-- A canonical text is read again where something follows it.
use Rattle.std.proofs.Common.{◌≡◌, ℕ, suc, ◌+◌, Bool, true, false, cond, List, [], ◌∷◌, ◌++◌, length, Ok, Err, Result, refl, sym, ap, ◌∙◌, append_assoc, length-append, arith}
use Rattle.std.specs.Prelude.{codes}
use Rattle.std.specs.List.{list_any, AllByRecursion}
use Rattle.std.proofs.lemmas.Bool.{false≢true, or_parts}
use Rattle.fleet_names.specs.Names.{AreDeclared}
use Rattle.site_lines.specs.declared.fault.At.{At}
use Rattle.site_lines.specs.declared.fault.Code.{Code}
use Rattle.site_lines.specs.Lines.{is_feed, lines_of, without_return}
use Rattle.site_lines.specs.Readings.{next_state, onward, read_from}
use Rattle.site_lines.specs.Words.{words_of}
use Rattle.site_map.specs.Valid.{IsValidSite}
use Rattle.scenario.specs.Canonical.{canonical_text}
use Rattle.scenario.specs.Scenarios.{IsScenario, ScenarioValue}
use Rattle.scenario_reader.specs.Reading.{FrontValue, bytes_of_lines, front_done, front_of, front_step, is_ended, step, when_fine, worded_line}
use Rattle.scenario_reader.specs.States.{Declared, State, AtHeader, AmongSite, AmongRobots, InMission, Ended}
use Rattle.scenario_reader.specs.Tables.{mapped}
use Rattle.scenario_reader.proofs.Fronts.{front_found, front_takes}
use Rattle.scenario_laws.proofs.RoundTrip.{bare_line, fleet_lines_of, site_lines_of, steps}
use Rattle.scenario_laws.proofs.CanonicalLines.{step_worded}
use Rattle.scenario_laws.proofs.CellSteps.{has_flows}
use Rattle.scenario_laws.proofs.Feeds.{NoFeed, ended, fed}
use Rattle.scenario_laws.proofs.Fleet.{before_end_stepped, end_stepped, ends_last, lines_before_end}
use Rattle.scenario_laws.proofs.Missions.{missions_at}
use Rattle.scenario_laws.proofs.SiteRead.{site_declared, site_lines_closed, site_lines_read}
use Rattle.scenario_laws.proofs.StepLists.{steps_both}
use Rattle.scenario_laws.proofs.Texts.{canonical_fed, canonical_lines, none_anywhere}
use Rattle.scenario_laws.proofs.Whole.{cheap_site, read_again}

-- the lines of a text with something behind it
lines_followed : (lines : List (List ℕ)) (tail : List ℕ) → AllByRecursion NoFeed lines → lines_of (fed lines ++ tail) ≡ lines ++ lines_of tail
lines_followed [] tail all = refl
lines_followed (l ∷ ls) tail all =
    ap lines_of (append_assoc (l ++ 10 ∷ []) (fed ls) tail ∙ append_assoc l (10 ∷ []) (fed ls ++ tail))
    ∙ ended l (fed ls ++ tail) all.0
    ∙ ap (λ rest. l ∷ rest) (lines_followed ls tail all.1)

-- how many bytes they have
one_line : (n : ℕ) (l rest : List ℕ) → NoFeed l → bytes_of_lines (suc n) (l ++ 10 ∷ rest) ≡ length l + 1 + bytes_of_lines n rest
one_line n [] rest none = omega arith
one_line n (b ∷ bs) rest none =
    let parts = or_parts (is_feed b) (list_any is_feed bs) none in
    let more = one_line n bs rest parts.1 in
    ap (λ feed. cond feed (bytes_of_lines n (bs ++ 10 ∷ rest)) (bytes_of_lines (suc n) (bs ++ 10 ∷ rest)) + 1) parts.0 ∙ omega arith

bytes_followed : (lines : List (List ℕ)) (tail : List ℕ) → AllByRecursion NoFeed lines → bytes_of_lines (length lines) (fed lines ++ tail) ≡ length (fed lines)
bytes_followed [] tail all = refl
bytes_followed (l ∷ ls) tail all =
    let more = bytes_followed ls tail all.1 in
    let long : length (fed (l ∷ ls)) ≡ length l + 1 + length (fed ls) = length-append (l ++ 10 ∷ []) (fed ls) ∙ ap (λ n. n + length (fed ls)) (length-append l (10 ∷ [])) in
    ap (bytes_of_lines (suc (length ls))) (append_assoc (l ++ 10 ∷ []) (fed ls) tail ∙ append_assoc l (10 ∷ []) (fed ls ++ tail))
    ∙ one_line (length ls) l (fed ls ++ tail) all.0
    ∙ omega arith

-- Behind the end no line is accepted that leads elsewhere.
by_words : (r : Result Bool Code) (d : Declared) (words : List (List ℕ)) (t : State) → when_fine r (worded_line (Ended d) words) ≡ Ok t → t ≡ Ended d
by_words (Err code) d words t is = absurd (cc)
by_words (Ok fine) d [] t is = cc
by_words (Ok fine) d (word ∷ words) t is = absurd (cc)

then_ended : (r : Result State Code) (d : Declared) (lines : List (List ℕ)) (t : State) → ((u : State) → r ≡ Ok u → u ≡ Ended d) → ((u : State) → u ≡ Ended d → steps u lines ≡ Ok t → is_ended t ≡ true)
    → next_state r (λ u. steps u lines) ≡ Ok t → is_ended t ≡ true
then_ended (Err code) d lines t one more is = absurd (cc)
then_ended (Ok u) d lines t one more is = more u (one u refl) is

stays_ended : (s : State) (d : Declared) (lines : List (List ℕ)) (t : State) → s ≡ Ended d → steps s lines ≡ Ok t → is_ended t ≡ true
stays_ended s d [] t same is = let other : s ≡ t = cc in ap is_ended (sym other ∙ same)
stays_ended s d (line ∷ lines) t same is =
    then_ended (step s line) d lines t
    (λ u taken. let taken' : step (Ended d) line ≡ Ok u = ap (λ v. step v line) (sym same) ∙ taken in by_words _ d (words_of (without_return line)) u taken')
    (λ u ended rest. stays_ended u d lines t ended rest)
    is

not_yet : (s : State) (lines : List (List ℕ)) (t : State) → steps s lines ≡ Ok t → is_ended t ≡ false → is_ended s ≡ false
not_yet AtHeader lines t is going = refl
not_yet (AmongSite flows d) lines t is going = refl
not_yet (AmongRobots d) lines t is going = refl
not_yet (InMission d m) lines t is going = refl
not_yet (Ended d) lines t is going = absurd (false≢true (sym going ∙ stays_ended (Ended d) d lines t refl is))

-- lines before the end are counted
one_front : (r : Result State Code) (s : State) (n m : ℕ) (line : List ℕ) (lines : List (List ℕ)) (t : State) (found : ScenarioValue × ℕ) → step s line ≡ r → is_ended s ≡ false
    → ((u : State) → steps u lines ≡ Ok t → (rest : List (List ℕ)) → ((k : ℕ) → read_from front_step front_done k (t, n + 1 + length lines) rest ≡ Ok found) → read_from front_step front_done (m + 1) (u, n + 1) (lines ++ rest) ≡ Ok found)
    → next_state r (λ u. steps u lines) ≡ Ok t → (rest : List (List ℕ)) → ((k : ℕ) → read_from front_step front_done k (t, n + 1 + length lines) rest ≡ Ok found)
    → read_from front_step front_done m (s, n) (line ∷ (lines ++ rest)) ≡ Ok found
one_front (Err code) s n m line lines t found taken going next is rest ends = absurd (cc)
one_front (Ok u) s n m line lines t found taken going next is rest ends =
    ap (λ (r : Result (State × ℕ) Code). onward {T = ScenarioValue × ℕ} r m (λ v. read_from front_step front_done (m + 1) v (lines ++ rest))) (front_takes s u n line going taken)
    ∙ next u is rest ends

fronts : (s t : State) (n m : ℕ) (lines rest : List (List ℕ)) (found : ScenarioValue × ℕ) → steps s lines ≡ Ok t → is_ended t ≡ false → ((k : ℕ) → read_from front_step front_done k (t, n + length lines) rest ≡ Ok found)
    → read_from front_step front_done m (s, n) (lines ++ rest) ≡ Ok found
fronts s t n m [] rest found is going ends =
    let same : s ≡ t = cc in
    let none : n ≡ n + 0 = omega arith in
    ap (λ u. read_from front_step front_done m (u, n) rest) same ∙ ap (λ k. read_from front_step front_done m (t, k) rest) none ∙ ends m
fronts s t n m (line ∷ lines) rest found is going ends =
    let count : n + 1 + length lines ≡ n + length (line ∷ lines) = omega arith in
    one_front (step s line) s n m line lines t found refl (not_yet s (line ∷ lines) t is going)
    (λ u later others ends'. fronts u t (n + 1) (m + 1) lines others found later going ends')
    is rest
    (λ k. ap (λ c. read_from front_step front_done k (t, c) rest) count ∙ ends k)

-- the lines before the end
abbrev before_end : ScenarioValue → List (List ℕ)
before_end s = site_lines_of s ++ lines_before_end s

all_lines : (s : ScenarioValue) → before_end s ++ bare_line (codes "end") [] ∷ [] ≡ site_lines_of s ++ fleet_lines_of s
all_lines s = append_assoc (site_lines_of s) (lines_before_end s) (bare_line (codes "end") [] ∷ []) ∙ ap (λ ls. site_lines_of s ++ ls) (ends_last s)

lines_counted : (s : ScenarioValue) → length (before_end s) + 1 ≡ length (site_lines_of s ++ fleet_lines_of s)
lines_counted s = sym (length-append (before_end s) (bare_line (codes "end") [] ∷ [])) ∙ ap length (all_lines s)

-- what is found in front of a tail
abbrev pub front_again : ScenarioValue → FrontValue
front_again s = record { scenario = read_again s; used = length (canonical_text s); lines = length (lines_of (canonical_text s)) }

-- what is found, with its bytes
abbrev front_in : List ℕ → ScenarioValue × ℕ → FrontValue
front_in text found = record { scenario = found.0; used = bytes_of_lines found.1 text; lines = found.1 }

module _ (s : ScenarioValue) (is : IsScenario s) (declared : AreDeclared s.names) (valid : IsValidSite s.site) where
  -- the end, and what follows it
  at_end : (n k : ℕ) (rest : List (List ℕ)) → read_from front_step front_done k (AmongRobots (missions_at s (length s.missions)), n) (bare_line (codes "end") [] ∷ rest) ≡ Ok (read_again s, n + 1)
  at_end n k rest =
      let d : Declared = missions_at s (length s.missions) in
      ap (λ (r : Result (State × ℕ) Code). onward {T = ScenarioValue × ℕ} r k (λ v. read_from front_step front_done (k + 1) v rest))
      (front_takes (AmongRobots d) (Ended d) n (bare_line (codes "end") []) refl (end_stepped step_worded s is declared d refl))
      ∙ front_found (Ended d) (n + 1) (k + 1) 0 rest (read_again s) refl refl

  none : AllByRecursion NoFeed (site_lines_of s ++ fleet_lines_of s)
  none = none_anywhere s declared.differ (cheap_site s.site valid)

  -- the lines of the text with a tail
  lines_are : (tail : List ℕ) → lines_of (canonical_text s ++ tail) ≡ before_end s ++ bare_line (codes "end") [] ∷ lines_of tail
  lines_are tail =
      ap (λ text. lines_of (text ++ tail)) (canonical_fed s)
      ∙ lines_followed (site_lines_of s ++ fleet_lines_of s) tail none
      ∙ ap (λ ls. ls ++ lines_of tail) (sym (all_lines s))
      ∙ append_assoc (before_end s) (bare_line (codes "end") [] ∷ []) (lines_of tail)

  bytes_are : (tail : List ℕ) → bytes_of_lines (length (site_lines_of s ++ fleet_lines_of s)) (canonical_text s ++ tail) ≡ length (canonical_text s)
  bytes_are tail =
      ap (λ text. bytes_of_lines (length (site_lines_of s ++ fleet_lines_of s)) (text ++ tail)) (canonical_fed s)
      ∙ bytes_followed (site_lines_of s ++ fleet_lines_of s) tail none
      ∙ ap length (sym (canonical_fed s))

  count_is : length (site_lines_of s ++ fleet_lines_of s) ≡ length (lines_of (canonical_text s))
  count_is = ap length (sym (canonical_lines s declared.differ (cheap_site s.site valid)))

  -- all lines before the end are accepted
  going_on : steps AtHeader (before_end s) ≡ Ok (AmongRobots (missions_at s (length s.missions)))
  going_on =
      let flows = has_flows s.site in
      steps_both AtHeader (AmongSite flows (site_declared s)) (site_lines_of s) (lines_before_end s) (site_lines_read s is declared valid)
      ∙ before_end_stepped step_worded s is declared flows (site_declared s) (site_lines_closed s valid)

  found_is : (tail : List ℕ) → read_from front_step front_done 1 (AtHeader, 0) (lines_of (canonical_text s ++ tail)) ≡ Ok (read_again s, length (site_lines_of s ++ fleet_lines_of s))
  found_is tail =
      let count : 0 + length (before_end s) + 1 ≡ length (site_lines_of s ++ fleet_lines_of s) = let told = lines_counted s in omega arith in
      ap (λ lines. read_from front_step front_done 1 (AtHeader, 0) lines) (lines_are tail)
      ∙ fronts AtHeader (AmongRobots (missions_at s (length s.missions))) 0 1 (before_end s) (bare_line (codes "end") [] ∷ lines_of tail) (read_again s, length (site_lines_of s ++ fleet_lines_of s)) going_on refl
      (λ k. at_end (0 + length (before_end s)) k (lines_of tail) ∙ ap (λ n. Ok (read_again s, n)) count)

  -- A canonical text is the front of each text that begins with it.
  pub reads_front : (tail : List ℕ) → front_of (canonical_text s ++ tail) ≡ Ok (front_again s)
  unfolding front_of
  reads_front tail =
      ap (λ (r : Result (ScenarioValue × ℕ) At). mapped (front_in (canonical_text s ++ tail)) r) (found_is tail)
      ∙ ap (λ used. Ok (record { scenario = read_again s; used = used; lines = length (site_lines_of s ++ fleet_lines_of s) })) (bytes_are tail)
      ∙ ap (λ lines. Ok (record { scenario = read_again s; used = length (canonical_text s); lines = lines })) count_is
