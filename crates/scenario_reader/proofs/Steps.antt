-- What each accepted line has made sure of, for the next.
use Rattle.std.proofs.Common.{◌≡◌, ℕ, Bool, true, false, not, ◌||◌, cond, List, [], ◌∷◌, codes, Option, Some, None, Ok, Err, Result, refl, subst}
use Rattle.std.specs.Str.{bytes_eq}
use Rattle.fleet_names.specs.Names.{AreDeclared}
use Rattle.site_lines.specs.declared.fault.Code.{Code}
use Rattle.site_lines.specs.declared.fault.Code.TheVariants.{S1, S2, S3, S4}
use Rattle.site_lines.specs.Lines.{is_too_long, without_return}
use Rattle.site_lines.specs.Words.{has_bad_byte, words_of}
use Rattle.site_map.specs.Built.{no_site}
use Rattle.scenario.specs.Scenarios.{NamesAll}
use Rattle.scenario_reader.specs.declared.keyword.Keyword.{Keyword}
use Rattle.scenario_reader.specs.declared.keyword.Keyword.TheVariants as keywords
use Rattle.scenario_reader.specs.declared.keyword.LegWord.{LegWord}
use Rattle.scenario_reader.specs.declared.keyword.LegWord.TheVariants.{Visit, Repeat, Again}
use Rattle.scenario_reader.specs.declared.keyword.SiteWord.{SiteWord}
use Rattle.scenario_reader.specs.declared.keyword.SiteWord.TheVariants.{Cell, Crossing, Area, Flow, Link, Lane}
use Rattle.scenario_reader.specs.FleetLines.{end_line, mission_line, robot_line}
use Rattle.scenario_reader.specs.Kept.{IsBare, IsOpen, IsReached, IsSound}
use Rattle.scenario_reader.specs.Keywords.{keyword_of}
use Rattle.scenario_reader.specs.MissionLines.{done_line}
use Rattle.scenario_reader.specs.Reading.{added_by, closed, declared_by, fleet_line, header_line, is_flow, keyword_line, leg_line, site_line, step, when_fine, worded_line}
use Rattle.scenario_reader.specs.States.{Declared, Mission, State, AtHeader, AmongSite, AmongRobots, InMission, Ended, nothing_declared}
use Rattle.scenario_reader.specs.Tables.{judged, mapped, row}
use Rattle.scenario_reader.proofs.Fines.{mapped_ok}
use Rattle.scenario_reader.proofs.Reached.{again_reached, area_reached, cell_reached, closed_sound, crossing_reached, done_reached, end_reached, flow_reached, lane_reached, link_reached, mission_reached, repeat_reached, robot_reached, sound_ground, visit_reached}

bare_nothing : IsBare nothing_declared
bare_nothing =
    let declared : AreDeclared [] = record { differ = tt; numbers = λ thing. tt } in
    let named : NamesAll [] no_site 0 = record { cells = refl; crossings = refl; areas = refl; robots = refl } in
    (sound_ground nothing_declared refl refl declared named, refl, refl)

begun : (one two three : Bool) (t : State) → cond one (cond two (Ok (AmongSite false nothing_declared)) (cond three (Ok (AmongSite true nothing_declared)) (Err S3))) (Err S3) ≡ Ok t → IsReached t
begun false two three t is = absurd (cc)
begun true true three t is = let same : AmongSite false nothing_declared ≡ t = cc in subst IsReached same bare_nothing
begun true false true t is = let same : AmongSite true nothing_declared ≡ t = cc in subst IsReached same bare_nothing
begun true false false t is = absurd (cc)

by_header : (keyword : List ℕ) (words : List (List ℕ)) (t : State) → header_line keyword words ≡ Ok t → IsReached t
by_header keyword [] t is = absurd (cc)
by_header keyword (version ∷ []) t is = begun (bytes_eq keyword (codes "fleet")) (bytes_eq version (codes "1")) (bytes_eq version (codes "2")) t is
by_header keyword (version ∷ other ∷ more) t is = absurd (cc)

by_fleet : (d : Declared) (keyword : Option Keyword) (words : List (List ℕ)) (t : State) → IsSound d → fleet_line d keyword words ≡ Ok t → IsReached t
by_fleet d None words t sound is = absurd (cc)
by_fleet d (Some (keywords.Site word)) words t sound is = absurd (cc)
by_fleet d (Some keywords.Robot) words t sound is = let from = mapped_ok AmongRobots (robot_line d words) t is in subst IsReached from.2 (robot_reached d from.0 words sound from.1)
by_fleet d (Some keywords.Mission) words t sound is = let from = mapped_ok (InMission d) (mission_line d words) t is in subst IsReached from.2 (sound, mission_reached d from.0 words sound from.1)
by_fleet d (Some (keywords.Leg word)) words t sound is = absurd (cc)
by_fleet d (Some keywords.Done) words t sound is = absurd (cc)
by_fleet d (Some keywords.End) words t sound is = let from = mapped_ok Ended (end_line d words) t is in subst IsReached from.2 (end_reached d from.0 words sound from.1)

by_declaration : (d e : Declared) (word : SiteWord) (words : List (List ℕ)) → IsBare d → declared_by d word words ≡ Ok e → IsBare e
by_declaration d e Cell words bare is = cell_reached d e words bare is
by_declaration d e Crossing words bare is = crossing_reached d e words bare is
by_declaration d e Area words bare is = area_reached d e words bare is
by_declaration d e Flow words bare is = flow_reached d e words bare is
by_declaration d e Link words bare is = link_reached d e words bare is
by_declaration d e Lane words bare is = lane_reached d e words bare is

may_stand : (may flows : Bool) (d : Declared) (word : SiteWord) (words : List (List ℕ)) (t : State) → IsBare d → cond may (mapped (AmongSite flows) (declared_by d word words)) (Err S4) ≡ Ok t → IsReached t
may_stand true flows d word words t bare is = let from = mapped_ok (AmongSite flows) (declared_by d word words) t is in subst IsReached from.2 (by_declaration d from.0 word words bare from.1)
may_stand false flows d word words t bare is = absurd (cc)

by_site : (flows : Bool) (d : Declared) (keyword : Option Keyword) (words : List (List ℕ)) (t : State) → IsBare d → site_line flows d keyword words ≡ Ok t → IsReached t
by_site flows d None words t bare is = absurd (cc)
by_site flows d (Some (keywords.Site word)) words t bare is = may_stand (flows || not (is_flow word)) flows d word words t bare is
by_site flows d (Some keywords.Robot) words t bare is = by_fleet (closed d) (Some keywords.Robot) words t (closed_sound d bare) is
by_site flows d (Some keywords.Mission) words t bare is = by_fleet (closed d) (Some keywords.Mission) words t (closed_sound d bare) is
by_site flows d (Some (keywords.Leg word)) words t bare is = absurd (cc)
by_site flows d (Some keywords.Done) words t bare is = absurd (cc)
by_site flows d (Some keywords.End) words t bare is = by_fleet (closed d) (Some keywords.End) words t (closed_sound d bare) is

by_addition : (d : Declared) (m n : Mission) (word : LegWord) (words : List (List ℕ)) → IsSound d → IsOpen d m → added_by d.names m word words ≡ Ok n → IsOpen d n
by_addition d m n Visit words sound reached is = visit_reached d m n words sound reached is
by_addition d m n Repeat words sound reached is = repeat_reached d m n words reached is
by_addition d m n Again words sound reached is = again_reached d m n words reached is

by_leg : (d : Declared) (m : Mission) (keyword : Option Keyword) (words : List (List ℕ)) (t : State) → IsSound d → IsOpen d m → leg_line d m keyword words ≡ Ok t → IsReached t
by_leg d m None words t sound reached is = absurd (cc)
by_leg d m (Some (keywords.Site word)) words t sound reached is = absurd (cc)
by_leg d m (Some keywords.Robot) words t sound reached is = absurd (cc)
by_leg d m (Some keywords.Mission) words t sound reached is = absurd (cc)
by_leg d m (Some (keywords.Leg word)) words t sound reached is =
    let from = mapped_ok (InMission d) (added_by d.names m word words) t is in
    subst IsReached from.2 (sound, by_addition d m from.0 word words sound reached from.1)
by_leg d m (Some keywords.Done) words t sound reached is = let from = mapped_ok AmongRobots (done_line d m words) t is in subst IsReached from.2 (done_reached d from.0 m words sound reached from.1)
by_leg d m (Some keywords.End) words t sound reached is = absurd (cc)

by_keyword : (s : State) (word : List ℕ) (words : List (List ℕ)) (t : State) → IsReached s → keyword_line s word words ≡ Ok t → IsReached t
by_keyword AtHeader word words t reached is = by_header word words t is
by_keyword (AmongSite flows d) word words t reached is = by_site flows d (keyword_of word) words t reached is
by_keyword (AmongRobots d) word words t reached is = by_fleet d (keyword_of word) words t reached is
by_keyword (InMission d m) word words t reached is = by_leg d m (keyword_of word) words t reached.0 reached.1 is
by_keyword (Ended d) word words t reached is = absurd (cc)

by_words : (s : State) (words : List (List ℕ)) (t : State) → IsReached s → worded_line s words ≡ Ok t → IsReached t
by_words s [] t reached is = let same : s ≡ t = cc in subst IsReached same reached
by_words s (word ∷ words) t reached is = by_keyword s word words t reached is

if_fine : (fine : Result Bool Code) (s : State) (words : List (List ℕ)) (t : State) → IsReached s → when_fine fine (worded_line s words) ≡ Ok t → IsReached t
if_fine (Ok b) s words t reached is = by_words s words t reached is
if_fine (Err code) s words t reached is = absurd (cc)

pub step_reached : (s t : State) (raw : List ℕ) → IsReached s → step s raw ≡ Ok t → IsReached t
step_reached s t raw reached is =
    let line : List ℕ = without_return raw in
    if_fine (judged (row (is_too_long line) S1 ∷ row (has_bad_byte line) S2 ∷ []) true) s (words_of line) t reached is
