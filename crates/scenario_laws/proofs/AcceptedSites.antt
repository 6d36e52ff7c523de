-- The site of a text that is accepted is valid.
use Rattle.std.proofs.Common.{◌≡◌, ℕ, suc, ◌+◌, ◌<◌, ◌≤◌, Bool, true, false, cond, ◌&&◌, ◌||◌, eqb, leb, ltb, List, [], ◌∷◌, ◌++◌, length, take, drop, Option, Some, None, Ok, Err, Result, refl, ap, subst, ◌∙◌, arith}
use Rattle.std.specs.Prelude.{codes, IfSome}
use Rattle.std.specs.List.{cons_option}
use Rattle.std.specs.Option.{is_some, unwrap_or}
use Rattle.std.specs.Str.{bytes_eq}
use Rattle.std.specs.Str.Parse.{digits_value}
use Rattle.std.proofs.lemmas.Bool.{and_from, and_parts, false≢true, leb-false, leb-true, lt-ltb, ltb-false, not-false, or_parts}
use Rattle.fleet_base.specs.declared.numbers.CellNo.{CellNo}
use Rattle.fleet_model.specs.Lists.{first_some, when}
use Rattle.fleet_names.specs.declared.thing.Thing.{Thing}
use Rattle.fleet_names.specs.declared.thing.Thing.TheVariants as things
use Rattle.fleet_names.specs.Names.{AreDeclared, Named, count_of, thing_of}
use Rattle.fleet_names.specs.Things.{is_cell, is_crossing, number_of, same_kind}
use Rattle.fleet_names.proofs.Finding.{known_found}
use Rattle.site_lines.specs.declared.fault.Code.{Code}
use Rattle.site_lines.specs.declared.fault.Code.TheVariants.{S1, S2, S3, S4}
use Rattle.site_lines.specs.Lines.{is_too_long, without_return}
use Rattle.site_lines.specs.Words.{has_bad_byte, words_of}
use Rattle.site_lines.specs.Readings.{Row}
use Rattle.site_map.specs.Built.{BuiltSite, link_total, with_cell, with_crossing, with_flow}
use Rattle.site_map.specs.Cells.{are_known}
use Rattle.site_map.proofs.CellLemmas.{eqb_turned}
use Rattle.site_map.specs.Valid.{IsValidSite}
use Rattle.scenario_reader.specs.FleetLines.{end_line, end_rows, mission_line, robot_line, robot_rows}
use Rattle.scenario_reader.specs.Kept.{IsReached, IsSound}
use Rattle.scenario_reader.specs.Keywords.{keyword_of, other_word, site_word}
use Rattle.scenario_reader.specs.MissionLines.{again_line, done_line, done_rows, repeat_line, visit_line}
use Rattle.scenario_reader.specs.Reading.{closed, fleet_line, header_line, keyword_line, leg_line, site_line, step, when_fine, worded_line}
use Rattle.scenario_reader.specs.SiteLines.{has_link, are_cells, area_line, area_rows, as_cell, as_crossing, cell_at, cell_line, cell_named, cell_rows, cells_named, crossing_line, crossing_named, crossing_rows, ends_rows, flow_line, flow_rows, lane_line, lane_rows, link_line, link_rows, linked, new_set_rows, old_set_rows, with_cell_names, with_cells, with_name}
use Rattle.scenario_reader.specs.States.{Declared, Mission, State, AtHeader, AmongSite, AmongRobots, InMission, Ended, nothing_declared}
use Rattle.scenario_reader.specs.Tables.{judged, mapped, row, word, IsFine}
use Rattle.scenario_reader.proofs.Fines.{fines, judged_fine, mapped_ok}
use Rattle.scenario_reader.proofs.Lanes.{has_back}
use Rattle.scenario_reader.proofs.Links.{link_total-link}
use Rattle.scenario_reader.proofs.Naming.{cell_known}
use Rattle.scenario_reader.proofs.Steps.{step_reached}
use Rattle.scenario_laws.proofs.PartSites.{IsPart, area_part, cell_part, closed_part, crossing_part, flow_part, link_part, no_part}

-- cells that are all named are known
one_named : (names : Named) (o : Option Thing) (cs : List CellNo) (n m : ℕ) → count_of is_cell names ≡ n → IfSome o (λ t. number_of t < count_of (same_kind t) names) → is_some (as_cell o) ≡ true → are_known n cs ≡ true → length cs ≡ m
    → (are_known n (cons_option (as_cell o) cs) ≡ true) × (length (cons_option (as_cell o) cs) ≡ suc m)
one_named names None cs n m counted known is all long = absurd (false≢true is)
one_named names (Some (things.Cell k)) cs n m counted known is all long = (and_from (ltb k n) (are_known n cs) (lt-ltb k n (omega arith)) all, ap suc long)
one_named names (Some (things.Crossing k)) cs n m counted known is all long = absurd (false≢true is)
one_named names (Some (things.Area k)) cs n m counted known is all long = absurd (false≢true is)
one_named names (Some (things.Robot k)) cs n m counted known is all long = absurd (false≢true is)

named_known : (names : Named) (n : ℕ) (words : List (List ℕ)) → AreDeclared names → count_of is_cell names ≡ n → are_cells names words ≡ true → (are_known n (cells_named names words) ≡ true) × (length (cells_named names words) ≡ length words)
named_known names n [] declared counted all = (refl, refl)
named_known names n (name ∷ words) declared counted all =
    let parts = and_parts (is_some (cell_named names name)) (are_cells names words) all in
    let rest = named_known names n words declared counted parts.1 in
    one_named names (thing_of names name) (cells_named names words) n (length words) counted (known_found names name (thing_of names name) declared refl) parts.0 rest.0 rest.1

-- so is a crossing
crossing_known : (names : Named) (name : List ℕ) (m : ℕ) → AreDeclared names → count_of is_crossing names ≡ m → is_some (crossing_named names name) ≡ true → unwrap_or (crossing_named names name) 0 < m
crossing_known names name m declared counted is = go (thing_of names name) (known_found names name (thing_of names name) declared refl) is
  where
    go : (o : Option Thing) → IfSome o (λ t. number_of t < count_of (same_kind t) names) → is_some (as_crossing o) ≡ true → unwrap_or (as_crossing o) 0 < m
    go None known is = absurd (false≢true is)
    go (Some (things.Cell k)) known is = absurd (false≢true is)
    go (Some (things.Crossing k)) known is = omega arith
    go (Some (things.Area k)) known is = absurd (false≢true is)
    go (Some (things.Robot k)) known is = absurd (false≢true is)

length-behind : (words : List (List ℕ)) → 2 ≤ length words → 1 ≤ length (drop 1 words)
length-behind [] some = absurd (omega arith)
length-behind (w ∷ words) some = omega arith

-- two cells that are named are known
ends_known : (names : Named) (n : ℕ) (words : List (List ℕ)) → AreDeclared names → count_of is_cell names ≡ n → length words ≡ 3 → are_cells names (take 2 words) ≡ true → ((cell_at names (word words 0)).0 < n) × ((cell_at names (word words 1)).0 < n)
ends_known names n [] declared counted long are = absurd (omega arith)
ends_known names n (a ∷ []) declared counted long are = absurd (omega arith)
ends_known names n (a ∷ b ∷ []) declared counted long are = absurd (omega arith)
ends_known names n (a ∷ b ∷ c ∷ words) declared counted long are =
    let parts = and_parts (is_some (cell_named names a)) (is_some (cell_named names b) && true) are in
    let other = and_parts (is_some (cell_named names b)) true parts.1 in
    let first = cell_known names a declared parts.0 in
    let second = cell_known names b declared other.0 in
    (omega arith, omega arith)

-- each site line
module _ (d e : Declared) (words : List (List ℕ)) (sound : IsSound d) (part : IsPart d.site) where
  by_table : (rows : List Row) (new : Declared) → judged rows new ≡ Ok e → (IsFine rows → IsPart new.site) → IsPart e.site
  by_table rows new is next = let fine = judged_fine rows new e is in subst (λ (x : Declared). IsPart x.site) fine.1 (next fine.0)

  cells_part : (ws : List (List ℕ)) (site : BuiltSite) → IsPart site → site.cells + length ws ≤ 1024 → IsPart (with_cells site ws)
  cells_part [] site before room = before
  cells_part (w ∷ ws) site before room = cells_part ws (with_cell site) (cell_part site before (omega arith)) (omega arith)

  by_cells : cell_line d words ≡ Ok e → IsPart e.site
  by_cells is = by_table (cell_rows d words) (record d { site = with_cells d.site words; names = with_cell_names d.names words }) is
      (λ fine. let f = fines (cell_rows d words) fine in cells_part words d.site part (ltb-false 1024 (d.site.cells + length words) f.1.1.1.0))

  -- the cells behind the first word
  set_known : are_cells d.names (drop 1 words) ≡ true → 2 ≤ length words → (are_known d.site.cells (cells_named d.names (drop 1 words)) ≡ true) × (0 < length (cells_named d.names (drop 1 words)))
  set_known are some =
      let told = named_known d.names d.site.cells (drop 1 words) sound.declared sound.named.cells are in
      let behind = length-behind words some in
      let long = told.1 in
      (told.0, omega arith)

  by_crossing : crossing_line d words ≡ Ok e → IsPart e.site
  by_crossing is =
      let cs : List CellNo = cells_named d.names (drop 1 words) in
      by_table (new_set_rows d.names words ++ crossing_rows d.site cs) (record d { site = with_crossing d.site cs; names = with_name d.names (word words 0) (things.Crossing (count_of is_crossing d.names)) }) is
      (λ fine.
      let f = fines (new_set_rows d.names words ++ crossing_rows d.site cs) fine in
      let known = set_known (not-false (are_cells d.names (drop 1 words)) f.1.1.1.0) (ltb-false (length words) 2 f.0) in
      crossing_part d.site cs part known.0 known.1 f.1.1.1.1.1.0 f.1.1.1.1.1.1.0)

  by_area : area_line d words ≡ Ok e → IsPart e.site
  by_area is =
      let cs : List CellNo = cells_named d.names (drop 1 words) in
      by_table (new_set_rows d.names words ++ area_rows d.site cs) _ is
      (λ fine.
      let f = fines (new_set_rows d.names words ++ area_rows d.site cs) fine in
      let known = set_known (not-false (are_cells d.names (drop 1 words)) f.1.1.1.0) (ltb-false (length words) 2 f.0) in
      area_part d.site cs part known.0 known.1 f.1.1.1.1.1.0)

  by_flow : flow_line d words ≡ Ok e → IsPart e.site
  by_flow is =
      let k : ℕ = unwrap_or (crossing_named d.names (word words 0)) 0 in
      let cs : List CellNo = cells_named d.names (drop 1 words) in
      by_table (old_set_rows d.names words ++ flow_rows d.site k cs) (record d { site = with_flow d.site k cs }) is
      (λ fine.
      let f = fines (old_set_rows d.names words ++ flow_rows d.site k cs) fine in
      let named = and_parts (is_some (crossing_named d.names (word words 0))) (are_cells d.names (drop 1 words)) (not-false (is_some (crossing_named d.names (word words 0)) && are_cells d.names (drop 1 words)) f.1.1.0) in
      let known = set_known named.1 (ltb-false (length words) 2 f.0) in
      let within = crossing_known d.names (word words 0) (length d.site.crossings) sound.declared sound.named.crossings named.0 in
      flow_part d.site k cs part within known.0 known.1 f.1.1.1.1.0 f.1.1.1.1.1.0)

  -- two cells and a cost
  record AreEnds (a b : CellNo) (cost : ℕ) : Type 0 where
    from_known : a.0 < d.site.cells
    to_known : b.0 < d.site.cells
    some : 1 ≤ cost
    few : cost ≤ 1000000

  ends : (back : List Row) → IsFine (ends_rows d.names words ++ back) → AreEnds (cell_at d.names (word words 0)) (cell_at d.names (word words 1)) (digits_value 10 (word words 2))
  ends back fine =
      let f = fines (ends_rows d.names words ++ back) fine in
      let least = ltb-false (length words) 3 f.0 in
      let most = ltb-false 3 (length words) f.1.0 in
      let known = ends_known d.names d.site.cells words sound.declared sound.named.cells (omega arith) (not-false (are_cells d.names (take 2 words)) f.1.1.1.1.1.0) in
      let cost : ℕ = digits_value 10 (word words 2) in
      let range = and_parts (leb 1 cost) (leb cost 1000000) (not-false (leb 1 cost && leb cost 1000000) f.1.1.1.1.0) in
      record { from_known = known.0; to_known = known.1; some = leb-true 1 cost range.0; few = leb-true cost 1000000 range.1 }

  by_link : link_line d words ≡ Ok e → IsPart e.site
  by_link is =
      let a : CellNo = cell_at d.names (word words 0) in
      let b : CellNo = cell_at d.names (word words 1) in
      let cost : ℕ = digits_value 10 (word words 2) in
      by_table (ends_rows d.names words ++ link_rows d.site a b) (record d { site = linked d.site a b cost }) is
      (λ fine.
      let f = fines (ends_rows d.names words ++ link_rows d.site a b) fine in
      let known = ends (link_rows d.site a b) fine in
      let apart = or_parts (eqb a.0 b.0) (has_link d.site a b) f.1.1.1.1.1.1.1.0 in
      link_part d.site a (record { to = b; cost = cost }) part known.from_known known.to_known (leb-false 8192 (link_total d.site.links) f.1.1.1.1.1.1.0) (eqb_turned b.0 a.0 ∙ apart.0) known.some known.few apart.1)

  by_lane : lane_line d words ≡ Ok e → IsPart e.site
  by_lane is =
      let a : CellNo = cell_at d.names (word words 0) in
      let b : CellNo = cell_at d.names (word words 1) in
      let cost : ℕ = digits_value 10 (word words 2) in
      by_table (ends_rows d.names words ++ lane_rows d.site a b) (record d { site = linked (linked d.site a b cost) b a cost }) is
      (λ fine.
      let f = fines (ends_rows d.names words ++ lane_rows d.site a b) fine in
      let known = ends (lane_rows d.site a b) fine in
      let from_known = known.from_known in
      let room = ltb-false 8192 (link_total d.site.links + 2) f.1.1.1.1.1.1.0 in
      let apart = or_parts (eqb a.0 b.0) (has_link d.site a b || has_link d.site b a) f.1.1.1.1.1.1.1.0 in
      let free = or_parts (has_link d.site a b) (has_link d.site b a) apart.1 in
      let all = part.rows in
      let more = link_total-link d.site.links a.0 (record { to = b; cost = cost }) (omega arith) in
      link_part (linked d.site a b cost) b (record { to = a; cost = cost })
      (link_part d.site a (record { to = b; cost = cost }) part known.from_known known.to_known (omega arith) (eqb_turned b.0 a.0 ∙ apart.0) known.some known.few free.0)
      known.to_known known.from_known (omega arith) apart.0 known.some known.few (has_back d.site a b cost apart.0 ∙ free.1))

-- what a state keeps of its site: its parts are valid, and behind the site lines the whole
abbrev pub IsFit : State → Type 0
IsFit AtHeader = Unit {0}
IsFit (AmongSite flows d) = IsPart d.site
IsFit (AmongRobots d) = IsValidSite d.site
IsFit (InMission d m) = IsValidSite d.site
IsFit (Ended d) = IsValidSite d.site

-- the header
begun : (one two three : Bool) (t : State) → cond one (cond two (Ok (AmongSite false nothing_declared)) (cond three (Ok (AmongSite true nothing_declared)) (Err S3))) (Err S3) ≡ Ok t → IsFit t
begun false two three t is = absurd (cc)
begun true true three t is = let same : AmongSite false nothing_declared ≡ t = cc in subst IsFit same no_part
begun true false true t is = let same : AmongSite true nothing_declared ≡ t = cc in subst IsFit same no_part
begun true false false t is = absurd (cc)

by_header : (keyword : List ℕ) (words : List (List ℕ)) (t : State) → header_line keyword words ≡ Ok t → IsFit t
by_header keyword [] t is = absurd (cc)
by_header keyword (version ∷ []) t is = begun (bytes_eq keyword (codes "fleet")) (bytes_eq version (codes "1")) (bytes_eq version (codes "2")) t is
by_header keyword (version ∷ other ∷ more) t is = absurd (cc)

-- what holds of each keyword, and of none, holds of a word's
first_holds : {K : Type 0} (P : Option K → Type 0) (a b : Option K) → P a → P b → P None → P (first_some (a ∷ b ∷ []))
first_holds P None None pa pb none = none
first_holds P None (Some k) pa pb none = pb
first_holds P (Some k) b pa pb none = pa

more_hold : {K : Type 0} (P : Option K → Type 0) (b : Bool) (k : K) (os : List (Option K)) → P (Some k) → P (first_some os) → P (first_some (when b k ∷ os))
more_hold P true k os here rest = here
more_hold P false k os here rest = rest

six_hold : {K : Type 0} (P : Option K → Type 0) (a b c d e f : Bool) (ka kb kc kd ke kf : K) → P (Some ka) → P (Some kb) → P (Some kc) → P (Some kd) → P (Some ke) → P (Some kf) → P None
    → P (first_some (when a ka ∷ when b kb ∷ when c kc ∷ when d kd ∷ when e ke ∷ when f kf ∷ []))
six_hold P a b c d e f ka kb kc kd ke kf pa pb pc pd pe pf none =
    more_hold P a ka (when b kb ∷ when c kc ∷ when d kd ∷ when e ke ∷ when f kf ∷ []) pa
    (more_hold P b kb (when c kc ∷ when d kd ∷ when e ke ∷ when f kf ∷ []) pb
    (more_hold P c kc (when d kd ∷ when e ke ∷ when f kf ∷ []) pc
    (more_hold P d kd (when e ke ∷ when f kf ∷ []) pd
    (more_hold P e ke (when f kf ∷ []) pe
    (more_hold P f kf [] pf none)))))

keyword_holds : (word : List ℕ) (P : _ → Type 0) → P (keyword_of (codes "cell")) → P (keyword_of (codes "crossing")) → P (keyword_of (codes "area")) → P (keyword_of (codes "flow")) → P (keyword_of (codes "link")) → P (keyword_of (codes "lane")) → P (keyword_of (codes "robot"))
    → P (keyword_of (codes "mission")) → P (keyword_of (codes "visit")) → P (keyword_of (codes "repeat")) → P (keyword_of (codes "again")) → P (keyword_of (codes "done")) → P (keyword_of (codes "end")) → P (keyword_of []) → P (keyword_of word)
keyword_holds word P cell crossing area flow link lane robot mission visit repeat again done end none =
    first_holds P (site_word word) (other_word word)
    (six_hold P (bytes_eq word (codes "cell")) (bytes_eq word (codes "crossing")) (bytes_eq word (codes "area")) (bytes_eq word (codes "flow")) (bytes_eq word (codes "link")) (bytes_eq word (codes "lane")) _ _ _ _ _ _ cell crossing area flow link lane none)
    (more_hold P (bytes_eq word (codes "robot")) _ _ robot
    (six_hold P (bytes_eq word (codes "mission")) (bytes_eq word (codes "visit")) (bytes_eq word (codes "repeat")) (bytes_eq word (codes "again")) (bytes_eq word (codes "done")) (bytes_eq word (codes "end")) _ _ _ _ _ _ mission visit repeat again done end none))
    none

-- each line behind the site leaves it as it is
none_fit : (t : State) → (let r : Result State Code = Err S4 in r ≡ Ok t) → IsFit t
none_fit t is = absurd (cc)

robot_fit : (d : Declared) (words : List (List ℕ)) (t : State) → IsValidSite d.site → mapped AmongRobots (robot_line d words) ≡ Ok t → IsFit t
robot_fit d words t valid is =
    let from = mapped_ok AmongRobots (robot_line d words) t is in
    let fine = judged_fine (robot_rows d words) _ from.0 from.1 in
    subst IsFit from.2 (subst (λ (x : Declared). IsValidSite x.site) fine.1 valid)

mission_fit : (d : Declared) (r : Result Mission Code) (t : State) → IsValidSite d.site → mapped (InMission d) r ≡ Ok t → IsFit t
mission_fit d r t valid is = let from = mapped_ok (InMission d) r t is in subst IsFit from.2 valid

end_fit : (d : Declared) (words : List (List ℕ)) (t : State) → IsValidSite d.site → mapped Ended (end_line d words) ≡ Ok t → IsFit t
end_fit d words t valid is =
    let from = mapped_ok Ended (end_line d words) t is in
    let fine = judged_fine (end_rows d words) d from.0 from.1 in
    subst IsFit from.2 (subst (λ (x : Declared). IsValidSite x.site) fine.1 valid)

done_fit : (d : Declared) (m : Mission) (words : List (List ℕ)) (t : State) → IsValidSite d.site → mapped AmongRobots (done_line d m words) ≡ Ok t → IsFit t
done_fit d m words t valid is =
    let from = mapped_ok AmongRobots (done_line d m words) t is in
    let fine = judged_fine (done_rows m words) _ from.0 from.1 in
    subst IsFit from.2 (subst (λ (x : Declared). IsValidSite x.site) fine.1 valid)

by_fleet : (d : Declared) (keyword : List ℕ) (words : List (List ℕ)) (t : State) → IsValidSite d.site → fleet_line d (keyword_of keyword) words ≡ Ok t → IsFit t
by_fleet d keyword words t valid =
    keyword_holds keyword (λ key. fleet_line d key words ≡ Ok t → IsFit t) (none_fit t) (none_fit t) (none_fit t) (none_fit t) (none_fit t) (none_fit t)
    (robot_fit d words t valid) (mission_fit d (mission_line d words) t valid) (none_fit t) (none_fit t) (none_fit t) (none_fit t) (end_fit d words t valid) (none_fit t)

site_fit : (may flows : Bool) (r : Result Declared Code) (t : State) → ((e : Declared) → r ≡ Ok e → IsPart e.site) → cond may (mapped (AmongSite flows) r) (Err S4) ≡ Ok t → IsFit t
site_fit true flows r t part is = let from = mapped_ok (AmongSite flows) r t is in subst IsFit from.2 (part from.0 from.1)
site_fit false flows r t part is = absurd (cc)

by_site : (flows : Bool) (d : Declared) (keyword : List ℕ) (words : List (List ℕ)) (t : State) → IsSound d → IsPart d.site → site_line flows d (keyword_of keyword) words ≡ Ok t → IsFit t
by_site flows d keyword words t sound part =
    let valid = closed_part d.site part in
    keyword_holds keyword (λ key. site_line flows d key words ≡ Ok t → IsFit t)
    (site_fit (flows || true) flows (cell_line d words) t (λ e. by_cells d e words sound part))
    (site_fit (flows || true) flows (crossing_line d words) t (λ e. by_crossing d e words sound part))
    (site_fit (flows || true) flows (area_line d words) t (λ e. by_area d e words sound part))
    (site_fit (flows || false) flows (flow_line d words) t (λ e. by_flow d e words sound part))
    (site_fit (flows || true) flows (link_line d words) t (λ e. by_link d e words sound part))
    (site_fit (flows || true) flows (lane_line d words) t (λ e. by_lane d e words sound part))
    (robot_fit (closed d) words t valid) (mission_fit (closed d) (mission_line (closed d) words) t valid) (none_fit t) (none_fit t) (none_fit t) (none_fit t) (end_fit (closed d) words t valid) (none_fit t)

by_leg : (d : Declared) (m : Mission) (keyword : List ℕ) (words : List (List ℕ)) (t : State) → IsValidSite d.site → leg_line d m (keyword_of keyword) words ≡ Ok t → IsFit t
by_leg d m keyword words t valid =
    keyword_holds keyword (λ key. leg_line d m key words ≡ Ok t → IsFit t) (none_fit t) (none_fit t) (none_fit t) (none_fit t) (none_fit t) (none_fit t) (none_fit t) (none_fit t)
    (mission_fit d (visit_line d.names m words) t valid) (mission_fit d (repeat_line m words) t valid) (mission_fit d (again_line m words) t valid) (done_fit d m words t valid) (none_fit t) (none_fit t)

-- each accepted line
by_keyword : (s : State) (keyword : List ℕ) (words : List (List ℕ)) (t : State) → IsReached s → IsFit s → keyword_line s keyword words ≡ Ok t → IsFit t
by_keyword AtHeader keyword words t reached fit is = by_header keyword words t is
by_keyword (AmongSite flows d) keyword words t reached fit is = by_site flows d keyword words t reached.0 fit is
by_keyword (AmongRobots d) keyword words t reached fit is = by_fleet d keyword words t fit is
by_keyword (InMission d m) keyword words t reached fit is = by_leg d m keyword words t fit is
by_keyword (Ended d) keyword words t reached fit is = absurd (cc)

by_words : (s : State) (words : List (List ℕ)) (t : State) → IsReached s → IsFit s → worded_line s words ≡ Ok t → IsFit t
by_words s [] t reached fit is = let same : s ≡ t = cc in subst IsFit same fit
by_words s (keyword ∷ words) t reached fit is = by_keyword s keyword words t reached fit is

if_fine : (fine : Result Bool Code) (s : State) (words : List (List ℕ)) (t : State) → IsReached s → IsFit s → when_fine fine (worded_line s words) ≡ Ok t → IsFit t
if_fine (Ok b) s words t reached fit is = by_words s words t reached fit is
if_fine (Err code) s words t reached fit is = absurd (cc)

-- What a state keeps of its site, each accepted line keeps.
pub step_fit : (s t : State) (raw : List ℕ) → IsReached s × IsFit s → step s raw ≡ Ok t → IsReached t × IsFit t
step_fit s t raw kept is =
    let line : List ℕ = without_return raw in
    (step_reached s t raw kept.0 is, if_fine (judged (row (is_too_long line) S1 ∷ row (has_bad_byte line) S2 ∷ []) true) s (words_of line) t kept.0 kept.1 is)
