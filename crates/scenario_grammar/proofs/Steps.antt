-- What a line with words makes of a state, by the grammar.
use Rattle.std.proofs.Common.{◌≡◌, ℕ, ◌+◌, ◌*◌, ◌<◌, ◌≤◌, Bool, true, false, cond, List, [], ◌∷◌, ◌++◌, codes, length, get_or, set, Some, None, Ok, Err, refl, sym, ap, subst, ◌∙◌, arith, length-append, Result}
use Rattle.std.specs.Str.{bytes_eq}
use Rattle.std.proofs.lemmas.Slice.Eq.{bytes_eq-Decides}
use Rattle.fleet_base.specs.declared.numbers.CellNo.{CellNo}
use Rattle.fleet_names.specs.declared.thing.Thing.TheVariants as things
use Rattle.site_lines.specs.declared.fault.Code.TheVariants.{S3}
use Rattle.site_lines.specs.declared.fault.Code.{Code}
use Rattle.site_map.specs.declared.goal.Goal.{Goal}
use Rattle.scenario_reader.specs.FleetLines.{end_line, mission_line, robot_line}
use Rattle.scenario_reader.specs.Keywords.{keyword_of}
use Rattle.scenario_reader.specs.MissionLines.{again_line, done_line, opened, repeated, repeat_line, visit_line}
use Rattle.scenario_reader.specs.Reading.{closed, fleet_line, header_line, leg_line, site_line}
use Rattle.scenario_reader.specs.SiteLines.{area_line, cell_line, crossing_line, flow_line, lane_line, link_line}
use Rattle.scenario_reader.specs.States.{Block, Declared, Mission, State, AmongSite, AmongRobots, InMission, Ended, nothing_declared}
use Rattle.scenario_reader.specs.Tables.{mapped}
use Rattle.scenario_reader.proofs.Fines.{mapped_ok}
use Rattle.scenario_grammar.specs.Grammar.{Denotes, Header, IsNumber, IsRobot, Line, SiteLine, Word, goal_thing, with_named_robot}
use Rattle.scenario_grammar.proofs.FleetKinds.{again_alone, again_read, done_read, end_read, mission_read, opening, out_of, repeat_read, robot_read, visit_read}
use Rattle.scenario_grammar.proofs.Keywords.{Kind, kind_of}
use Rattle.scenario_grammar.proofs.LinkKinds.{lane_read, link_read}
use Rattle.scenario_grammar.proofs.SiteKinds.{area_read, cell_read, crossing_read, flow_read}

-- a header line is read
pub data HeaderStep : Line → State → Type 0 where
  HeadedStep : {flows : Bool} {line : Line} → Header flows line → HeaderStep line (AmongSite flows nothing_declared)

is_word : (word : Word) (text : List ℕ) → bytes_eq word text ≡ true → word ≡ text
is_word word text is = (bytes_eq-Decides word text).0 is

begins : (keyword version : Word) (t : State) (fleet one two : Bool) → (fleet ≡ true → keyword ≡ codes "fleet") → (one ≡ true → version ≡ codes "1") → (two ≡ true → version ≡ codes "2")
    → cond fleet (cond one (Ok (AmongSite false nothing_declared)) (cond two (Ok (AmongSite true nothing_declared)) (Err S3))) (Err S3) ≡ Ok t → HeaderStep (keyword ∷ version ∷ []) t
begins keyword version t false one two k v w is = absurd (cc)
begins keyword version t true true two k v w is =
    let same : AmongSite false nothing_declared ≡ t = cc in
    let line : codes "fleet" ∷ codes "1" ∷ [] ≡ keyword ∷ version ∷ [] = ap (λ (x : Word). x ∷ codes "1" ∷ []) (sym (k refl)) ∙ ap (λ (x : Word). keyword ∷ x ∷ []) (sym (v refl)) in
    subst (HeaderStep (keyword ∷ version ∷ [])) same (subst (λ (l : Line). HeaderStep l (AmongSite false nothing_declared)) line (HeaderStep.HeadedStep Header.One))
begins keyword version t true false true k v w is =
    let same : AmongSite true nothing_declared ≡ t = cc in
    let line : codes "fleet" ∷ codes "2" ∷ [] ≡ keyword ∷ version ∷ [] = ap (λ (x : Word). x ∷ codes "2" ∷ []) (sym (k refl)) ∙ ap (λ (x : Word). keyword ∷ x ∷ []) (sym (w refl)) in
    subst (HeaderStep (keyword ∷ version ∷ [])) same (subst (λ (l : Line). HeaderStep l (AmongSite true nothing_declared)) line (HeaderStep.HeadedStep Header.Two))
begins keyword version t true false false k v w is = absurd (cc)

pub header_step : (keyword : Word) (words : List Word) (t : State) → header_line keyword words ≡ Ok t → HeaderStep (keyword ∷ words) t
header_step keyword [] t is = absurd (cc)
header_step keyword (version ∷ other ∷ more) t is = absurd (cc)
header_step keyword (version ∷ []) t is =
    begins keyword version t (bytes_eq keyword (codes "fleet")) (bytes_eq version (codes "1")) (bytes_eq version (codes "2")) (is_word keyword (codes "fleet")) (is_word version (codes "1")) (is_word version (codes "2")) is

-- a line among robots and missions is read
pub data FleetStep (d : Declared) : Line → State → Type 0 where
  RobotStep : {name start : Word} {cell : CellNo} → IsRobot d name start cell → FleetStep d (codes "robot" ∷ name ∷ start ∷ []) (AmongRobots (with_named_robot d name cell))
  MissionStep : {name : Word} {robot : ℕ} → Denotes d.names name (things.Robot robot) → get_or d.missions robot None ≡ None → FleetStep d (codes "mission" ∷ name ∷ []) (InMission d (opening robot))
  EndStep : 1 ≤ length d.starts → FleetStep d (codes "end" ∷ []) (Ended d)

by_robot : (d : Declared) (words : List Word) (t : State) → mapped AmongRobots (robot_line d words) ≡ Ok t → FleetStep d (codes "robot" ∷ words) t
by_robot d words t is =
    let made = mapped_ok AmongRobots (robot_line d words) t is in
    let read = robot_read d made.0 words made.1 in
    subst (FleetStep d (codes "robot" ∷ words)) (ap AmongRobots read.declared ∙ made.2)
    (subst (λ (ws : List Word). FleetStep d (codes "robot" ∷ ws) (AmongRobots (with_named_robot d read.name read.cell))) (sym read.words_are) (FleetStep.RobotStep read.is))

by_mission : (d : Declared) (words : List Word) (t : State) → mapped (InMission d) (mission_line d words) ≡ Ok t → FleetStep d (codes "mission" ∷ words) t
by_mission d words t is =
    let made = mapped_ok (InMission d) (mission_line d words) t is in
    let read = mission_read d made.0 words made.1 in
    subst (FleetStep d (codes "mission" ∷ words)) (ap (InMission d) read.opened ∙ made.2)
    (subst (λ (ws : List Word). FleetStep d (codes "mission" ∷ ws) (InMission d (opening read.robot))) (sym read.words_are) (FleetStep.MissionStep read.denotes read.first))

by_end : (d : Declared) (words : List Word) (t : State) → mapped Ended (end_line d words) ≡ Ok t → FleetStep d (codes "end" ∷ words) t
by_end d words t is =
    let made = mapped_ok Ended (end_line d words) t is in
    let read = end_read d made.0 words made.1 in
    subst (FleetStep d (codes "end" ∷ words)) (ap Ended read.same ∙ made.2)
    (subst (λ (ws : List Word). FleetStep d (codes "end" ∷ ws) (Ended d)) (sym read.words_are) (FleetStep.EndStep (subst (λ (x : Declared). 1 ≤ length x.starts) (sym read.same) read.some)))

fleet_by : (d : Declared) (keyword : Word) (words : List Word) (t : State) → Kind keyword → fleet_line d (keyword_of keyword) words ≡ Ok t → FleetStep d (keyword ∷ words) t
fleet_by d keyword words t Kind.CellWord is = absurd (cc)
fleet_by d keyword words t Kind.CrossingWord is = absurd (cc)
fleet_by d keyword words t Kind.AreaWord is = absurd (cc)
fleet_by d keyword words t Kind.FlowWord is = absurd (cc)
fleet_by d keyword words t Kind.LinkWord is = absurd (cc)
fleet_by d keyword words t Kind.LaneWord is = absurd (cc)
fleet_by d keyword words t Kind.RobotWord is = by_robot d words t is
fleet_by d keyword words t Kind.MissionWord is = by_mission d words t is
fleet_by d keyword words t Kind.VisitWord is = absurd (cc)
fleet_by d keyword words t Kind.RepeatWord is = absurd (cc)
fleet_by d keyword words t Kind.AgainWord is = absurd (cc)
fleet_by d keyword words t Kind.DoneWord is = absurd (cc)
fleet_by d keyword words t Kind.EndWord is = by_end d words t is
fleet_by d keyword words t (Kind.OtherWord none) is = let none_given = rw none at is in absurd (cc)

pub fleet_step : (d : Declared) (keyword : Word) (words : List Word) (t : State) → fleet_line d (keyword_of keyword) words ≡ Ok t → FleetStep d (keyword ∷ words) t
fleet_step d keyword words t is = fleet_by d keyword words t (kind_of keyword) is

-- a line among site lines is read: a site line, or the first of the others
pub data SiteStep (flows : Bool) (d : Declared) : Line → State → Type 0 where
  SiteLineStep : {line : Line} {e : Declared} → SiteLine flows d line e → SiteStep flows d line (AmongSite flows e)
  FleetLineStep : {line : Line} {t : State} → FleetStep (closed d) line t → SiteStep flows d line t

declared : (flows : Bool) (d : Declared) (t : State) (keyword : Word) (words : List Word) (r : Result Declared Code) → ((e : Declared) → r ≡ Ok e → SiteLine flows d (keyword ∷ words) e) → mapped (AmongSite flows) r ≡ Ok t → SiteStep flows d (keyword ∷ words) t
declared flows d t keyword words r line is =
    let made = mapped_ok (AmongSite flows) r t is in
    subst (SiteStep flows d (keyword ∷ words)) made.2 (SiteStep.SiteLineStep (line made.0 made.1))

site_by : (flows : Bool) (d : Declared) (keyword : Word) (words : List Word) (t : State) → Kind keyword → site_line flows d (keyword_of keyword) words ≡ Ok t → SiteStep flows d (keyword ∷ words) t
site_by true d keyword words t Kind.CellWord is = declared true d t (codes "cell") words (cell_line d words) (λ e made. cell_read true d e words made) is
site_by false d keyword words t Kind.CellWord is = declared false d t (codes "cell") words (cell_line d words) (λ e made. cell_read false d e words made) is
site_by true d keyword words t Kind.CrossingWord is = declared true d t (codes "crossing") words (crossing_line d words) (λ e made. crossing_read true d e words made) is
site_by false d keyword words t Kind.CrossingWord is = declared false d t (codes "crossing") words (crossing_line d words) (λ e made. crossing_read false d e words made) is
site_by true d keyword words t Kind.AreaWord is = declared true d t (codes "area") words (area_line d words) (λ e made. area_read true d e words made) is
site_by false d keyword words t Kind.AreaWord is = declared false d t (codes "area") words (area_line d words) (λ e made. area_read false d e words made) is
site_by true d keyword words t Kind.FlowWord is = declared true d t (codes "flow") words (flow_line d words) (λ e made. flow_read true d e words refl made) is
site_by false d keyword words t Kind.FlowWord is = absurd (cc)
site_by true d keyword words t Kind.LinkWord is = declared true d t (codes "link") words (link_line d words) (λ e made. link_read true d e words made) is
site_by false d keyword words t Kind.LinkWord is = declared false d t (codes "link") words (link_line d words) (λ e made. link_read false d e words made) is
site_by true d keyword words t Kind.LaneWord is = declared true d t (codes "lane") words (lane_line d words) (λ e made. lane_read true d e words made) is
site_by false d keyword words t Kind.LaneWord is = declared false d t (codes "lane") words (lane_line d words) (λ e made. lane_read false d e words made) is
site_by flows d keyword words t Kind.RobotWord is = SiteStep.FleetLineStep (fleet_step (closed d) (codes "robot") words t is)
site_by flows d keyword words t Kind.MissionWord is = SiteStep.FleetLineStep (fleet_step (closed d) (codes "mission") words t is)
site_by flows d keyword words t Kind.VisitWord is = absurd (cc)
site_by flows d keyword words t Kind.RepeatWord is = absurd (cc)
site_by flows d keyword words t Kind.AgainWord is = absurd (cc)
site_by flows d keyword words t Kind.DoneWord is = absurd (cc)
site_by flows d keyword words t Kind.EndWord is = SiteStep.FleetLineStep (fleet_step (closed d) (codes "end") words t is)
site_by flows d keyword words t (Kind.OtherWord none) is = let none_given = rw none at is in absurd (cc)

pub site_step : (flows : Bool) (d : Declared) (keyword : Word) (words : List Word) (t : State) → site_line flows d (keyword_of keyword) words ≡ Ok t → SiteStep flows d (keyword ∷ words) t
site_step flows d keyword words t is = site_by flows d keyword words t (kind_of keyword) is

-- open blocks, the innermost first
abbrev pub stacked : List Block → List Block
stacked [] = []
stacked (b ∷ bs) = stacked bs ++ b ∷ []

-- a mission with these blocks open
abbrev pub mission_in : ℕ → List Goal → List Block → Mission
mission_in robot gs stack = record { robot = robot; legs = gs; blocks = stacked stack }

-- a line in a mission is read
pub data LegStep (d : Declared) (robot : ℕ) : List Goal → List Block → Line → State → Type 0 where
  VisitStep : {gs : List Goal} {stack : List Block} {word : Word} (goal : Goal) → Denotes d.names word (goal_thing goal) → length gs + 1 ≤ 64
      → LegStep d robot gs stack (codes "visit" ∷ word ∷ []) (InMission d (mission_in robot (gs ++ goal ∷ []) stack))
  RepeatStep : {gs : List Goal} {stack : List Block} {word : Word} {n : ℕ} → IsNumber 1 64 word n → length (stacked stack) < 4
      → LegStep d robot gs stack (codes "repeat" ∷ word ∷ []) (InMission d (mission_in robot [] (opened n gs ∷ stack)))
  AgainStep : {gs : List Goal} {b : Block} {around : List Block} → length b.before + b.times * length gs ≤ 64
      → LegStep d robot gs (b ∷ around) (codes "again" ∷ []) (InMission d (mission_in robot (b.before ++ repeated b.times gs) around))
  DoneStep : {gs : List Goal} → LegStep d robot gs [] (codes "done" ∷ []) (AmongRobots (record d { missions = set d.missions robot (Some gs) }))

by_visit : (d : Declared) (robot : ℕ) (gs : List Goal) (stack : List Block) (words : List Word) (t : State) → mapped (InMission d) (visit_line d.names (mission_in robot gs stack) words) ≡ Ok t → LegStep d robot gs stack (codes "visit" ∷ words) t
by_visit d robot gs stack words t is =
    let m : Mission = mission_in robot gs stack in
    let made = mapped_ok (InMission d) (visit_line d.names m words) t is in
    let read = visit_read d.names m made.0 words made.1 in
    subst (LegStep d robot gs stack (codes "visit" ∷ words)) (ap (InMission d) read.added ∙ made.2)
    (subst (λ (ws : List Word). LegStep d robot gs stack (codes "visit" ∷ ws) (InMission d (mission_in robot (gs ++ read.goal ∷ []) stack))) (sym read.words_are) (LegStep.VisitStep read.goal read.denotes read.few))

by_repeat : (d : Declared) (robot : ℕ) (gs : List Goal) (stack : List Block) (words : List Word) (t : State) → mapped (InMission d) (repeat_line (mission_in robot gs stack) words) ≡ Ok t → LegStep d robot gs stack (codes "repeat" ∷ words) t
by_repeat d robot gs stack words t is =
    let m : Mission = mission_in robot gs stack in
    let made = mapped_ok (InMission d) (repeat_line m words) t is in
    let read = repeat_read m made.0 words made.1 in
    subst (LegStep d robot gs stack (codes "repeat" ∷ words)) (ap (InMission d) read.opened ∙ made.2)
    (subst (λ (ws : List Word). LegStep d robot gs stack (codes "repeat" ∷ ws) (InMission d (mission_in robot [] (opened read.number gs ∷ stack)))) (sym read.words_are) (LegStep.RepeatStep read.says read.shallow))

by_again : (d : Declared) (robot : ℕ) (gs : List Goal) (stack : List Block) (words : List Word) (t : State) → mapped (InMission d) (again_line (mission_in robot gs stack) words) ≡ Ok t → LegStep d robot gs stack (codes "again" ∷ words) t
by_again d robot gs [] words t is =
    let made = mapped_ok (InMission d) (again_line (mission_in robot gs []) words) t is in
    absurd (again_alone robot gs made.0 words made.1)
by_again d robot gs (b ∷ around) words t is =
    let made = mapped_ok (InMission d) (again_line (mission_in robot gs (b ∷ around)) words) t is in
    let read = again_read robot gs (stacked around) b made.0 words made.1 in
    subst (LegStep d robot gs (b ∷ around) (codes "again" ∷ words)) (ap (InMission d) read.closed ∙ made.2)
    (subst (λ (ws : List Word). LegStep d robot gs (b ∷ around) (codes "again" ∷ ws) (InMission d (out_of robot gs (stacked around) b))) (sym read.words_are) (LegStep.AgainStep read.few))

by_done : (d : Declared) (robot : ℕ) (gs : List Goal) (stack : List Block) (words : List Word) (t : State) → mapped AmongRobots (done_line d (mission_in robot gs stack) words) ≡ Ok t → LegStep d robot gs stack (codes "done" ∷ words) t
by_done d robot gs [] words t is =
    let made = mapped_ok AmongRobots (done_line d (mission_in robot gs []) words) t is in
    let read = done_read d made.0 (mission_in robot gs []) words made.1 in
    subst (LegStep d robot gs [] (codes "done" ∷ words)) (ap AmongRobots read.declared ∙ made.2)
    (subst (λ (ws : List Word). LegStep d robot gs [] (codes "done" ∷ ws) (AmongRobots (record d { missions = set d.missions robot (Some gs) }))) (sym read.words_are) LegStep.DoneStep)
by_done d robot gs (b ∷ around) words t is =
    let made = mapped_ok AmongRobots (done_line d (mission_in robot gs (b ∷ around)) words) t is in
    let read = done_read d made.0 (mission_in robot gs (b ∷ around)) words made.1 in
    absurd (omega (arith, read.none_open, length-append (stacked around) (b ∷ [])))

leg_by : (d : Declared) (robot : ℕ) (gs : List Goal) (stack : List Block) (keyword : Word) (words : List Word) (t : State) → Kind keyword → leg_line d (mission_in robot gs stack) (keyword_of keyword) words ≡ Ok t
    → LegStep d robot gs stack (keyword ∷ words) t
leg_by d robot gs stack keyword words t Kind.CellWord is = absurd (cc)
leg_by d robot gs stack keyword words t Kind.CrossingWord is = absurd (cc)
leg_by d robot gs stack keyword words t Kind.AreaWord is = absurd (cc)
leg_by d robot gs stack keyword words t Kind.FlowWord is = absurd (cc)
leg_by d robot gs stack keyword words t Kind.LinkWord is = absurd (cc)
leg_by d robot gs stack keyword words t Kind.LaneWord is = absurd (cc)
leg_by d robot gs stack keyword words t Kind.RobotWord is = absurd (cc)
leg_by d robot gs stack keyword words t Kind.MissionWord is = absurd (cc)
leg_by d robot gs stack keyword words t Kind.VisitWord is = by_visit d robot gs stack words t is
leg_by d robot gs stack keyword words t Kind.RepeatWord is = by_repeat d robot gs stack words t is
leg_by d robot gs stack keyword words t Kind.AgainWord is = by_again d robot gs stack words t is
leg_by d robot gs stack keyword words t Kind.DoneWord is = by_done d robot gs stack words t is
leg_by d robot gs stack keyword words t Kind.EndWord is = absurd (cc)
leg_by d robot gs stack keyword words t (Kind.OtherWord none) is = let none_given = rw none at is in absurd (cc)

pub leg_step : (d : Declared) (robot : ℕ) (gs : List Goal) (stack : List Block) (keyword : Word) (words : List Word) (t : State) → leg_line d (mission_in robot gs stack) (keyword_of keyword) words ≡ Ok t → LegStep d robot gs stack (keyword ∷ words) t
leg_step d robot gs stack keyword words t is = leg_by d robot gs stack keyword words t (kind_of keyword) is
