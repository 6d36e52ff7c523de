-- Lines of the grammar are read to the end.
use Rattle.std.proofs.Common.{◌≡◌, ℕ, zero, suc, ◌+◌, ◌*◌, ◌≤◌, Bool, true, false, List, [], ◌∷◌, ◌++◌, codes, length, set, Some, Ok, refl, sym, ap, ◌∙◌, arith, append_assoc, length-append, suc-mul, zero-mul}
use Rattle.std.proofs.lemmas.Bool.{false≢true}
use Rattle.std.proofs.lemmas.List.{append-nil}
use Rattle.std.proofs.lemmas.Nat.{mul-le}
use Rattle.site_lines.specs.Readings.{next_state}
use Rattle.site_map.specs.declared.goal.Goal.{Goal}
use Rattle.scenario_reader.specs.MissionLines.{opened, repeated}
use Rattle.scenario_reader.specs.Reading.{closed, worded_line}
use Rattle.scenario_reader.specs.States.{Block, Declared, State, AtHeader, AmongSite, AmongRobots, InMission, Ended, nothing_declared}
use Rattle.scenario_reader.specs.Tables.{mapped}
use Rattle.scenario_grammar.specs.Grammar.{FleetLines, Header, Legs, Line, SiteLine, SiteLines, times, with_named_robot}
use Rattle.scenario_grammar.proofs.FleetKinds.{again_taken, end_taken, mission_taken, repeat_taken, robot_taken, same_times, visit_taken}
use Rattle.scenario_grammar.proofs.LinkKinds.{lane_taken, link_taken}
use Rattle.scenario_grammar.proofs.Parse.{end_line_words, run}
use Rattle.scenario_grammar.proofs.SiteKinds.{area_taken, cell_taken, crossing_taken, flow_taken}

-- a site line
site_taken : (flows : Bool) (d e : Declared) (line : Line) → SiteLine flows d line e → worded_line (AmongSite flows d) line ≡ Ok (AmongSite flows e)
site_taken true d e line (SiteLine.Cells {name} {names} is) = ap (mapped (AmongSite true)) (cell_taken d e name names is)
site_taken false d e line (SiteLine.Cells {name} {names} is) = ap (mapped (AmongSite false)) (cell_taken d e name names is)
site_taken true d e line (SiteLine.Crossing {name} {words} {cells} is) = ap (mapped (AmongSite true)) (crossing_taken d name words cells is)
site_taken false d e line (SiteLine.Crossing {name} {words} {cells} is) = ap (mapped (AmongSite false)) (crossing_taken d name words cells is)
site_taken true d e line (SiteLine.Area {name} {words} {cells} is) = ap (mapped (AmongSite true)) (area_taken d name words cells is)
site_taken false d e line (SiteLine.Area {name} {words} {cells} is) = ap (mapped (AmongSite false)) (area_taken d name words cells is)
site_taken true d e line (SiteLine.Flow {name} {words} {k} {cells} second is) = ap (mapped (AmongSite true)) (flow_taken d name words k cells is)
site_taken false d e line (SiteLine.Flow {name} {words} {k} {cells} second is) = absurd (false≢true second)
site_taken true d e line (SiteLine.Link {from} {to} {cost} {a} {b} {n} is) = ap (mapped (AmongSite true)) (link_taken d from to cost a b n is)
site_taken false d e line (SiteLine.Link {from} {to} {cost} {a} {b} {n} is) = ap (mapped (AmongSite false)) (link_taken d from to cost a b n is)
site_taken true d e line (SiteLine.Lane {from} {to} {cost} {a} {b} {n} is) = ap (mapped (AmongSite true)) (lane_taken d from to cost a b n is)
site_taken false d e line (SiteLine.Lane {from} {to} {cost} {a} {b} {n} is) = ap (mapped (AmongSite false)) (lane_taken d from to cost a b n is)

site_run : (flows : Bool) (d e : Declared) (lines : List Line) → SiteLines flows d lines e → (rest : List Line) → run (AmongSite flows d) (lines ++ rest) ≡ run (AmongSite flows e) rest
site_run flows d e lines SiteLines.NoMore rest = refl
site_run flows d e lines (SiteLines.More {e = m} {line = line} {lines = more} is later) rest = ap (λ r. next_state r (λ t. run t (more ++ rest))) (site_taken flows d m line is) ∙ site_run flows m e more later rest

-- one block's legs are at most those of all its times
few_inside : (n k : ℕ) → 1 ≤ n → k ≤ n * k
few_inside n k some = let all = mul-le 1 k n k some (omega arith) in let one = suc-mul 0 k in let none = zero-mul k in omega (arith, all, one, none)

length-times : (n : ℕ) (gs : List Goal) → length (times n gs) ≡ n * length gs
length-times zero gs = omega (arith, zero-mul (length gs))
length-times (suc n) gs = length-append gs (times n gs) ∙ ap (λ k. length gs + k) (length-times n gs) ∙ omega (arith, suc-mul n (length gs))

abbrev pub in_mission : Declared → ℕ → List Goal → List Block → State
in_mission d robot gs blocks = InMission d (record { robot = robot; legs = gs; blocks = blocks })

-- the lines in a mission add their legs to it
legs_run : (d : Declared) (robot deep : ℕ) (lines : List Line) (more : List Goal) → Legs d.names deep lines more → (gs : List Goal) (blocks : List Block) (rest : List Line) → deep + length blocks ≤ 4 → length gs + length more ≤ 64
    → run (in_mission d robot gs blocks) (lines ++ rest) ≡ run (in_mission d robot (gs ++ more) blocks) rest
legs_run d robot deep lines more Legs.NoMore gs blocks rest shallow few = ap (λ (x : List Goal). run (in_mission d robot x blocks) rest) (sym (append-nil gs))
legs_run d robot deep lines more (Legs.Visit {word = word} {goal = goal} {lines = behind} {legs = others} denotes later) gs blocks rest shallow few =
    let longer : length (gs ++ goal ∷ []) ≡ length gs + 1 = length-append gs (goal ∷ []) in
    let count : length (goal ∷ others) ≡ length others + 1 = omega arith in
    ap (λ r. next_state (mapped (InMission d) r) (λ t. run t (behind ++ rest))) (visit_taken d.names (record { robot = robot; legs = gs; blocks = blocks }) word goal denotes (omega (arith, few, count)))
    ∙ legs_run d robot deep behind others later (gs ++ goal ∷ []) blocks rest shallow (omega (arith, few, longer, count))
    ∙ ap (λ (x : List Goal). run (in_mission d robot x blocks) rest) (append_assoc gs (goal ∷ []) others)
legs_run d robot deep lines more (Legs.Repeat {deep = deeper} {word = word} {n = n} {block = block} {lines = behind} {inner = inner} {legs = others} says inside later) gs blocks rest shallow few =
    let all : length (times n inner ++ others) ≡ length (times n inner) + length others = length-append (times n inner) others in
    let long : length (times n inner) ≡ n * length inner = length-times n inner in
    let some : 1 ≤ n = says.at_least in
    let less : length inner ≤ n * length inner = few_inside n (length inner) some in
    let opened_at : length (blocks ++ opened n gs ∷ []) ≡ length blocks + 1 = length-append blocks (opened n gs ∷ []) in
    let sum : length (gs ++ repeated n inner) ≡ length gs + length (repeated n inner) = length-append gs (repeated n inner) in
    let same : length (repeated n inner) ≡ length (times n inner) = ap length (same_times n inner) in
    ap (λ (ls : List Line). run (in_mission d robot gs blocks) ((codes "repeat" ∷ word ∷ []) ∷ ls)) (append_assoc block ((codes "again" ∷ []) ∷ behind) rest)
    ∙ ap (λ r. next_state (mapped (InMission d) r) (λ t. run t (block ++ (codes "again" ∷ []) ∷ (behind ++ rest)))) (repeat_taken (record { robot = robot; legs = gs; blocks = blocks }) word n says (omega arith))
    ∙ legs_run d robot deeper block inner inside [] (blocks ++ opened n gs ∷ []) ((codes "again" ∷ []) ∷ (behind ++ rest)) (omega (arith, opened_at, shallow)) (omega (arith, few, all, long, less))
    ∙ ap (λ r. next_state (mapped (InMission d) r) (λ t. run t (behind ++ rest))) (again_taken robot inner blocks (opened n gs) (omega (arith, few, all, long)))
    ∙ legs_run d robot (suc deeper) behind others later (gs ++ repeated n inner) blocks rest shallow (omega (arith, few, all, sum, same))
    ∙ ap (λ (x : List Goal). run (in_mission d robot x blocks) rest) (append_assoc gs (repeated n inner) others ∙ ap (λ (x : List Goal). gs ++ (x ++ others)) (same_times n inner))

fleet_run : (d e : Declared) (lines : List Line) → FleetLines d lines e → 1 ≤ length e.starts → run (AmongRobots d) (lines ++ end_line_words ∷ []) ≡ Ok (Ended e)
fleet_run d e lines FleetLines.NoMore some = ap (λ r. next_state (mapped Ended r) (λ t. run t [])) (end_taken d some)
fleet_run d e lines (FleetLines.Robot {name = name} {start = start} {cell = cell} {lines = behind} is later) some =
    ap (λ r. next_state (mapped AmongRobots r) (λ t. run t (behind ++ end_line_words ∷ []))) (robot_taken d name start cell is) ∙ fleet_run (with_named_robot d name cell) e behind later some
fleet_run d e lines (FleetLines.Mission {name = name} {robot = robot} {inside = inside} {lines = behind} {legs = gs} is later) some =
    let rest : List Line = behind ++ end_line_words ∷ [] in
    ap (λ (ls : List Line). run (AmongRobots d) ((codes "mission" ∷ name ∷ []) ∷ ls)) (append_assoc inside ((codes "done" ∷ []) ∷ behind) (end_line_words ∷ []))
    ∙ ap (λ r. next_state (mapped (InMission d) r) (λ t. run t (inside ++ (codes "done" ∷ []) ∷ rest))) (mission_taken d name robot is.denotes is.first)
    ∙ legs_run d robot 4 inside gs is.inside [] [] ((codes "done" ∷ []) ∷ rest) (omega arith) (omega (arith, is.few))
    ∙ fleet_run (record d { missions = set d.missions robot (Some gs) }) e behind later some

-- the first line that isn't a site line closes the site
site_closed : (flows : Bool) (b c e : Declared) (lines : List Line) → c ≡ closed b → FleetLines c lines e → run (AmongSite flows b) (lines ++ end_line_words ∷ []) ≡ run (AmongRobots (closed b)) (lines ++ end_line_words ∷ [])
site_closed flows b c e lines same FleetLines.NoMore = refl
site_closed flows b c e lines same (FleetLines.Robot is later) = refl
site_closed flows b c e lines same (FleetLines.Mission is later) = refl

header_taken : (flows : Bool) (line : Line) → Header flows line → worded_line AtHeader line ≡ Ok (AmongSite flows nothing_declared)
header_taken flows line Header.One = refl
header_taken flows line Header.Two = refl

-- the lines of a whole scenario
pub whole_run : (flows : Bool) (built whole : Declared) (header : Line) (site fleet : List Line) → Header flows header → SiteLines flows nothing_declared site built → FleetLines (closed built) fleet whole → 1 ≤ length whole.starts
    → run AtHeader (header ∷ site ++ (fleet ++ end_line_words ∷ [])) ≡ Ok (Ended whole)
whole_run flows built whole header site fleet headed built_by whole_by some =
    ap (λ r. next_state r (λ t. run t (site ++ (fleet ++ end_line_words ∷ [])))) (header_taken flows header headed)
    ∙ site_run flows nothing_declared built site built_by (fleet ++ end_line_words ∷ [])
    ∙ site_closed flows built (closed built) whole fleet refl whole_by
    ∙ fleet_run (closed built) whole fleet whole_by some
