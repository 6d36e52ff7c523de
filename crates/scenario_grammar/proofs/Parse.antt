-- Lines that are read to the end are those of the grammar.
use Rattle.std.proofs.Common.{◌≡◌, ℕ, zero, suc, ◌+◌, ◌*◌, ◌≤◌, Bool, List, [], ◌∷◌, ◌++◌, codes, length, set, Some, Ok, Err, Result, refl, sym, ap, subst, ◌∙◌, arith, append_assoc, length-append}
use Rattle.std.proofs.lemmas.List.{append-nil}
use Rattle.fleet_names.specs.Names.{Named}
use Rattle.site_lines.specs.declared.fault.Code.{Code}
use Rattle.site_lines.specs.Readings.{next_state}
use Rattle.site_map.specs.declared.goal.Goal.{Goal}
use Rattle.scenario_reader.specs.MissionLines.{opened, repeated}
use Rattle.scenario_reader.specs.Reading.{closed, keyword_line, worded_line}
use Rattle.scenario_reader.specs.States.{Block, Declared, Mission, State, AtHeader, AmongSite, AmongRobots, InMission, Ended, nothing_declared}
use Rattle.scenario_reader.proofs.Repeats.{length-repeated}
use Rattle.scenario_grammar.specs.Grammar.{Denotes, FleetLines, Header, IsNumber, Legs, Line, SiteLines, Word, goal_thing, times}
use Rattle.scenario_grammar.proofs.FleetKinds.{same_times}
use Rattle.scenario_grammar.proofs.Steps.{FleetStep, HeaderStep, LegStep, SiteStep, fleet_step, header_step, leg_step, mission_in, site_step, stacked}

-- what lines with words make of a state
abbrev pub run : State → List Line → Result State Code
run s [] = Ok s
run s (line ∷ lines) = next_state (worded_line s line) (λ t. run t lines)

-- each line has a word
abbrev pub AreWorded : List Line → Type 0
AreWorded [] = Unit {0}
AreWorded ([] ∷ lines) = ⊥
AreWorded ((word ∷ words) ∷ lines) = AreWorded lines

abbrev pub end_line_words : Line
end_line_words = codes "end" ∷ []

-- robots and missions up to the end
pub record OnFleet (d : Declared) (lines : List Line) (e : Declared) : Type 0 where
  pub fleet : List Line
  pub split : lines ≡ fleet ++ end_line_words ∷ []
  pub made : FleetLines d fleet e
  pub some : 1 ≤ length e.starts

-- site lines, robots and missions up to the end
pub record OnSite (flows : Bool) (d : Declared) (lines : List Line) (e : Declared) : Type 0 where
  pub site : List Line
  pub rest : List Line
  pub built : Declared
  pub split : lines ≡ site ++ rest
  pub made : SiteLines flows d site built
  pub later : OnFleet (closed built) rest e

-- what is left of a mission in which these legs and blocks stand: for each open block its lines, `again`, and what is left around it; the legs of the whole
pub data Left (names : Named) : ℕ → List Goal → List Block → List Line → List Goal → Type 0 where
  Last : {deep : ℕ} {gs more : List Goal} {lines : List Line} → Legs names 4 lines more → Left names deep gs [] lines (gs ++ more)
  Inner : {deep : ℕ} {b : Block} {gs more whole : List Goal} {around : List Block} {lines rest : List Line} → Legs names deep lines more → Left names (suc deep) (b.before ++ times b.times (gs ++ more)) around rest whole
      → Left names deep gs (b ∷ around) (lines ++ (codes "again" ∷ []) ∷ rest) whole

-- the rest of a mission, and what stands behind it up to the end
pub record OnMission (d : Declared) (robot deep : ℕ) (gs : List Goal) (stack : List Block) (lines : List Line) (e : Declared) : Type 0 where
  pub inside : List Line
  pub rest : List Line
  pub whole : List Goal
  pub split : lines ≡ inside ++ (codes "done" ∷ []) ∷ rest
  pub left : Left d.names deep gs stack inside whole
  pub few : length whole ≤ 64
  pub later : OnFleet (record d { missions = set d.missions robot (Some whole) }) rest e

-- a whole scenario
pub record OnText (lines : List Line) (e : Declared) : Type 0 where
  pub flows : Bool
  pub header : Line
  pub rest : List Line
  pub split : lines ≡ header ∷ rest
  pub headed : Header flows header
  pub later : OnSite flows nothing_declared rest e

-- what lines are that lead from a state to the end
abbrev pub Parsed : State → List Line → Declared → Type 0
Parsed AtHeader lines e = OnText lines e
Parsed (AmongSite flows d) lines e = OnSite flows d lines e
Parsed (AmongRobots d) lines e = OnFleet d lines e
Parsed (InMission d m) lines e = (deep : ℕ) (stack : List Block) → m.blocks ≡ stacked stack → deep + length stack ≡ 4 → length m.legs ≤ 64 → OnMission d m.robot deep m.legs stack lines e
Parsed (Ended d) lines e = (lines ≡ []) × (d ≡ e)

-- the lines of a mission from its opening on
all_legs : (names : Named) (deep : ℕ) (lines : List Line) (whole : List Goal) → Left names deep [] [] lines whole → Legs names 4 lines whole
all_legs names deep lines whole (Left.Last legs) = legs

on_fleet : (d e : Declared) (line : Line) (t : State) (lines : List Line) → FleetStep d line t → Parsed t lines e → OnFleet d (line ∷ lines) e
on_fleet d e line t lines (FleetStep.RobotStep {name} {start} {cell} is) later = record {
  fleet = (codes "robot" ∷ name ∷ start ∷ []) ∷ later.fleet;
  split = ap (λ (ls : List Line). (codes "robot" ∷ name ∷ start ∷ []) ∷ ls) later.split;
  made = FleetLines.Robot is later.made;
  some = later.some;
}
on_fleet d e line t lines (FleetStep.MissionStep {name} {robot} denotes first) later =
    let on : OnMission d robot 4 [] [] lines e = later 4 [] refl refl (omega arith) in
    let fleet : List Line = on.later.fleet in
    record {
      fleet = (codes "mission" ∷ name ∷ []) ∷ on.inside ++ (codes "done" ∷ []) ∷ fleet;
      split = ap (λ (ls : List Line). (codes "mission" ∷ name ∷ []) ∷ ls)
          (on.split ∙ ap (λ (ls : List Line). on.inside ++ (codes "done" ∷ []) ∷ ls) on.later.split ∙ sym (append_assoc on.inside ((codes "done" ∷ []) ∷ fleet) (end_line_words ∷ [])));
      made = FleetLines.Mission (record { denotes = denotes; first = first; inside = all_legs d.names 4 on.inside on.whole on.left; few = on.few }) on.later.made;
      some = on.later.some;
    }
on_fleet d e line t lines (FleetStep.EndStep some) later = record {
  fleet = [];
  split = ap (λ (ls : List Line). end_line_words ∷ ls) later.0;
  made = subst (FleetLines d []) later.1 FleetLines.NoMore;
  some = subst (λ (x : Declared). 1 ≤ length x.starts) later.1 some;
}

on_site : (flows : Bool) (d e : Declared) (line : Line) (t : State) (lines : List Line) → SiteStep flows d line t → Parsed t lines e → OnSite flows d (line ∷ lines) e
on_site flows d e line t lines (SiteStep.SiteLineStep is) later = record {
  site = line ∷ later.site;
  rest = later.rest;
  built = later.built;
  split = ap (λ (ls : List Line). line ∷ ls) later.split;
  made = SiteLines.More is later.made;
  later = later.later;
}
on_site flows d e line t lines (SiteStep.FleetLineStep is) later = record { site = []; rest = line ∷ lines; built = d; split = refl; made = SiteLines.NoMore; later = on_fleet (closed d) e line t lines is later }

on_text : (e : Declared) (line : Line) (t : State) (lines : List Line) → HeaderStep line t → Parsed t lines e → OnText (line ∷ lines) e
on_text e line t lines (HeaderStep.HeadedStep {flows} is) later = record { flows = flows; header = line; rest = lines; split = refl; headed = is; later = later }

-- lines in front of what is left, which add legs to those that stand there
grow : (names : Named) (pre : List Line) (extra : List Goal) (deep : ℕ) (start : List Goal) (stack : List Block) (lines : List Line) (whole gs : List Goal)
    → ((ls : List Line) (more : List Goal) → Legs names deep ls more → Legs names deep (pre ++ ls) (extra ++ more)) → (stack ≡ [] → deep ≡ 4)
    → start ≡ gs ++ extra → Left names deep start stack lines whole → Left names deep gs stack (pre ++ lines) whole
grow names pre extra deep start stack lines whole gs turn shallow is (Left.Last {more = more} legs) =
    let four : deep ≡ 4 = shallow refl in
    let longer : Legs names 4 (pre ++ lines) (extra ++ more) = subst (λ (n : ℕ). Legs names n (pre ++ lines) (extra ++ more)) four (turn lines more (subst (λ (n : ℕ). Legs names n lines more) (sym four) legs)) in
    let same : gs ++ (extra ++ more) ≡ start ++ more = sym (append_assoc gs extra more) ∙ ap (λ (x : List Goal). x ++ more) (sym is) in
    subst (Left names deep gs [] (pre ++ lines)) same (Left.Last longer)
grow names pre extra deep start stack lines whole gs turn shallow is (Left.Inner {b = b} {more = more} {around = around} {lines = inside} {rest = rest} legs left) =
    let same : start ++ more ≡ gs ++ (extra ++ more) = ap (λ (x : List Goal). x ++ more) is ∙ append_assoc gs extra more in
    let around_it : Left names (suc deep) (b.before ++ times b.times (gs ++ (extra ++ more))) around rest whole = subst (λ (x : List Goal). Left names (suc deep) (b.before ++ times b.times x) around rest whole) same left in
    subst (λ (ls : List Line). Left names deep gs (b ∷ around) ls whole) (append_assoc pre inside ((codes "again" ∷ []) ∷ rest)) (Left.Inner (turn inside more legs) around_it)

-- a block that is opened, with all that it encloses
enclose : (names : Named) (deep n : ℕ) (word : Word) (gs : List Goal) (around : List Block) (lines : List Line) (whole : List Goal) → IsNumber 1 64 word n → (around ≡ [] → suc deep ≡ 4)
    → Left names deep [] (opened n gs ∷ around) lines whole → Left names (suc deep) gs around ((codes "repeat" ∷ word ∷ []) ∷ lines) whole
enclose names deep n word gs around lines whole says shallow (Left.Inner {more = more} {lines = inside} {rest = rest} legs left) =
    let head : List Line = (codes "repeat" ∷ word ∷ []) ∷ inside ++ (codes "again" ∷ []) ∷ [] in
    let turn = λ (ls : List Line) (later : List Goal) (l : Legs names (suc deep) ls later).
    subst (λ (x : List Line). Legs names (suc deep) ((codes "repeat" ∷ word ∷ []) ∷ x) (times n more ++ later)) (sym (append_assoc inside ((codes "again" ∷ []) ∷ []) ls)) (Legs.Repeat says legs l) in
    subst (λ (x : List Line). Left names (suc deep) gs around ((codes "repeat" ∷ word ∷ []) ∷ x) whole) (append_assoc inside ((codes "again" ∷ []) ∷ []) rest)
    (grow names head (times n more) (suc deep) (gs ++ times n more) around rest whole gs turn shallow refl left)

length-stacked : (stack : List Block) → length (stacked stack) ≡ length stack
length-stacked [] = refl
length-stacked (b ∷ stack) = let rest = length-stacked stack in omega (arith, rest, length-append (stacked stack) (b ∷ []))

-- one line more in front of the rest of a mission
visit_on : (d e : Declared) (robot deep : ℕ) (gs : List Goal) (stack : List Block) (word : Word) (goal : Goal) (lines : List Line) → deep + length stack ≡ 4 → Denotes d.names word (goal_thing goal)
    → OnMission d robot deep (gs ++ goal ∷ []) stack lines e → OnMission d robot deep gs stack ((codes "visit" ∷ word ∷ []) ∷ lines) e
visit_on d e robot deep gs stack word goal lines deep_is denotes on = record {
  inside = (codes "visit" ∷ word ∷ []) ∷ on.inside;
  rest = on.rest;
  whole = on.whole;
  split = ap (λ (ls : List Line). (codes "visit" ∷ word ∷ []) ∷ ls) on.split;
  left = grow d.names ((codes "visit" ∷ word ∷ []) ∷ []) (goal ∷ []) deep (gs ++ goal ∷ []) stack on.inside on.whole gs (λ (ls : List Line) (x : List Goal) (l : Legs d.names deep ls x). Legs.Visit denotes l)
      (λ (none : stack ≡ []). omega (arith, deep_is, ap length none)) refl on.left;
  few = on.few;
  later = on.later;
}

repeat_on : (d e : Declared) (robot deep : ℕ) (gs : List Goal) (stack : List Block) (word : Word) (n : ℕ) (lines : List Line) → suc deep + length stack ≡ 4 → IsNumber 1 64 word n
    → OnMission d robot deep [] (opened n gs ∷ stack) lines e → OnMission d robot (suc deep) gs stack ((codes "repeat" ∷ word ∷ []) ∷ lines) e
repeat_on d e robot deep gs stack word n lines deep_is says on = record {
  inside = (codes "repeat" ∷ word ∷ []) ∷ on.inside;
  rest = on.rest;
  whole = on.whole;
  split = ap (λ (ls : List Line). (codes "repeat" ∷ word ∷ []) ∷ ls) on.split;
  left = enclose d.names deep n word gs stack on.inside on.whole says (λ (none : stack ≡ []). omega (arith, deep_is, ap length none)) on.left;
  few = on.few;
  later = on.later;
}

again_on : (d e : Declared) (robot deep : ℕ) (gs : List Goal) (b : Block) (around : List Block) (lines : List Line) → OnMission d robot (suc deep) (b.before ++ repeated b.times gs) around lines e
    → OnMission d robot deep gs (b ∷ around) ((codes "again" ∷ []) ∷ lines) e
again_on d e robot deep gs b around lines on =
    let same : b.before ++ repeated b.times gs ≡ b.before ++ times b.times (gs ++ []) = ap (λ (x : List Goal). b.before ++ x) (same_times b.times gs ∙ ap (times b.times) (sym (append-nil gs))) in
    record {
      inside = (codes "again" ∷ []) ∷ on.inside;
      rest = on.rest;
      whole = on.whole;
      split = ap (λ (ls : List Line). (codes "again" ∷ []) ∷ ls) on.split;
      left = Left.Inner {more = []} {lines = []} Legs.NoMore (subst (λ (x : List Goal). Left d.names (suc deep) x around on.inside on.whole) same on.left);
      few = on.few;
      later = on.later;
    }

on_mission : (d e : Declared) (robot deep : ℕ) (gs : List Goal) (stack : List Block) (line : Line) (t : State) (lines : List Line) → deep + length stack ≡ 4 → length gs ≤ 64 → LegStep d robot gs stack line t → Parsed t lines e → OnMission d robot deep gs stack (line ∷ lines) e
on_mission d e robot deep gs stack line t lines deep_is few (LegStep.VisitStep {word = word} goal denotes more) later =
    visit_on d e robot deep gs stack word goal lines deep_is denotes (later deep stack refl deep_is (omega (arith, length-append gs (goal ∷ []))))
on_mission d e robot deep gs stack line t lines deep_is few (LegStep.RepeatStep {word = word} {n = n} says shallow) later = open_one deep deep_is
  where
    open_one : (k : ℕ) → k + length stack ≡ 4 → OnMission d robot k gs stack ((codes "repeat" ∷ word ∷ []) ∷ lines) e
    open_one zero is = let l = length-stacked stack in absurd (omega (arith, is, l, shallow))
    open_one (suc k) is = repeat_on d e robot k gs stack word n lines is says (later k (opened n gs ∷ stack) refl (omega (arith, is)) (omega arith))
on_mission d e robot deep gs stack line t lines deep_is few (LegStep.AgainStep {b = b} {around = around} fits) later =
    let long : length (b.before ++ repeated b.times gs) ≡ length b.before + b.times * length gs = length-append b.before (repeated b.times gs) ∙ ap (λ k. length b.before + k) (length-repeated b.times gs) in
    again_on d e robot deep gs b around lines (later (suc deep) around refl (omega (arith, deep_is)) (omega (arith, long, fits)))
on_mission d e robot deep gs stack line t lines deep_is few LegStep.DoneStep later = record {
  inside = [];
  rest = lines;
  whole = gs;
  split = refl;
  left = subst (Left d.names deep gs [] []) (append-nil gs) (Left.Last {more = []} Legs.NoMore);
  few = few;
  later = later;
}

-- one line more
one_more : (s t : State) (keyword : Word) (words : List Word) (lines : List Line) (e : Declared) → keyword_line s keyword words ≡ Ok t → Parsed t lines e → Parsed s ((keyword ∷ words) ∷ lines) e
one_more AtHeader t keyword words lines e is later = on_text e (keyword ∷ words) t lines (header_step keyword words t is) later
one_more (AmongSite flows d) t keyword words lines e is later = on_site flows d e (keyword ∷ words) t lines (site_step flows d keyword words t is) later
one_more (AmongRobots d) t keyword words lines e is later = on_fleet d e (keyword ∷ words) t lines (fleet_step d keyword words t is) later
one_more (InMission d m) t keyword words lines e is later = λ deep stack blocks deep_is few.
    let same : m ≡ mission_in m.robot m.legs stack = ap (λ (bs : List Block). record { robot = m.robot; legs = m.legs; blocks = bs }) blocks in
    on_mission d e m.robot deep m.legs stack (keyword ∷ words) t lines deep_is few (leg_step d m.robot m.legs stack keyword words t (subst (λ (x : Mission). keyword_line (InMission d x) keyword words ≡ Ok t) same is)) later
one_more (Ended d) t keyword words lines e is later = absurd (cc)

at_end : (s : State) (e : Declared) → run s [] ≡ Ok (Ended e) → Parsed s [] e
at_end AtHeader e is = absurd (cc)
at_end (AmongSite flows d) e is = absurd (cc)
at_end (AmongRobots d) e is = absurd (cc)
at_end (InMission d m) e is = absurd (cc)
at_end (Ended d) e is = (refl, cc)

next_line : (s : State) (keyword : Word) (words : List Word) (lines : List Line) (e : Declared) (r : Result State Code) → keyword_line s keyword words ≡ r → ((t : State) → run t lines ≡ Ok (Ended e) → Parsed t lines e)
    → next_state r (λ t. run t lines) ≡ Ok (Ended e) → Parsed s ((keyword ∷ words) ∷ lines) e
next_line s keyword words lines e (Ok t) is rest ends = one_more s t keyword words lines e is (rest t ends)
next_line s keyword words lines e (Err code) is rest ends = absurd (cc)

-- lines that lead from a state to the end are those of the grammar
pub parsed : (lines : List Line) (s : State) (e : Declared) → AreWorded lines → run s lines ≡ Ok (Ended e) → Parsed s lines e
parsed [] s e worded is = at_end s e is
parsed ([] ∷ lines) s e worded is = absurd worded
parsed ((keyword ∷ words) ∷ lines) s e worded is = next_line s keyword words lines e (keyword_line s keyword words) refl (λ t ends. parsed lines t e worded ends) is
