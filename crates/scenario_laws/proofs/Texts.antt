-- The lines of a canonical text.
use Rattle.std.proofs.Common.{◌≡◌, ℕ, ◌^◌, ◌<◌, Bool, true, false, cond, eqb, List, [], ◌∷◌, ◌++◌, length, map, get_or, refl, sym, ap, ◌∙◌, append_assoc}
use Rattle.std.specs.Prelude.{flat_map, codes}
use Rattle.std.specs.Fmt.{decimal}
use Rattle.std.specs.List.{list_all, AllByRecursion}
use Rattle.std.proofs.lemmas.List.Concat.{flat_map-append}
use Rattle.fleet_base.specs.declared.numbers.CellNo.{CellNo}
use Rattle.fleet_base.specs.declared.numbers.Link.{Link}
use Rattle.fleet_model.specs.Lists.{numbers_below}
use Rattle.fleet_model.specs.Sites.{links_from}
use Rattle.fleet_names.specs.declared.thing.Thing.TheVariants as things
use Rattle.fleet_names.specs.Names.{Named, AreNames}
use Rattle.site_map.specs.Built.{BuiltSite, area_at, crossing_at}
use Rattle.site_map.specs.Claims.{site_of}
use Rattle.site_map.specs.declared.goal.Goal.{Goal}
use Rattle.site_lines.specs.Lines.{lines_of}
use Rattle.scenario.specs.Canonical.{area_text, canonical_text, cell_names, cell_text, cells_of_flow, crossing_text, flow_text, goal_thing, leg_text, legs_text, line, link_text, links_text, mission_text, name, robot_text}
use Rattle.scenario.specs.Scenarios.{ScenarioValue, legs_of}
use Rattle.scenario_laws.proofs.RoundTrip.{area_line_of, bare_line, cell_line_of, crossing_lines_of, fleet_lines_of, flow_line_of, header_line_of, leg_line_of, link_line_of, link_lines_of, mission_lines_of, robot_line_of, site_lines_of}
use Rattle.scenario_laws.proofs.Feeds.{NoFeed, all_fed, always, each_fed, fed, line_fed, lines_of_fed, none_in_all, none_in_each, none_in_front, none_in_line, none_in_name, none_in_number}

fed_both : (xs ys : List (List ℕ)) → fed (xs ++ ys) ≡ fed xs ++ fed ys
fed_both xs ys = flat_map-append (λ l. l ++ 10 ∷ []) xs ys

fed_one : (l : List ℕ) → fed (l ∷ []) ≡ l ++ 10 ∷ []
fed_one l = append_assoc l (10 ∷ []) []

-- a line and lines behind it
then_each : {A : Type 0} (first : List ℕ) (line_of : A → List ℕ) (xs : List A) (first_text rest : List ℕ) → first_text ≡ first ++ 10 ∷ [] → rest ≡ fed (map line_of xs) → first_text ++ rest ≡ fed (first ∷ map line_of xs)
then_each first line_of xs first_text rest is more = ap (λ text. text ++ rest) is ∙ ap (λ text. (first ++ 10 ∷ []) ++ text) more

crossing_fed : (names : Named) (site : BuiltSite) (k : ℕ) → crossing_text names site k ≡ fed (crossing_lines_of names site k)
crossing_fed names site k =
    let crossing = crossing_at site k in
    then_each
    (bare_line (codes "crossing") (name names (things.Crossing k) ∷ cell_names names crossing.cells))
    (flow_line_of names k crossing)
    (numbers_below (length crossing.flows))
    (line (codes "crossing") (name names (things.Crossing k) ∷ cell_names names crossing.cells))
    (flat_map (flow_text names k crossing) (numbers_below (length crossing.flows)))
    (line_fed (codes "crossing") (name names (things.Crossing k) ∷ cell_names names crossing.cells))
    (each_fed (flow_text names k crossing) (flow_line_of names k crossing) (λ flow. line_fed (codes "flow") (name names (things.Crossing k) ∷ cell_names names (cells_of_flow crossing flow))) (numbers_below (length crossing.flows)))

links_fed : (names : Named) (site : BuiltSite) (k : ℕ) → links_text names site k ≡ fed (link_lines_of names site k)
links_fed names site k =
    each_fed
    (link_text names k)
    (link_line_of names k)
    (λ link. line_fed (codes "link") (name names (things.Cell k) ∷ name names (things.Cell link.to.0) ∷ decimal link.cost ∷ []))
    (links_from (site_of site) (record { 0 = k }))

legs_fed : (names : Named) (r : ℕ) (legs : List Goal) → legs_text names r legs ≡ fed (mission_lines_of names r legs)
legs_fed names r [] = refl
legs_fed names r (leg ∷ legs) =
    let body = each_fed (leg_text names) (leg_line_of names) (λ goal. line_fed (codes "visit") (name names (goal_thing goal) ∷ [])) (leg ∷ legs) in
    let last : line (codes "done") [] ≡ fed (bare_line (codes "done") [] ∷ []) = refl in
    let both : flat_map (leg_text names) (leg ∷ legs) ++ line (codes "done") [] ≡ fed (map (leg_line_of names) (leg ∷ legs) ++ bare_line (codes "done") [] ∷ []) =
    ap (λ text. text ++ line (codes "done") []) body ∙ ap (λ text. fed (map (leg_line_of names) (leg ∷ legs)) ++ text) last ∙ sym (fed_both (map (leg_line_of names) (leg ∷ legs)) (bare_line (codes "done") [] ∷ [])) in
    ap (λ text. text ++ (flat_map (leg_text names) (leg ∷ legs) ++ line (codes "done") [])) (line_fed (codes "mission") (name names (things.Robot r) ∷ []))
    ∙ ap (λ text. (bare_line (codes "mission") (name names (things.Robot r) ∷ []) ++ 10 ∷ []) ++ text) both

-- eight parts
parts_fed : (h : List ℕ) (a b c d e f g : List (List ℕ))
    → (h ++ 10 ∷ []) ++ (fed a ++ (fed b ++ (fed c ++ (fed d ++ (fed e ++ (fed f ++ fed g)))))) ≡ fed ((h ∷ (a ++ (b ++ (c ++ d)))) ++ (e ++ (f ++ g)))
parts_fed h a b c d e f g = sym (
    ap (λ text. (h ++ 10 ∷ []) ++ text)
    (ap fed (append_assoc a (b ++ (c ++ d)) (e ++ (f ++ g)) ∙ ap (λ ls. a ++ ls) (append_assoc b (c ++ d) (e ++ (f ++ g)) ∙ ap (λ ls. b ++ ls) (append_assoc c d (e ++ (f ++ g)))))
    ∙ fed_both a (b ++ (c ++ (d ++ (e ++ (f ++ g)))))
    ∙ ap (λ text. fed a ++ text) (fed_both b (c ++ (d ++ (e ++ (f ++ g))))
    ∙ ap (λ text. fed b ++ text) (fed_both c (d ++ (e ++ (f ++ g)))
    ∙ ap (λ text. fed c ++ text) (fed_both d (e ++ (f ++ g))
    ∙ ap (λ text. fed d ++ text) (fed_both e (f ++ g)
    ∙ ap (λ text. fed e ++ text) (fed_both f g)))))))

pub same_parts : (h h' a a' b b' c c' d d' e e' f f' g g' : List ℕ) → h ≡ h' → a ≡ a' → b ≡ b' → c ≡ c' → d ≡ d' → e ≡ e' → f ≡ f' → g ≡ g'
    → h ++ (a ++ (b ++ (c ++ (d ++ (e ++ (f ++ g)))))) ≡ h' ++ (a' ++ (b' ++ (c' ++ (d' ++ (e' ++ (f' ++ g'))))))
same_parts h h' a a' b b' c c' d d' e e' f f' g g' is_h is_a is_b is_c is_d is_e is_f is_g = cc

pub canonical_fed : (s : ScenarioValue) → canonical_text s ≡ fed (site_lines_of s ++ fleet_lines_of s)
unfolding canonical_text
canonical_fed s =
    let cells = numbers_below s.site.cells in
    let crossings = numbers_below (length s.site.crossings) in
    let areas = numbers_below (length s.site.areas) in
    let robots = numbers_below (length s.starts) in
    let missions = numbers_below (length s.missions) in
    same_parts _ _ _ _ _ _ _ _ _ _ _ _ _ _ _ _
    (line_fed (codes "fleet") (cond (list_all (λ x. eqb (length x.flows) 0) s.site.crossings) (codes "1") (codes "2") ∷ []))
    (each_fed (cell_text s.names) (cell_line_of s.names) (λ k. line_fed (codes "cell") (name s.names (things.Cell k) ∷ [])) cells)
    (all_fed (crossing_text s.names s.site) (crossing_lines_of s.names s.site) (λ k. crossing_fed s.names s.site k) crossings)
    (each_fed (area_text s.names s.site) (area_line_of s.names s.site) (λ k. line_fed (codes "area") (name s.names (things.Area k) ∷ cell_names s.names (area_at s.site k))) areas)
    (all_fed (links_text s.names s.site) (link_lines_of s.names s.site) (λ k. links_fed s.names s.site k) cells)
    (each_fed (robot_text s.names s.starts) (robot_line_of s.names s.starts) (λ r. line_fed (codes "robot") (name s.names (things.Robot r) ∷ name s.names (things.Cell (get_or s.starts r (record { 0 = 0 })).0) ∷ [])) robots)
    (all_fed (mission_text s.names s.missions) (λ r. mission_lines_of s.names r (legs_of s.missions r)) (λ r. legs_fed s.names r (legs_of s.missions r)) missions)
    (let last : line (codes "end") [] ≡ fed (bare_line (codes "end") [] ∷ []) = refl in last)
    ∙ parts_fed (header_line_of s.site) (map (cell_line_of s.names) cells) (flat_map (crossing_lines_of s.names s.site) crossings) (map (area_line_of s.names s.site) areas) (flat_map (link_lines_of s.names s.site) cells) (map (robot_line_of s.names s.starts) robots) (flat_map (λ r. mission_lines_of s.names r (legs_of s.missions r)) missions) (bare_line (codes "end") [] ∷ [])

-- no line has a line feed
none_in_cells : (names : Named) (cells : List CellNo) → AreNames names → AllByRecursion NoFeed (cell_names names cells)
none_in_cells names [] are = tt
none_in_cells names (c ∷ cs) are = (none_in_name names (things.Cell c.0) are, none_in_cells names cs are)

none_in_header : (b : Bool) → NoFeed (bare_line (codes "fleet") (cond b (codes "1") (codes "2") ∷ []))
none_in_header true = refl
none_in_header false = refl

none_in_crossing : (names : Named) (site : BuiltSite) (k : ℕ) → AreNames names → AllByRecursion NoFeed (crossing_lines_of names site k)
none_in_crossing names site k are =
    let crossing = crossing_at site k in (
      none_in_line (codes "crossing") (name names (things.Crossing k) ∷ cell_names names crossing.cells) refl (none_in_name names (things.Crossing k) are, none_in_cells names crossing.cells are),
      none_in_each
          (flow_line_of names k crossing)
          (λ flow. Unit {0})
          (λ flow any. none_in_line (codes "flow") (name names (things.Crossing k) ∷ cell_names names (cells_of_flow crossing flow)) refl (none_in_name names (things.Crossing k) are, none_in_cells names (cells_of_flow crossing flow) are))
          (numbers_below (length crossing.flows))
          (always (λ flow. Unit {0}) (λ flow. tt) (numbers_below (length crossing.flows))),
    )

-- the costs of links are short
abbrev pub IsCheap : Link → Type 0
IsCheap l = l.cost < 2 ^ 64

none_in_links : (names : Named) (k : ℕ) (links : List Link) → AreNames names → AllByRecursion IsCheap links → AllByRecursion NoFeed (map (link_line_of names k) links)
none_in_links names k links are cheap =
    none_in_each
    (link_line_of names k)
    IsCheap
    (λ l few. none_in_line (codes "link") (name names (things.Cell k) ∷ name names (things.Cell l.to.0) ∷ decimal l.cost ∷ []) refl (none_in_name names (things.Cell k) are, (none_in_name names (things.Cell l.to.0) are, (none_in_number l.cost few, tt))))
    links
    cheap

none_in_mission : (names : Named) (r : ℕ) (legs : List Goal) → AreNames names → AllByRecursion NoFeed (mission_lines_of names r legs)
none_in_mission names r [] are = tt
none_in_mission names r (leg ∷ legs) are = (
  none_in_line (codes "mission") (name names (things.Robot r) ∷ []) refl (none_in_name names (things.Robot r) are, tt),
  none_in_front
      (map (leg_line_of names) (leg ∷ legs))
      (bare_line (codes "done") [] ∷ [])
      (none_in_each (leg_line_of names) (λ goal. Unit {0}) (λ goal any. none_in_line (codes "visit") (name names (goal_thing goal) ∷ []) refl (none_in_name names (goal_thing goal) are, tt)) (leg ∷ legs) (always (λ goal. Unit {0}) (λ goal. tt) (leg ∷ legs)))
      (refl, tt),
)

-- each link that is printed is short
abbrev pub AreCheap : BuiltSite → Type 0
AreCheap site = (k : ℕ) → AllByRecursion IsCheap (links_from (site_of site) (record { 0 = k }))

pub none_anywhere : (s : ScenarioValue) → AreNames s.names → AreCheap s.site → AllByRecursion NoFeed (site_lines_of s ++ fleet_lines_of s)
none_anywhere s are cheap =
    let any : ℕ → Type 0 = λ k. Unit {0} in
    let cells = numbers_below s.site.cells in
    let crossings = numbers_below (length s.site.crossings) in
    let areas = numbers_below (length s.site.areas) in
    let robots = numbers_below (length s.starts) in
    let missions = numbers_below (length s.missions) in
    let a = none_in_each (cell_line_of s.names) any (λ k all. none_in_line (codes "cell") (name s.names (things.Cell k) ∷ []) refl (none_in_name s.names (things.Cell k) are, tt)) cells (always any (λ k. tt) cells) in
    let b = none_in_all (crossing_lines_of s.names s.site) any (λ k all. none_in_crossing s.names s.site k are) crossings (always any (λ k. tt) crossings) in
    let c = none_in_each (area_line_of s.names s.site) any (λ k all. none_in_line (codes "area") (name s.names (things.Area k) ∷ cell_names s.names (area_at s.site k)) refl (none_in_name s.names (things.Area k) are, none_in_cells s.names (area_at s.site k) are)) areas (always any (λ k. tt) areas) in
    let d = none_in_all (link_lines_of s.names s.site) any (λ k all. none_in_links s.names k (links_from (site_of s.site) (record { 0 = k })) are (cheap k)) cells (always any (λ k. tt) cells) in
    let e = none_in_each (robot_line_of s.names s.starts) any (λ r all. none_in_line (codes "robot") (name s.names (things.Robot r) ∷ name s.names (things.Cell (get_or s.starts r (record { 0 = 0 })).0) ∷ []) refl (none_in_name s.names (things.Robot r) are, (none_in_name s.names (things.Cell (get_or s.starts r (record { 0 = 0 })).0) are, tt))) robots (always any (λ k. tt) robots) in
    let f = none_in_all (λ r. mission_lines_of s.names r (legs_of s.missions r)) any (λ r all. none_in_mission s.names r (legs_of s.missions r) are) missions (always any (λ k. tt) missions) in
    let site : AllByRecursion NoFeed (site_lines_of s) = (
      none_in_header (list_all (λ x. eqb (length x.flows) 0) s.site.crossings),
      none_in_front (map (cell_line_of s.names) cells) (flat_map (crossing_lines_of s.names s.site) crossings ++ (map (area_line_of s.names s.site) areas ++ flat_map (link_lines_of s.names s.site) cells)) a
          (none_in_front (flat_map (crossing_lines_of s.names s.site) crossings) (map (area_line_of s.names s.site) areas ++ flat_map (link_lines_of s.names s.site) cells) b
          (none_in_front (map (area_line_of s.names s.site) areas) (flat_map (link_lines_of s.names s.site) cells) c d)),
    ) in
    let last : AllByRecursion NoFeed (bare_line (codes "end") [] ∷ []) = (refl, tt) in
    let fleet : AllByRecursion NoFeed (fleet_lines_of s) =
    none_in_front (map (robot_line_of s.names s.starts) robots) (flat_map (λ r. mission_lines_of s.names r (legs_of s.missions r)) missions ++ bare_line (codes "end") [] ∷ []) e
    (none_in_front (flat_map (λ r. mission_lines_of s.names r (legs_of s.missions r)) missions) (bare_line (codes "end") [] ∷ []) f last) in
    none_in_front (site_lines_of s) (fleet_lines_of s) site fleet

-- The lines of a canonical text are the site's, and behind them the fleet's.
pub canonical_lines : (s : ScenarioValue) → AreNames s.names → AreCheap s.site → lines_of (canonical_text s) ≡ site_lines_of s ++ fleet_lines_of s
canonical_lines s are cheap = ap lines_of (canonical_fed s) ∙ lines_of_fed (site_lines_of s ++ fleet_lines_of s) (none_anywhere s are cheap)
