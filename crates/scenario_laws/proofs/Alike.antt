-- Scenarios whose things have the same names are printed alike.
use Rattle.std.proofs.Common.{◌≡◌, ℕ, List, [], ◌∷◌, ◌++◌, length, get_or, Option, refl, ap, ◌∙◌}
use Rattle.std.specs.Prelude.{flat_map, codes}
use Rattle.std.specs.Fmt.{decimal}
use Rattle.std.specs.Option.{unwrap_or}
use Rattle.fleet_base.specs.declared.numbers.CellNo.{CellNo}
use Rattle.fleet_base.specs.declared.numbers.Link.{Link}
use Rattle.fleet_model.specs.Lists.{numbers_below}
use Rattle.fleet_model.specs.Sites.{links_from}
use Rattle.fleet_names.specs.declared.thing.Thing.{Thing}
use Rattle.fleet_names.specs.declared.thing.Thing.TheVariants as things
use Rattle.fleet_names.specs.Names.{Named, name_of}
use Rattle.site_map.specs.Built.{BuiltSite, area_at, crossing_at}
use Rattle.site_map.specs.Claims.{site_of}
use Rattle.site_map.specs.declared.goal.Goal.{Goal}
use Rattle.scenario.specs.Canonical.{area_text, canonical_text, cell_names, cell_text, cells_of_flow, crossing_text, flow_text, goal_thing, header_text, leg_text, legs_text, line, link_text, links_text, mission_text, name, robot_text}
use Rattle.scenario.specs.Scenarios.{ScenarioValue, legs_of}
use Rattle.scenario_laws.specs.Same.{IsSame}
use Rattle.scenario_laws.proofs.Texts.{same_parts}

-- texts that are the same one by one
same_each : {A : Type 0} (f g : A → List ℕ) → ((a : A) → f a ≡ g a) → (xs : List A) → flat_map f xs ≡ flat_map g xs
same_each f g same [] = refl
same_each f g same (x ∷ xs) = ap (λ first. first ++ flat_map f xs) (same x) ∙ ap (λ rest. g x ++ rest) (same_each f g same xs)

module _ (m n : Named) (alike : (t : Thing) → name_of m t ≡ name_of n t) where
  same_name : (t : Thing) → name m t ≡ name n t
  same_name t = ap (λ (o : Option (List ℕ)). unwrap_or o []) (alike t)

  same_cells : (cells : List CellNo) → cell_names m cells ≡ cell_names n cells
  same_cells [] = refl
  same_cells (c ∷ cs) = rw (same_name (things.Cell c.0), same_cells cs) refl

  same_set : (keyword : List ℕ) (t : Thing) (cells : List CellNo) → line keyword (name m t ∷ cell_names m cells) ≡ line keyword (name n t ∷ cell_names n cells)
  same_set keyword t cells = rw (same_name t, same_cells cells) refl

  pub same_crossing : (site : BuiltSite) (k : ℕ) → crossing_text m site k ≡ crossing_text n site k
  same_crossing site k =
      let crossing = crossing_at site k in
      let flows : List ℕ = numbers_below (length crossing.flows) in
      ap (λ first. first ++ flat_map (flow_text m k crossing) flows) (same_set (codes "crossing") (things.Crossing k) crossing.cells)
      ∙ ap (λ rest. line (codes "crossing") (name n (things.Crossing k) ∷ cell_names n crossing.cells) ++ rest)
      (same_each (flow_text m k crossing) (flow_text n k crossing) (λ flow. same_set (codes "flow") (things.Crossing k) (cells_of_flow crossing flow)) flows)

  pub same_area : (site : BuiltSite) (k : ℕ) → area_text m site k ≡ area_text n site k
  same_area site k = same_set (codes "area") (things.Area k) (area_at site k)

  pub same_cell : (k : ℕ) → cell_text m k ≡ cell_text n k
  same_cell k = ap (λ word. line (codes "cell") (word ∷ [])) (same_name (things.Cell k))

  same_link : (k : ℕ) (link : Link) → link_text m k link ≡ link_text n k link
  same_link k link =
      ap (λ word. line (codes "link") (word ∷ name m (things.Cell link.to.0) ∷ decimal link.cost ∷ [])) (same_name (things.Cell k))
      ∙ ap (λ word. line (codes "link") (name n (things.Cell k) ∷ word ∷ decimal link.cost ∷ [])) (same_name (things.Cell link.to.0))

  pub same_links : (site : BuiltSite) (k : ℕ) → links_text m site k ≡ links_text n site k
  same_links site k = same_each (link_text m k) (link_text n k) (λ link. same_link k link) (links_from (site_of site) (record { 0 = k }))

  pub same_robot : (starts : List CellNo) (r : ℕ) → robot_text m starts r ≡ robot_text n starts r
  same_robot starts r =
      let start = get_or starts r (record { 0 = 0 }) in
      ap (λ word. line (codes "robot") (word ∷ name m (things.Cell start.0) ∷ [])) (same_name (things.Robot r))
      ∙ ap (λ word. line (codes "robot") (name n (things.Robot r) ∷ word ∷ [])) (same_name (things.Cell start.0))

  same_leg : (goal : Goal) → leg_text m goal ≡ leg_text n goal
  same_leg goal = ap (λ word. line (codes "visit") (word ∷ [])) (same_name (goal_thing goal))

  pub same_legs : (r : ℕ) (legs : List Goal) → legs_text m r legs ≡ legs_text n r legs
  same_legs r [] = refl
  same_legs r (leg ∷ legs) =
      ap (λ word. line (codes "mission") (word ∷ []) ++ (flat_map (leg_text m) (leg ∷ legs) ++ line (codes "done") [])) (same_name (things.Robot r))
      ∙ ap (λ body. line (codes "mission") (name n (things.Robot r) ∷ []) ++ (body ++ line (codes "done") [])) (same_each (leg_text m) (leg_text n) (λ goal. same_leg goal) (leg ∷ legs))

-- The names alone may differ in their order, and none of it is printed.
renamed : (s : ScenarioValue) (names : Named) → ((t : Thing) → name_of names t ≡ name_of s.names t) → canonical_text (record { site = s.site; names = names; starts = s.starts; missions = s.missions }) ≡ canonical_text s
unfolding canonical_text
renamed s names alike =
    let cells : List ℕ = numbers_below s.site.cells in
    let missions : List ℕ = numbers_below (length s.missions) in
    let head : List ℕ = header_text s.site in
    let last : List ℕ = line (codes "end") [] in
    same_parts head head _ _ _ _ _ _ _ _ _ _ _ _ last last
    refl
    (same_each (cell_text names) (cell_text s.names) (λ k. same_cell names s.names alike k) cells)
    (same_each (crossing_text names s.site) (crossing_text s.names s.site) (λ k. same_crossing names s.names alike s.site k) (numbers_below (length s.site.crossings)))
    (same_each (area_text names s.site) (area_text s.names s.site) (λ k. same_area names s.names alike s.site k) (numbers_below (length s.site.areas)))
    (same_each (links_text names s.site) (links_text s.names s.site) (λ k. same_links names s.names alike s.site k) cells)
    (same_each (robot_text names s.starts) (robot_text s.names s.starts) (λ r. same_robot names s.names alike s.starts r) (numbers_below (length s.starts)))
    (same_each (mission_text names s.missions) (mission_text s.names s.missions) (λ r. same_legs names s.names alike r (legs_of s.missions r)) missions)
    refl

pub same_text : (s t : ScenarioValue) → IsSame s t → canonical_text t ≡ canonical_text s
same_text s t same =
    let whole : t ≡ record { site = s.site; names = t.names; starts = s.starts; missions = s.missions } = rw (← same.site, ← same.starts, ← same.missions) refl in
    ap canonical_text whole ∙ renamed s t.names same.names
