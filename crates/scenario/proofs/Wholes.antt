-- The parts of a canonical text, one behind the other.
use Rattle.std.proofs.Common.{◌≡◌, ℕ, List, [], ◌++◌, length, ap, ◌∙◌, append_assoc}
use Rattle.fleet_base.specs.declared.numbers.CellNo.{CellNo}
use Rattle.fleet_names.specs.Names.{Named}
use Rattle.site_map.specs.Built.{BuiltSite}
use Rattle.site_map.specs.declared.goal.Goal.{Goal}
use Rattle.std.specs.Prelude.{codes}
use Rattle.scenario.specs.Canonical.{area_text, canonical_text, cell_text, crossing_text, each, header_text, line, links_text, mission_text, robot_text}
use Rattle.scenario.specs.Scenarios.{ScenarioValue}

-- one part more, at the end of those so far
pub behind : (so_far part old now next : List ℕ) → old ≡ so_far → now ≡ old ++ part → next ≡ now → next ≡ so_far ++ part
behind so_far part old now next is more same = same ∙ more ∙ ap (λ xs. xs ++ part) is

grouped : (a b c d e f g h : List ℕ) → ((((((([] ++ a) ++ b) ++ c) ++ d) ++ e) ++ f) ++ g) ++ h ≡ a ++ (b ++ (c ++ (d ++ (e ++ (f ++ (g ++ h))))))
grouped a b c d e f g h = simp append_assoc

abbrev body_of : Named → BuiltSite → List CellNo → List (List Goal) → List ℕ
body_of names site starts missions =
    header_text site
    ++ (each (cell_text names) site.cells
    ++ (each (crossing_text names site) (length site.crossings)
    ++ (each (area_text names site) (length site.areas)
    ++ (each (links_text names site) site.cells
    ++ (each (robot_text names starts) (length starts)
    ++ (each (mission_text names missions) (length missions)
    ++ line (codes "end") []))))))

pub whole_text : (s : ScenarioValue) (names : Named) (site : BuiltSite) (starts : List CellNo) (missions : List (List Goal)) (t0 t1 t2 t3 t4 t5 t6 t7 t8 : List ℕ) → names ≡ s.names → site ≡ s.site → starts ≡ s.starts → missions ≡ s.missions
    → t0 ≡ [] → t1 ≡ t0 ++ header_text site → t2 ≡ t1 ++ each (cell_text names) site.cells → t3 ≡ t2 ++ each (crossing_text names site) (length site.crossings) → t4 ≡ t3 ++ each (area_text names site) (length site.areas)
    → t5 ≡ t4 ++ each (links_text names site) site.cells → t6 ≡ t5 ++ each (robot_text names starts) (length starts) → t7 ≡ t6 ++ each (mission_text names missions) (length missions) → t8 ≡ t7 ++ line (codes "end") [] → t8 ≡ canonical_text s
unfolding canonical_text
whole_text s names site starts missions t0 t1 t2 t3 t4 t5 t6 t7 t8 n i r m e0 e1 e2 e3 e4 e5 e6 e7 e8 =
    let a : List ℕ = header_text site in
    let b : List ℕ = each (cell_text names) site.cells in
    let c : List ℕ = each (crossing_text names site) (length site.crossings) in
    let d : List ℕ = each (area_text names site) (length site.areas) in
    let e : List ℕ = each (links_text names site) site.cells in
    let f : List ℕ = each (robot_text names starts) (length starts) in
    let g : List ℕ = each (mission_text names missions) (length missions) in
    let h : List ℕ = line (codes "end") [] in
    let all : t8 ≡ ((((((([] ++ a) ++ b) ++ c) ++ d) ++ e) ++ f) ++ g) ++ h =
    e8 ∙ ap (λ (xs : List ℕ). xs ++ h) (e7 ∙ ap (λ (xs : List ℕ). xs ++ g) (e6 ∙ ap (λ (xs : List ℕ). xs ++ f) (e5 ∙ ap (λ (xs : List ℕ). xs ++ e) (e4 ∙ ap (λ (xs : List ℕ). xs ++ d) (e3 ∙ ap (λ (xs : List ℕ). xs ++ c) (e2 ∙ ap (λ (xs : List ℕ). xs ++ b) (e1 ∙ ap (λ (xs : List ℕ). xs ++ a) e0))))))) in
    all ∙ grouped a b c d e f g h
    ∙ ap (λ (x : Named). body_of x site starts missions) n ∙ ap (λ (x : BuiltSite). body_of s.names x starts missions) i
    ∙ ap (λ (x : List CellNo). body_of s.names s.site x missions) r ∙ ap (λ (x : List (List Goal)). body_of s.names s.site s.starts x) m
