use Rattle.std.proofs.Common.{◌≡◌, ◌+◌, ◌*◌, ◌∙◌, sym, ap, subst, length, arith}
use Rattle.scenario.specs.Scenarios.{IsScenario, ScenarioValue}
use Rattle.site_map.specs.Built.{BuiltSite}
use Rattle.scenario_gen.specs.Generated.{names, scenario_on}
use Rattle.scenario_gen.proofs.Drilled.{drill_is}
use Rattle.scenario_gen.proofs.generate.generate.Goals as goal

pub of_parts-requires : goal.of_parts-requires
of_parts-requires c =
    let w = 8 + 2 * c.draw.result in
    let h = 8 + 2 * c.draw-2.result in
    let m = 8 + c.draw-robots.result in
    let x = c.draw-2.new.self.number in
    let y = c.draw-robots.new.self.number in
    let site = c.in_ok-site.ensures.site in
    let cells : c.cell_count.result ≡ w * h = c.cell_count.ensures.count ∙ ap (λ (s : BuiltSite). s.cells) site in
    let crossings = c.crossing_count.ensures ∙ ap (λ (s : BuiltSite). length s.crossings) site in
    let is : (record { site = c.in_ok-site.site; names = c.in_ok-names.names; starts = c.in_ok-starts.starts; missions = c.in_ok-missions.missions }) ≡ scenario_on w h x m y
    = λ i. record {
      site = site i;
      names = (c.in_ok-names.ensures ∙ (λ j. names (cells j) (crossings j) m)) i;
      starts = c.in_ok-starts.ensures i;
      missions = c.in_ok-missions.ensures i;
    } in
    subst IsScenario (sym is) (drill_is w h (omega arith) (omega arith) x m y (omega arith) (let b = c.draw-robots.ensures.below in omega arith))
