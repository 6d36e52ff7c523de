use Rattle.std.proofs.Common.{◌≡◌, length, ap, subst, ◌∙◌}
use Rattle.fleet_model.specs.Sites.{Site}
use Rattle.fleet_model.specs.Plans.{unfinished}
use Rattle.site_map.specs.Claims.{site_of}
use Rattle.coordinator.specs.Books.{Book, state_of}
use Rattle.coordinator.specs.Lent.{AnswersForPlan}
use Rattle.coordinator.proofs.KeptNext.{good, state}
use Rattle.coordinator.proofs.Lent.{answers}
use Rattle.coordinator.proofs.coordinator.Coordinator.graph.Goals as goal

pub returns : goal.returns
returns c =
    let i = c.self.inside in
    let k = c.self.invariant in
    let g = i.tables.graph in
    let m = (state i k).fleet in
    record {
      robots = k.tables.robots ∙ ap length k.state.starts ∙ ap (λ (b : Book). length b.starts) c.self.view_is;
      groups = k.tables.groups ∙ ap (λ (z : Site). z.groups) k.state.site ∙ ap (λ (b : Book). (site_of b.site).groups) c.self.view_is;
      events = subst (λ (b : Book). g.events ≡ unfinished (state_of b).fleet) c.self.view_is k.tables.events;
      next = subst (λ (b : Book). g.next ≡ (state_of b).fleet.next) c.self.view_is k.tables.next;
      plan = subst (λ (b : Book). AnswersForPlan g (state_of b).fleet) c.self.view_is (answers g m (good i k).plan k.tables.groups k.tables.events);
    }
