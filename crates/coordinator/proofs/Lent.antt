-- A graph of a fleet's unfinished events answers for its plan.
use Rattle.std.proofs.Common.{◌≡◌, ◌↔◌, sym, ap, subst, ◌∙◌, length}
use Rattle.std.specs.Prelude.{slice_get}
use Rattle.fleet_model.specs.Lists.{In}
use Rattle.fleet_model.specs.Plans.{Fleet, IsBehind, IsReady, own, unfinished}
use Rattle.fleet_model.specs.Good.{IsGoodPlan}
use Rattle.event_graph.specs.Graphs.{Graph, IsReadyAmong, greatest_after, has_waiting}
use Rattle.event_graph.proofs.Whole.{awaited_whole, next_whole, ready_whole, waits_whole}
use Rattle.coordinator.specs.Lent.{AnswersForPlan}

module _ (g : Graph) (m : Fleet) (good : IsGoodPlan m) (groups : g.groups ≡ m.site.groups) (events : g.events ≡ unfinished m) where
  pub answers : AnswersForPlan g m
  answers = record {
    ready = λ e.
        subst (λ gs. IsReadyAmong gs g.events e ↔ IsReady (IsBehind m.site.groups) m.plan m.finished e) (sym groups)
        (subst (λ es. IsReadyAmong m.site.groups es e ↔ IsReady (IsBehind m.site.groups) m.plan m.finished e) (sym events) (ready_whole m e));
    next = λ r. ap (λ es. slice_get (own r es) 0) events ∙ next_whole m r;
    greatest_before = λ e. ap (λ gs. greatest_after gs g.events e) groups ∙ (ap (λ es. greatest_after m.site.groups es e) events ∙ waits_whole m e);
    awaited = λ f i.
        ap (λ gs. has_waiting gs g.events f) groups
        ∙ (ap (λ es. has_waiting m.site.groups es f) events ∙ awaited_whole m good f (subst (λ es. In f es) events i));
    kept = ap length events;
  }
