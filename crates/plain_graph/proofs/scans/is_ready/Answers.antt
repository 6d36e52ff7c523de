use Rattle.std.proofs.Common.{inl, inr, sym, arith, subst, List, refl, false}
use Rattle.std.proofs.lemmas.Bool.{both_ways}
use Rattle.std.proofs.lemmas.List.{take_all}
use Rattle.fleet_base.specs.declared.numbers.Event.{Event}
use Rattle.fleet_model.specs.Lists.{In}
use Rattle.fleet_model.specs.Plans.{IsBehind}
use Rattle.event_graph.proofs.Scanning.{In_get_or, In_more}
use Rattle.event_graph.proofs.Changes.{none_behind, ready_from}
use Rattle.plain_graph.proofs.scans.is_ready.Goals as goal

pub returns-then-is_behind : goal.returns-then-is_behind
returns-then-is_behind c = (
  λ h. absurd (both_ways false refl h),
  λ ready. absurd (none_behind c.args.groups.now c.args.events.now c.args.e _ ready (In_get_or _ _ _ c.loop-f-test.true) (c.is_behind.ensures.0 c.if-is_behind.true)),
)

pub loop-f-preserved : goal.loop-f-preserved
loop-f-preserved c = λ x m b. elim (In_more _ _ _ c.loop-f-test.true m) [
  | inl j ↦ c.loop-f.invariant x j b
  | inr k ↦ both_ways c.is_behind.result c.if-is_behind.false (c.is_behind.ensures.1 (subst (λ (y : Event). IsBehind c.args.groups.now c.args.e y) k b))
]

pub returns : goal.returns
returns c = (
  λ h. ready_from c.args.groups.now c.args.events.now c.args.e c.requires (λ f i b. c.loop-f.invariant f (subst (λ (es : List Event). In f es) (sym (take_all c.loop-f.f-index c.args.events.now (omega arith))) i) b),
  λ ready. refl,
)
