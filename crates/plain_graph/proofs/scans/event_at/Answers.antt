use Rattle.std.proofs.Common.{inl, inr, sym, ap, ◌∙◌, subst, arith, List}
use Rattle.std.proofs.lemmas.List.{take_all}
use Rattle.fleet_base.specs.declared.numbers.Event.{Event}
use Rattle.fleet_base.specs.declared.numbers.EventNo.{EventNo}
use Rattle.fleet_model.specs.Lists.{In}
use Rattle.event_graph.proofs.Scanning.{In_get_or, In_more}
use Rattle.plain_graph.proofs.scans.event_at.Goals as goal

pub returns-then-e-n-clause-among : goal.returns-then-e-n-clause-among
returns-then-e-n-clause-among c = In_get_or _ _ _ c.loop-e-test.true

pub loop-e-preserved : goal.loop-e-preserved
loop-e-preserved c = λ x m h. elim (In_more _ _ _ c.loop-e-test.true m) [ inl j ↦ c.loop-e.invariant x j h | inr k ↦ c.if-e-n.false (ap (λ (y : Event). y.no.0) (sym k) ∙ ap (λ (y : EventNo). y.0) h) ]

pub returns-clause-among : goal.returns-clause-among
returns-clause-among c = absurd (c.loop-e.invariant c.requires.0 (subst (λ (es : List Event). In c.requires.0 es) (sym (take_all c.loop-e.e-index c.args.events.now (omega arith))) c.requires.1) c.requires.2)

pub returns-clause-number : goal.returns-clause-number
returns-clause-number c = absurd (c.loop-e.invariant c.requires.0 (subst (λ (es : List Event). In c.requires.0 es) (sym (take_all c.loop-e.e-index c.args.events.now (omega arith))) c.requires.1) c.requires.2)
