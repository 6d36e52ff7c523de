use Rattle.std.proofs.Common.{ap, ◌∙◌, subst}
use Rattle.fleet_base.specs.declared.numbers.ClaimNo.{ClaimNo}
use Rattle.fleet_base.specs.declared.numbers.Kind.TheVariants.{Acquire}
use Rattle.fleet_model.specs.Lists.{In}
use Rattle.event_graph.proofs.Scanning.{In_get_or}
use Rattle.compare_graphs.proofs.fitting.is_acquired.Goals as goal

pub returns-then-taken-claim : goal.returns-then-taken-claim
returns-then-taken-claim c = λ _. subst (λ k. In k c.args.kinds.now) (c.in-Acquire.is ∙ ap (λ n. let d : ClaimNo = record { 0 = n } in Acquire d) c.if-taken-claim.true) (In_get_or _ _ _ c.loop-kind-test.true)
