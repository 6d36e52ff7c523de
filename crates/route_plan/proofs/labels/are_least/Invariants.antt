use Rattle.std.proofs.Common.{ℕ, ◌<◌}
use Rattle.site_map.specs.Claims.{site_of}
use Rattle.route_plan.specs.Labels.{has, label_at}
use Rattle.route_plan.proofs.LeastLabels.{IsAgreed}
use Rattle.route_plan.proofs.labels.are_least.Given as goal

abbrev pub invariant-loop-number : goal.invariant-loop-number
invariant-loop-number l = (k : ℕ) → k < l.number → IsAgreed (site_of l.site) (has l.goal) (has l.avoid) (label_at l.labels) (record { 0 = k })
