use Rattle.plan_events.proofs.Causes.{accepted_shape}
use Rattle.plan_events.proofs.laws.shapes_are_walks.Goals as goal

pub returns : goal.returns
returns c = λ site cells h. accepted_shape site cells h
