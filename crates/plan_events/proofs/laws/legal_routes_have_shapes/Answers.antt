use Rattle.plan_events.proofs.Routes.{walk_shape}
use Rattle.plan_events.proofs.laws.legal_routes_have_shapes.Goals as goal

pub returns : goal.returns
returns c = λ m r route site legal. walk_shape m.site site route legal.long legal.short legal.linked
