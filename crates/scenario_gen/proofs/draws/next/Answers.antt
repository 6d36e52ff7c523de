use Rattle.std.proofs.Common.{◌*◌, ◌^◌}
use Rattle.std.proofs.Math.Nat.{mod-add-mod}
use Rattle.scenario_gen.specs.Draws.{drawn}
use Rattle.scenario_gen.proofs.draws.next.Goals as goal

pub returns : goal.returns
unfolding drawn
returns c = mod-add-mod (c.args.number * 6364136223846793005) (2 ^ 64) 1442695040888963407
