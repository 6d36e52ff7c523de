use Rattle.std.proofs.Common.{ap, ◌/◌, ◌%◌}
use Rattle.scenario_gen.specs.Draws.{draw}
use Rattle.scenario_gen.proofs.draws.Draws.draw.Goals as goal

pub returns-clause-value : goal.returns-clause-value
unfolding draw
returns-clause-value c = ap (λ n. n / 4294967296 % c.args.bound) c.next-self.ensures
