use Rattle.std.proofs.Common.{ℕ, subst}
use Rattle.std.specs.Prelude.{Vec}
use Rattle.std.specs.Global.{Global}
use Rattle.fleet_replay.specs.Replay.{replay_text}
use Rattle.fleet_replay.specs.Stops.{Gives}
use Rattle.fleet_replay.proofs.Faults.{fault_in}
use Rattle.fleet_replay.proofs.replay.replay_text.Goals as goal

pub returns-clause-causes : goal.returns-clause-causes
returns-clause-causes c = λ fault is. fault_in c.args.input.now fault (subst (λ r. Gives (λ (text : Vec ℕ Global). text.items) r (replay_text c.args.input.now)) is c.replayed.ensures.is)
