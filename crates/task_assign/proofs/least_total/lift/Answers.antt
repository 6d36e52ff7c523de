use Rattle.task_assign.specs.Bounds.{column_in}
use Rattle.task_assign.proofs.Lifting.{small_all, lifted_sound, lifted_placed, lifted_root}
use Rattle.task_assign.proofs.least_total.lift.Goals as goal

pub raise-requires-clause-small : goal.raise-requires-clause-small
raise-requires-clause-small c =
    small_all c.args.costs.now c.args.numbers.now (column_in c.args.pairing.now) c.args.tree.now c.requires.sized c.requires.tree c.requires.ends c.requires.sound c.requires.placed c.least_slack-by.result c.least_slack-by.ensures.room

pub returns-clause-sound : goal.returns-clause-sound
returns-clause-sound c =
    lifted_sound c.args.costs.now c.args.numbers.now (column_in c.args.pairing.now) c.args.tree.now c.requires.sized c.requires.tree c.requires.ends c.requires.sound c.requires.placed c.least_slack-by.result c.least_slack-by.ensures.some c.least_slack-by.ensures.room c.raise.new.numbers c.raise.ensures

pub returns-clause-placed : goal.returns-clause-placed
returns-clause-placed c =
    lifted_placed c.args.costs.now c.args.numbers.now (column_in c.args.pairing.now) c.args.tree.now c.requires.sized c.requires.tree c.requires.ends c.requires.sound c.requires.placed c.least_slack-by.result c.least_slack-by.ensures.some c.least_slack-by.ensures.room c.raise.new.numbers c.raise.ensures

pub returns-clause-raised : goal.returns-clause-raised
returns-clause-raised c =
    lifted_root c.args.costs.now c.args.numbers.now (column_in c.args.pairing.now) c.args.tree.now c.requires.sized c.requires.tree c.requires.ends c.requires.sound c.requires.placed c.least_slack-by.result c.least_slack-by.ensures.some c.least_slack-by.ensures.room c.raise.new.numbers c.raise.ensures
