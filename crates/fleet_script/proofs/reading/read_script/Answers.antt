use Rattle.std.proofs.Common.{arith}
use Rattle.scenario_reader.proofs.FrontSizes.{front_within}
use Rattle.scenario_reader.specs.Readers.{front_value}
use Rattle.fleet_script.proofs.reading.read_script.Goals as goal

pub overflow_add-front : goal.overflow_add-front
overflow_add-front c =
    let fits = front_within c.args.input.now (front_value c.in_ok-front.front) c.in_ok-front.ensures in
    omega (arith, fits.0, fits.1)

pub read_commands-requires-clause-within : goal.read_commands-requires-clause-within
read_commands-requires-clause-within c = (front_within c.args.input.now (front_value c.in_ok-front.front) c.in_ok-front.ensures).0

pub read_commands-requires-clause-numbered : goal.read_commands-requires-clause-numbered
read_commands-requires-clause-numbered c =
    let fits = front_within c.args.input.now (front_value c.in_ok-front.front) c.in_ok-front.ensures in
    omega (arith, fits.0, fits.1)
