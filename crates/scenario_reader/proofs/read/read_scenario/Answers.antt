use Rattle.std.proofs.Common.{sym, subst, arith}
use Rattle.std.specs.Prelude.{slice_range, drop}
use Rattle.site_lines.specs.Lines.{lines_of}
use Rattle.scenario_reader.specs.Readers.{state_of}
use Rattle.scenario_reader.specs.Reading.{done, scenario_of, step}
use Rattle.scenario_reader.specs.Tables.{FailsAt, GivesAt}
use Rattle.scenario_reader.proofs.Loops.{line_fails, line_passes, lines_end}
use Rattle.scenario_reader.proofs.Steps.{step_reached}
use Rattle.scenario_reader.proofs.read.read_scenario.Goals as goal

pub returns-in-Err : goal.returns-in-Err
unfolding scenario_of
returns-in-Err c =
    subst (λ r. FailsAt r (scenario_of c.args.bytes.now)) (sym c.at.ensures)
    (line_fails step done c.loop-line.number (state_of c.loop-line.reader) (lines_of (drop c.loop-line.at c.args.bytes.now)) (slice_range c.args.bytes.now c.in-Some.line.start c.in-Some.line.stop) (lines_of (drop c.in-Some.line.next c.args.bytes.now)) c.in-Err.stop (scenario_of c.args.bytes.now) c.in-Some.ensures.lines c.in-Err.ensures c.loop-line.invariant.rest)

pub loop-line-preserved : goal.loop-line-preserved
loop-line-preserved c =
    let within = c.in-Some.ensures.within in
    record {
      rest = line_passes step done c.loop-line.number (state_of c.loop-line.reader) (state_of c.in-Ok.next) (lines_of (drop c.loop-line.at c.args.bytes.now)) (slice_range c.args.bytes.now c.in-Some.line.start c.in-Some.line.stop) (lines_of (drop c.in-Some.line.next c.args.bytes.now)) _ c.in-Some.ensures.lines c.in-Ok.ensures c.loop-line.invariant.rest;
      place = omega arith;
      count = omega (arith, c.loop-line.invariant.count);
      reached = step_reached (state_of c.loop-line.reader) (state_of c.in-Ok.next) (slice_range c.args.bytes.now c.in-Some.line.start c.in-Some.line.stop) c.loop-line.invariant.reached c.in-Ok.ensures;
    }

pub returns : goal.returns
unfolding scenario_of
returns c =
    subst (GivesAt (λ scenario. scenario) c.finish.result) (lines_end step done c.loop-line.number (state_of c.loop-line.reader) (lines_of (drop c.loop-line.at c.args.bytes.now)) (scenario_of c.args.bytes.now) c.in_default.ensures.lines c.loop-line.invariant.rest) c.finish.ensures
