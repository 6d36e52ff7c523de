use Rattle.book_laws.specs.Calls.{AnswersPropose}
use Rattle.coordinator_tests.proofs.book_laws_calls.propose_exactly.Goals as goal

pub returns : goal.returns
returns c = λ may room memory.
    c.deferral_is_exact.ensures.call_merged c.args.robot.0 c.args.cells.now c.propose.result c.propose.new.self may
    (record { answer = c.propose.ensures.answer; book_is = c.propose.ensures.book }) room memory
