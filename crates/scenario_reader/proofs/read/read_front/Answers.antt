use Rattle.std.proofs.Common.{◌≡◌, ℕ, suc, ◌+◌, List, Ok, Result, sym, ap, subst, ◌∙◌, arith}
use Rattle.std.specs.Prelude.{slice_range, drop}
use Rattle.site_lines.specs.declared.fault.At.{At}
use Rattle.site_lines.specs.Lines.{lines_of}
use Rattle.site_lines.specs.Readings.{read_from}
use Rattle.scenario.specs.Scenarios.{ScenarioValue}
use Rattle.scenario_reader.specs.Readers.{state_of}
use Rattle.scenario_reader.specs.Reading.{bytes_of_lines, front_done, front_of, front_step, FrontValue}
use Rattle.scenario_reader.specs.States.{AtHeader, State}
use Rattle.scenario_reader.specs.Tables.{mapped, FailsAt}
use Rattle.scenario_reader.proofs.Fronts.{front_found, front_open, front_stops, front_takes, line_used, whole_fails}
use Rattle.scenario_reader.proofs.Loops.{line_fails, line_passes, lines_end}
use Rattle.scenario_reader.proofs.Steps.{step_reached}
use Rattle.scenario_reader.proofs.read.read_front.Goals as goal

-- the front that was found in a text
abbrev front_in_of : List ℕ → ScenarioValue × ℕ → FrontValue
front_in_of text found = record { scenario = found.0; used = bytes_of_lines found.1 text; lines = found.1 }

pub returns-in-Err : goal.returns-in-Err
unfolding front_of
returns-in-Err c =
    let whole : Result (ScenarioValue × ℕ) At = read_from front_step front_done 1 (AtHeader, 0) (lines_of c.args.bytes.now) in
    let raw : List ℕ = slice_range c.args.bytes.now c.in-Some.line.start c.in-Some.line.stop in
    let s : State = state_of c.loop-line.reader in
    subst (λ r. FailsAt r (front_of c.args.bytes.now)) (sym c.at.ensures)
    (whole_fails (front_in_of c.args.bytes.now) whole _
    (line_fails front_step front_done (c.loop-line.lines + 1) (s, c.loop-line.lines) (lines_of (drop c.loop-line.at c.args.bytes.now)) raw (lines_of (drop c.in-Some.line.next c.args.bytes.now)) c.in-Err.stop whole c.in-Some.ensures.lines
    (front_stops s c.loop-line.lines raw c.in-Err.stop c.loop-line.invariant.going c.in-Err.ensures) c.loop-line.invariant.rest))

pub finish-requires : goal.finish-requires
finish-requires c = step_reached (state_of c.loop-line.reader) (state_of c.in-Ok.next) (slice_range c.args.bytes.now c.in-Some.line.start c.in-Some.line.stop) c.loop-line.invariant.reached c.in-Ok.ensures

pub returns-then-is_ended : goal.returns-then-is_ended
unfolding front_of
returns-then-is_ended c =
    let within = c.in-Some.ensures.within in
    let text : List ℕ = c.args.bytes.now in
    let n : ℕ = c.loop-line.lines in
    let whole : Result (ScenarioValue × ℕ) At = read_from front_step front_done 1 (AtHeader, 0) (lines_of text) in
    let s : State = state_of c.loop-line.reader in
    let t : State = state_of c.in-Ok.next in
    let raw : List ℕ = slice_range text c.in-Some.line.start c.in-Some.line.stop in
    let rest : List (List ℕ) = lines_of (drop c.in-Some.line.next text) in
    let passed : read_from front_step front_done (n + 1 + 1) (t, n + 1) rest ≡ whole =
    line_passes front_step front_done (n + 1) (s, n) (t, n + 1) (lines_of (drop c.loop-line.at text)) raw rest whole c.in-Some.ensures.lines (front_takes s t n raw c.loop-line.invariant.going c.in-Ok.ensures) c.loop-line.invariant.rest in
    let found : whole ≡ Ok (c.in_ok-scenario.scenario, n + 1) = sym passed ∙ front_found t (n + 1) (n + 1 + 1) (n + 1) rest c.in_ok-scenario.scenario (sym c.is_ended.ensures ∙ c.if-is_ended.true) c.in_ok-scenario.ensures in
    let before = c.loop-line.invariant.used 1 in
    let step_of = line_used text c.loop-line.at c.in-Some.line 0 (omega arith) c.in-Some.ensures.is in
    let used : bytes_of_lines (n + 1) text ≡ c.in-Some.line.next = omega (arith, before, step_of) in
    ap (λ (r : Result (ScenarioValue × ℕ) At). mapped (front_in_of text) r) found ∙ ap (λ (u : ℕ). Ok (record { scenario = c.in_ok-scenario.scenario; used = u; lines = n + 1 })) used

more : (n k : ℕ) → n + 1 + k ≡ n + suc k
more n k = omega arith

pub loop-line-preserved : goal.loop-line-preserved
loop-line-preserved c =
    let within = c.in-Some.ensures.within in
    let s : State = state_of c.loop-line.reader in
    let raw : List ℕ = slice_range c.args.bytes.now c.in-Some.line.start c.in-Some.line.stop in
    record {
      rest = line_passes front_step front_done (c.loop-line.lines + 1) (s, c.loop-line.lines) (state_of c.in-Ok.next, c.loop-line.lines + 1) (lines_of (drop c.loop-line.at c.args.bytes.now)) raw (lines_of (drop c.in-Some.line.next c.args.bytes.now)) _ c.in-Some.ensures.lines
          (front_takes s (state_of c.in-Ok.next) c.loop-line.lines raw c.loop-line.invariant.going c.in-Ok.ensures) c.loop-line.invariant.rest;
      place = omega arith;
      count = omega (arith, c.loop-line.invariant.count);
      used = λ k. ap (λ n. bytes_of_lines n c.args.bytes.now) (more c.loop-line.lines k) ∙ c.loop-line.invariant.used (suc k) ∙ line_used c.args.bytes.now c.loop-line.at c.in-Some.line k (omega arith) c.in-Some.ensures.is;
      reached = step_reached s (state_of c.in-Ok.next) raw c.loop-line.invariant.reached c.in-Ok.ensures;
      going = sym c.is_ended.ensures ∙ c.if-is_ended.false;
    }

pub returns : goal.returns
unfolding front_of
returns c =
    let text : List ℕ = c.args.bytes.now in
    let n : ℕ = c.loop-line.lines in
    let whole : Result (ScenarioValue × ℕ) At = read_from front_step front_done 1 (AtHeader, 0) (lines_of text) in
    let s : State = state_of c.loop-line.reader in
    let ended = lines_end front_step front_done (n + 1) (s, n) (lines_of (drop c.loop-line.at text)) whole c.in_default.ensures.lines c.loop-line.invariant.rest in
    ap (λ (r : Result (ScenarioValue × ℕ) At). mapped (front_in_of text) r) (sym ended ∙ front_open s n (n + 1) c.loop-line.invariant.going)
