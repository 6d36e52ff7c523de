use Rattle.std.proofs.Common.{◌≡◌, ◌<◌, ◌≤◌, ◌∙◌, ◌∷◌, [], length, sym, ap, arith, rules, None}
use Rattle.std.specs.Option.{option_map}
use Rattle.std.proofs.lemmas.List.{length-append}
use Rattle.fleet_base.specs.declared.numbers.RobotNo.{RobotNo}
use Rattle.coordinator.specs.Books.{state_of}
use Rattle.fleet_outcomes.proofs.Chains.{chain_closes, chain_ends, chain_full, chain_grows}
use Rattle.fleet_outcomes.proofs.Judging.{blocker_known}
use Rattle.fleet_outcomes.proofs.outcomes.blockers_from.Goals as goal

pub returns-in_default : goal.returns-in_default
returns-in_default c =
    let none : c.loop.next ≡ None = search rules in
    chain_ends (state_of c.args.fleet.now) (option_map (λ (q : RobotNo). q.0) c.args.first) c.loop.counter c.loop.robots c.loop.next c.loop.invariant.same none

pub returns-then-is_in : goal.returns-then-is_in
returns-then-is_in c =
    let s = state_of c.args.fleet.now in
    let within : c.loop.counter < length s.fleet.starts = (let l = c.loop-test.true in let n = c.robots-end.ensures.state in omega arith) in
    chain_closes s (option_map (λ (q : RobotNo). q.0) c.args.first) c.loop.counter c.loop.robots c.loop.next c.in-Some.robot within c.loop.invariant.same c.in-Some.is (sym c.is_in.ensures ∙ c.if-is_in.true)

pub loop-preserved : goal.loop-preserved
loop-preserved c =
    let s = state_of c.args.fleet.now in
    let within : c.loop.counter < length s.fleet.starts = (let l = c.loop-test.true in let n = c.robots-end.ensures.state in omega arith) in
    record {
      same = chain_grows s (option_map (λ (q : RobotNo). q.0) c.args.first) c.loop.counter c.loop.robots c.push.new.self c.loop.next c.blocker_of-next.result c.in-Some.robot within c.loop.invariant.same c.in-Some.is (sym c.is_in.ensures ∙ c.if-is_in.false) c.push.ensures c.blocker_of-next.ensures;
      long = (let grown = ap length c.push.ensures in let more = length-append c.loop.robots (c.in-Some.robot ∷ []) in let long = c.loop.invariant.long in omega arith);
      known = λ q e. (let known = blocker_known s c.in-Some.robot.0 q (sym c.blocker_of-next.ensures ∙ e) in let here = c.robots-end.ensures.starts in let there = c.robots-end.ensures.state in omega arith);
    }

pub returns : goal.returns
returns c =
    let s = state_of c.args.fleet.now in
    let past : length s.fleet.starts ≤ c.loop.counter = (let l = c.loop-test.false in let n = c.robots-end.ensures.state in omega arith) in
    chain_full s (option_map (λ (q : RobotNo). q.0) c.args.first) c.loop.counter c.loop.robots c.loop.next past c.loop.invariant.same
