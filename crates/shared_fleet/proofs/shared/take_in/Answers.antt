use Rattle.std.proofs.Common.{rules, ◌≡◌, ◌<◌, List, [], ◌∷◌, ◌++◌, length, ap, ◌∙◌, arith}
use Rattle.shared_fleet.specs.Tokens.{Token}
use Rattle.shared_fleet.specs.Resting.{shared_of}
use Rattle.shared_fleet.proofs.Passes.{all_joined, as_many, back_own, each_agrees, in_front, past_all}
use Rattle.shared_fleet.proofs.shared.take_in.Goals as goal

pub join-requires-clause-gone : goal.join-requires-clause-gone
join-requires-clause-gone c =
    let many : length c.args.passes.items ≡ length c.args.lock.opening.fleet.starts = as_many (shared_of c.args.lock c.requires.all.0) c.args.passes.items c.requires.all.1 in
    let some : 0 < length c.args.passes.items = omega arith in
    let front = in_front c.args.passes.items c.remove-leader.new.self.items c.remove-leader.result some c.remove-leader.ensures.value c.remove-leader.ensures.items in
    let popped : c.loop-pass.passes.items ≡ c.pop.new.self.items ++ c.in-Some.pass ∷ [] = search rules in
    let left = c.loop-pass.invariant.1 ∙ ap (λ (m : List Token). m ++ c.loop-pass.invariant.0) popped in
    back_own c.args.lock c.requires.all.0 c.args.passes.items c.remove-leader.new.self.items c.remove-leader.result c.leader.inside.seat c.requires.all.1 front c.leader.view_is c.leader.invariant.0 c.loop-pass.first c.loop-pass.invariant.0 c.loop-pass.invariant.2 c.pop.new.self.items c.in-Some.pass c.pass.inside.seat left c.pass.view_is

pub close-requires-clause-all : goal.close-requires-clause-all
close-requires-clause-all c =
    let many : length c.args.passes.items ≡ length c.args.lock.opening.fleet.starts = as_many (shared_of c.args.lock c.requires.all.0) c.args.passes.items c.requires.all.1 in
    let some : 0 < length c.args.passes.items = omega arith in
    let front = in_front c.args.passes.items c.remove-leader.new.self.items c.remove-leader.result some c.remove-leader.ensures.value c.remove-leader.ensures.items in
    let empty : c.loop-pass.passes.items ≡ [] = search rules in
    let none = c.loop-pass.invariant.1 ∙ ap (λ (m : List Token). m ++ c.loop-pass.invariant.0) empty in
    all_joined c.args.lock c.requires.all.0 c.args.passes.items c.remove-leader.new.self.items c.remove-leader.result c.leader.inside.seat c.requires.all.1 front c.leader.view_is c.leader.invariant.0 c.loop-pass.first c.loop-pass.invariant.0 c.loop-pass.invariant.2 none

pub returns-clause-known : goal.returns-clause-known
returns-clause-known c =
    let many : length c.args.passes.items ≡ length c.args.lock.opening.fleet.starts = as_many (shared_of c.args.lock c.requires.all.0) c.args.passes.items c.requires.all.1 in
    let some : 0 < length c.args.passes.items = omega arith in
    let front = in_front c.args.passes.items c.remove-leader.new.self.items c.remove-leader.result some c.remove-leader.ensures.value c.remove-leader.ensures.items in
    let empty : c.loop-pass.passes.items ≡ [] = search rules in
    let none = c.loop-pass.invariant.1 ∙ ap (λ (m : List Token). m ++ c.loop-pass.invariant.0) empty in
    each_agrees c.args.lock c.requires.all.0 c.args.passes.items c.remove-leader.new.self.items c.remove-leader.result c.leader.inside.seat c.requires.all.1 front c.leader.view_is c.leader.invariant.0 c.loop-pass.first c.loop-pass.invariant.0 c.loop-pass.invariant.2 none c.args.lock.opening.fleet.journal c.close.result.fleet.journal c.close.ensures.known c.close.ensures.joined

pub returns-clause-others : goal.returns-clause-others
returns-clause-others c =
    let many : length c.args.passes.items ≡ length c.args.lock.opening.fleet.starts = as_many (shared_of c.args.lock c.requires.all.0) c.args.passes.items c.requires.all.1 in
    let some : 0 < length c.args.passes.items = omega arith in
    let front = in_front c.args.passes.items c.remove-leader.new.self.items c.remove-leader.result some c.remove-leader.ensures.value c.remove-leader.ensures.items in
    let empty : c.loop-pass.passes.items ≡ [] = search rules in
    let none = c.loop-pass.invariant.1 ∙ ap (λ (m : List Token). m ++ c.loop-pass.invariant.0) empty in
    λ k far. c.close.ensures.others k (past_all c.args.lock c.requires.all.0 c.args.passes.items c.remove-leader.new.self.items c.remove-leader.result c.leader.inside.seat c.requires.all.1 front c.leader.view_is c.leader.invariant.0 c.loop-pass.first c.loop-pass.invariant.0 c.loop-pass.invariant.2 none k far)
