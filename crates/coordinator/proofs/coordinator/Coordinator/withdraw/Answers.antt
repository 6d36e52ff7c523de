use Rattle.std.proofs.Common.{◌≡◌, sym, subst}
use Rattle.std.specs.Prelude.{Ok}
use Rattle.std.specs.Option.{option_to_list}
use Rattle.fleet_model.specs.Calls.{withdraw}
use Rattle.coordinator.specs.Books.{state_of, with_entries}
use Rattle.coordinator.specs.Endings.{IsRemoval}
use Rattle.coordinator.specs.Kept.{shown}
use Rattle.coordinator.proofs.KeptNext.{robot_is}
use Rattle.coordinator.proofs.MergedRoutes.{tables_known, told}
use Rattle.coordinator.proofs.Withdrawing.{answer_is, book_then, cell_then, enough_here, kept_then, owed_enough, unawaited}
use Rattle.coordinator.proofs.coordinator.Coordinator.withdraw.Goals as goal

pub cut-requires-clause-ends : goal.cut-requires-clause-ends
cut-requires-clause-ends c =
    let found = subst (λ b. IsRemoval b c.args.robot.0 c.in_ok-found.found) (sym c.self.view_is) c.in_ok-found.ensures.found in
    tables_known c.self.inside c.self.invariant c.args.robot.0 (robot_is c.self.inside c.self.invariant c.args.robot.0 found.known)

pub cut-requires-clause-told : goal.cut-requires-clause-told
cut-requires-clause-told c = told c.self.inside c.self.invariant c.args.robot.0

pub cut-requires-clause-end : goal.cut-requires-clause-end
cut-requires-clause-end c =
    let found = subst (λ b. IsRemoval b c.args.robot.0 c.in_ok-found.found) (sym c.self.view_is) c.in_ok-found.ensures.found in
    cell_then c.self.inside c.self.invariant c.args.robot.0 c.in_ok-found.found found

pub cut-requires-clause-unfinished : goal.cut-requires-clause-unfinished
cut-requires-clause-unfinished c =
    let found = subst (λ b. IsRemoval b c.args.robot.0 c.in_ok-found.found) (sym c.self.view_is) c.in_ok-found.ensures.found in
    enough_here c.self.inside c.self.invariant c.args.robot.0 c.in_ok-found.found found

pub cut-requires-clause-unawaited : goal.cut-requires-clause-unawaited
cut-requires-clause-unawaited c =
    let found = subst (λ b. IsRemoval b c.args.robot.0 c.in_ok-found.found) (sym c.self.view_is) c.in_ok-found.ensures.found in
    unawaited c.self.inside c.self.invariant c.args.robot.0 c.in_ok-found.found found

pub cut-requires-clause-owed : goal.cut-requires-clause-owed
cut-requires-clause-owed c =
    let found = subst (λ b. IsRemoval b c.args.robot.0 c.in_ok-found.found) (sym c.self.view_is) c.in_ok-found.ensures.found in
    owed_enough c.self.inside c.self.invariant c.args.robot.0 c.in_ok-found.found found

pub invariant_of-self : goal.invariant_of-self
invariant_of-self c =
    let found = subst (λ b. IsRemoval b c.args.robot.0 c.in_ok-found.found) (sym c.self.view_is) c.in_ok-found.ensures.found in
    kept_then c.self.inside c.self.invariant c.args.robot.0 c.in_ok-found.found found c.push_reserved.new.self c.cut.new.self c.cut.ensures c.push_reserved.ensures.items c.push_reserved.ensures.len c.push_reserved.ensures.capacity

pub returns-clause-answer : goal.returns-clause-answer
returns-clause-answer c =
    let found = subst (λ b. IsRemoval b c.args.robot.0 c.in_ok-found.found) (sym c.self.view_is) c.in_ok-found.ensures.found in
    subst (λ b. Ok c.in_ok-found.found ≡ (withdraw (state_of b) c.args.robot.0).answer) c.self.view_is (answer_is c.self.inside c.self.invariant c.args.robot.0 c.in_ok-found.found found)

pub returns-clause-book : goal.returns-clause-book
returns-clause-book c =
    let found = subst (λ b. IsRemoval b c.args.robot.0 c.in_ok-found.found) (sym c.self.view_is) c.in_ok-found.ensures.found in
    subst (λ b. shown (record c.self.inside { journal = c.push_reserved.new.self; tables = c.cut.new.self }) ≡ with_entries b (option_to_list (withdraw (state_of b) c.args.robot.0).entry)) c.self.view_is
    (book_then c.self.inside c.self.invariant c.args.robot.0 c.in_ok-found.found found c.push_reserved.new.self c.cut.new.self c.cut.ensures c.push_reserved.ensures.items c.push_reserved.ensures.len c.push_reserved.ensures.capacity)
