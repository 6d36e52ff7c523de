use Rattle.std.proofs.Common.{◌≡◌, false, [], ◌∷◌, ◌++◌, ap, sym, subst, ◌∙◌, arith}
use Rattle.std.specs.Prelude.{Ok}
use Rattle.std.specs.Option.{option_to_list}
use Rattle.fleet_base.specs.declared.answers.ProposeRefused.TheVariants as refused
use Rattle.fleet_base.specs.declared.answers.Proposed.TheVariants as proposed
use Rattle.fleet_base.specs.declared.entries.Act.TheVariants as act
use Rattle.fleet_model.specs.Lists.{when}
use Rattle.fleet_model.specs.Segments.{mark_at}
use Rattle.fleet_model.specs.States.{is_full, is_past}
use Rattle.fleet_model.specs.Calls.{propose}
use Rattle.coordinator.specs.Books.{Book, IsAnswer, state_of, with_entries}
use Rattle.coordinator.specs.Kept.{shown}
use Rattle.coordinator.specs.Proposals.{WouldDefer}
use Rattle.coordinator.proofs.DeferredRoutes.{answer_is, book_then, kept_then}
use Rattle.coordinator.proofs.coordinator.Coordinator.defer_proposal.Goals as goal

pub returns-clause-answer : goal.returns-clause-answer
returns-clause-answer c =
    let would = subst (λ b. WouldDefer b c.args.robot.0 c.args.cells.now c.args.needed c.args.blocker) (sym c.self.view_is) c.requires in
    let room = subst (λ (b : Book). is_full (state_of b) 2 ≡ false) (sym c.self.view_is) (sym c.is_full.ensures ∙ c.if-is_full.false) in
    subst (λ b. IsAnswer refused.NoMemory (Ok (proposed.Deferred c.block-block.result)) (propose (state_of b) c.args.robot.0 c.args.cells.now).answer) c.self.view_is
    (answer_is c.self.inside c.self.invariant c.args.robot.0 c.args.cells.now c.args.needed c.args.blocker would room c.defer.new.self c.in-Ok-Ok-Ok-Ok.pending c.in-Ok-Ok-Ok-Ok.ensures' c.defer.ensures c.block-block.result c.block-block.ensures)

pub invariant_of-self-2 : goal.invariant_of-self-2
invariant_of-self-2 c =
    let mark_is : c.new_mark-mark.result ≡ when (is_past (state_of (shown c.self.inside)) 2) (mark_at (state_of (shown c.self.inside))) =
    subst (λ (b : Book). c.new_mark-mark.result ≡ when (is_past (state_of b) 2) (mark_at (state_of b))) (sym c.self.view_is) c.new_mark-mark.ensures
    in
    let would = subst (λ b. WouldDefer b c.args.robot.0 c.args.cells.now c.args.needed c.args.blocker) (sym c.self.view_is) c.requires in
    let room = subst (λ (b : Book). is_full (state_of b) 2 ≡ false) (sym c.self.view_is) (sym c.is_full.ensures ∙ c.if-is_full.false) in
    kept_then c.self.inside c.self.invariant c.args.robot.0 c.args.cells.now c.args.needed c.args.blocker would room c.defer.new.self c.in-Ok-Ok-Ok-Ok.pending c.in-Ok-Ok-Ok-Ok.ensures' c.defer.ensures c.block-block.result c.block-block.ensures c.in-Ok-Ok-Ok-Ok.route c.in-Ok-Ok-Ok-Ok.ensures c.push_reserved.new.self c.put_mark.new.marks
    (c.push_reserved.ensures.items ∙ ap (λ es. es ++ record { robot = c.args.robot; act = act.Deferred c.in-Ok-Ok-Ok-Ok.route c.block-block.result.cycle } ∷ []) c.reserve.ensures.items)
    (omega (arith, c.push_reserved.ensures.len, c.reserve.ensures.len))
    (omega (arith, c.push_reserved.ensures.capacity, c.in-Ok-Ok-Ok-Ok.ensures''.ok, c.reserve.ensures.len))
    (c.put_mark.ensures ∙ λ i. c.reserve-2.ensures.items i ++ option_to_list (mark_is i))

pub returns-clause-book : goal.returns-clause-book
returns-clause-book c =
    let mark_is : c.new_mark-mark.result ≡ when (is_past (state_of (shown c.self.inside)) 2) (mark_at (state_of (shown c.self.inside))) =
    subst (λ (b : Book). c.new_mark-mark.result ≡ when (is_past (state_of b) 2) (mark_at (state_of b))) (sym c.self.view_is) c.new_mark-mark.ensures
    in
    let would = subst (λ b. WouldDefer b c.args.robot.0 c.args.cells.now c.args.needed c.args.blocker) (sym c.self.view_is) c.requires in
    let room = subst (λ (b : Book). is_full (state_of b) 2 ≡ false) (sym c.self.view_is) (sym c.is_full.ensures ∙ c.if-is_full.false) in
    subst (λ b. shown (record c.self.inside { journal = c.push_reserved.new.self; marks = c.put_mark.new.marks; tables = c.defer.new.self }) ≡ with_entries b (option_to_list (propose (state_of b) c.args.robot.0 c.args.cells.now).entry)) c.self.view_is
    (book_then c.self.inside c.self.invariant c.args.robot.0 c.args.cells.now c.args.needed c.args.blocker would room c.defer.new.self c.in-Ok-Ok-Ok-Ok.pending c.in-Ok-Ok-Ok-Ok.ensures' c.defer.ensures c.block-block.result c.block-block.ensures c.in-Ok-Ok-Ok-Ok.route c.in-Ok-Ok-Ok-Ok.ensures c.push_reserved.new.self c.put_mark.new.marks
    (c.push_reserved.ensures.items ∙ ap (λ es. es ++ record { robot = c.args.robot; act = act.Deferred c.in-Ok-Ok-Ok-Ok.route c.block-block.result.cycle } ∷ []) c.reserve.ensures.items)
    (omega (arith, c.push_reserved.ensures.len, c.reserve.ensures.len))
    (omega (arith, c.push_reserved.ensures.capacity, c.in-Ok-Ok-Ok-Ok.ensures''.ok, c.reserve.ensures.len))
    (c.put_mark.ensures ∙ λ i. c.reserve-2.ensures.items i ++ option_to_list (mark_is i)))
