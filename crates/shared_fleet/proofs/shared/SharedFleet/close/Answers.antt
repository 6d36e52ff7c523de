use Rattle.std.proofs.Common.{◌≡◌, ◌≤◌, [], length, slice_index_or, subst}
use Rattle.turn_lock.specs.Locks.{behind}
use Rattle.shared_fleet.specs.Tokens.{Shared, of_robot}
use Rattle.shared_fleet.proofs.shared.SharedFleet.close.Goals as goal

pub returns-clause-seen : goal.returns-clause-seen
returns-clause-seen c = λ k d near. (c.take_in-fleet.ensures.known k d near).seen

pub returns-clause-mine : goal.returns-clause-mine
returns-clause-mine c = λ k d near.
    subst (λ (t : Shared). of_robot (slice_index_or c.args.passes.items k d).robot (behind t.opening.journal c.take_in-fleet.result.fleet.journal) ≡ (slice_index_or c.args.passes.items k d).mine) c.self.view_is
    (c.take_in-fleet.ensures.known k d near).own

pub returns-clause-others : goal.returns-clause-others
returns-clause-others c = λ n.
    subst (λ (t : Shared). length t.opening.starts ≤ n → of_robot n (behind t.opening.journal c.take_in-fleet.result.fleet.journal) ≡ []) c.self.view_is (c.take_in-fleet.ensures.others n)
