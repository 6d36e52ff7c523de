-- Members of a cycle of deferrals are still deferred.
use Rattle.std.proofs.Common.{◌≡◌, ℕ, ◌<◌, List, length, Option, Some, None, Err, refl, sym, ap, subst}
use Rattle.std.proofs.lemmas.Bool.{lt-ltb}
use Rattle.std.specs.Option.{is_none}
use Rattle.fleet_base.specs.Lists.{robots_of}
use Rattle.fleet_base.specs.declared.answers.Block.{Block}
use Rattle.fleet_base.specs.declared.answers.RetryRefused.TheVariants.{StillDeferred}
use Rattle.fleet_base.specs.declared.entries.Entry.{Entry}
use Rattle.fleet_base.specs.declared.numbers.ClaimNo.{ClaimNo}
use Rattle.fleet_model.specs.Calls.{retry}
use Rattle.fleet_model.specs.Deferral.{least_blocker}
use Rattle.fleet_model.specs.Good.{IsGood}
use Rattle.fleet_model.specs.Journals.{IsJournal, state_after}
use Rattle.fleet_model.specs.Lists.{In}
use Rattle.fleet_model.specs.Deferral.{ends}
use Rattle.fleet_model.specs.Plans.{IsBlocker}
use Rattle.fleet_model.specs.Sites.{IsSite, needs}
use Rattle.fleet_model.specs.Sound.{IsCycle, IsTrueTo}
use Rattle.fleet_model.specs.States.{IsDeferredOn, State, cycle_of, pending_route}
use Rattle.fleet_model.proofs.Bindings.{cycle_binds}
use Rattle.fleet_model.proofs.Blockers.{none_unblocked}
use Rattle.fleet_model.proofs.Deferrals.{deferred_below, pending_is}
use Rattle.fleet_model.proofs.GoodStates.{journal_good}
use Rattle.fleet_model.proofs.Rotations.{cycle_closed}

-- a robot that is deferred on another answers a retry so
pub still : (s : State) (r q : ℕ) → r < length s.fleet.starts → IsDeferredOn s r q → (block : Block) × ((retry s r).answer ≡ Err (StillDeferred block))
still s r q known d = go (least_blocker s.fleet.site (ends s.fleet) r (needs s.fleet.site (pending_route s r))) refl
  where
    blocked : IsBlocker s.fleet r (pending_route s r) d.claim q
    blocked = subst (λ route. IsBlocker s.fleet r route d.claim q) (sym (pending_is s r d.route d.pending)) d.blocker

    go : (o : Option (ClaimNo × ℕ)) → least_blocker s.fleet.site (ends s.fleet) r (needs s.fleet.site (pending_route s r)) ≡ o → (block : Block) × ((retry s r).answer ≡ Err (StillDeferred block))
    go None is = absurd (none_unblocked s.fleet r (pending_route s r) is d.claim q blocked)
    go (Some b) is = (record { claim = b.0; by = record { 0 = b.1 }; cycle = robots_of (cycle_of s r) }, rw (lt-ltb r (length s.fleet.starts) known, ap is_none d.pending, is) refl)

pub members_still : (s : State) (members : List ℕ) (journal : List Entry) (r : ℕ) → IsSite s.fleet.site → IsGood s → IsCycle s members → IsJournal s journal → IsTrueTo members journal → In r members
    → (block : Block) × ((retry (state_after s journal) r).answer ≡ Err (StillDeferred block))
members_still s members journal r site good cycle legal true_to member =
    let then = state_after s journal in
    let stands = (cycle_binds s members journal site good cycle legal true_to).0 in
    let on = cycle_closed then members stands r member in
    let kept = (journal_good s journal site good legal).0 in
    still then r on.0 (deferred_below then r on.0 kept.places on.2).0 on.2
