-- Cycles of deferrals are reported where a member's pending route came with the journal.
use Rattle.std.proofs.Common.{◌≡◌, ℕ, inl, inr, List, ◌∷◌, None, refl, sym, subst, ◌∙◌}
use Rattle.fleet_base.specs.declared.entries.Act.TheVariants.{Deferred}
use Rattle.fleet_base.specs.declared.entries.Entry.{Entry}
use Rattle.fleet_model.specs.Journals.{state_after}
use Rattle.fleet_model.specs.Lists.{In, here}
use Rattle.fleet_model.specs.Sound.{AreCyclesSound, IsCycle, IsReported}
use Rattle.fleet_model.specs.States.{State, pending_of}
use Rattle.fleet_model.proofs.Lists.{In-append_right}
use Rattle.fleet_model.proofs.Rotations.{cycle_closed}
use Rattle.call_laws.specs.Reports.{CameWith}

module _ (opening : State) (journal : List Entry) (members : List ℕ) (r : ℕ) (sound : AreCyclesSound opening journal) (cycle : IsCycle (state_after opening journal) members) (member : In r members) where
  pub reported_came : CameWith journal r → IsReported members journal
  reported_came came = elim (sound.reported members cycle) [
    | inl none ↦ absurd (none.1 deferral (subst (λ es. In deferral es) (sym came.splits) (In-append_right came.before (deferral ∷ came.behind) (here refl))) member tt)
    | inr so ↦ so
  ]
    where
      deferral : Entry
      deferral = record { robot = record { 0 = r }; act = Deferred came.route came.cycle }

  pub reported_free : pending_of opening r ≡ None → IsReported members journal
  reported_free free = elim (sound.reported members cycle) [
    | inl none ↦ absurd (let on = cycle_closed opening members none.0 r member in let some = on.2.pending in cc)
    | inr so ↦ so
  ]
