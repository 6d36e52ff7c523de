-- A cancel that no refusal fits.
use Rattle.std.proofs.Common.{◌≡◌, ℕ, ◌<◌, List, length, Some, None, refl}
use Rattle.std.proofs.lemmas.Bool.{lt-ltb}
use Rattle.fleet_base.specs.declared.entries.Act.TheVariants as act
use Rattle.fleet_base.specs.declared.numbers.CellNo.{CellNo}
use Rattle.fleet_model.specs.States.{State, pending_of}
use Rattle.fleet_model.specs.Calls.{accepted, cancel, moved}

pub canceled : (s : State) (r : ℕ) (old : List CellNo) → r < length s.fleet.starts → pending_of s r ≡ Some old → cancel s r ≡ accepted tt r act.Canceled (moved s s.fleet r None)
canceled s r old known some = rw (lt-ltb r (length s.fleet.starts) known, some) refl
