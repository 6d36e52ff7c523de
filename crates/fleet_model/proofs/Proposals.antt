-- A proposal is deferred exactly where no insertion of it is safe.
use Rattle.std.proofs.Common.{◌≡◌, ℕ, refl, List, Option, Some, None}
use Rattle.std.specs.Prelude.{Ok}
use Rattle.fleet_base.specs.declared.answers.Block.{Block}
use Rattle.fleet_base.specs.declared.answers.ProposeRefused.{ProposeRefused}
use Rattle.fleet_base.specs.declared.answers.Proposed.TheVariants as proposed
use Rattle.fleet_base.specs.declared.entries.Act.TheVariants.{Merged, Deferred}
use Rattle.fleet_base.specs.declared.numbers.CellNo.{CellNo}
use Rattle.fleet_base.specs.declared.numbers.Span.{Span}
use Rattle.fleet_model.specs.Lists.{first_some}
use Rattle.fleet_model.specs.Sites.{IsSite}
use Rattle.fleet_model.specs.States.{State, block_of}
use Rattle.fleet_model.specs.Calls.{unless_refused, propose_refusals, propose_outcome, propose, deferring, first_of}
use Rattle.fleet_model.specs.Good.{IsGood}
use Rattle.fleet_model.specs.Sound.{CanInsert}
use Rattle.fleet_model.proofs.Soundness.{sound_entry}

-- a proposal that answers with a merge adds an entry of it
merged_entry : (s : State) (r : ℕ) (cells : List CellNo) (o : Option ProposeRefused) (block : Option Block) (span : Span) → (unless_refused o s (propose_outcome s r cells block)).answer ≡ Ok (proposed.Merged span)
    → (unless_refused o s (propose_outcome s r cells block)).entry ≡ Some (record { robot = record { 0 = r }; act = Merged cells (first_of s) })
merged_entry s r cells (Some e) block span h = absurd (cc)
merged_entry s r cells None None span h = refl
merged_entry s r cells None (Some b) span h = absurd (cc)

-- a proposal that answers with a deferral adds an entry of it
deferred_entry : (s : State) (r : ℕ) (cells : List CellNo) (o : Option ProposeRefused) (block : Option Block) (by : Block) → (unless_refused o s (propose_outcome s r cells block)).answer ≡ Ok (proposed.Deferred by)
    → (b : Block) × ((unless_refused o s (propose_outcome s r cells block)).entry ≡ Some (record { robot = record { 0 = r }; act = Deferred cells b.cycle }))
deferred_entry s r cells (Some e) block by h = absurd (cc)
deferred_entry s r cells None None by h = absurd (cc)
deferred_entry s r cells None (Some b) by h = (b, refl)

-- a proposal that is merged has a safe insertion
pub merged_safely : (s : State) (r : ℕ) (cells : List CellNo) (span : Span) → IsSite s.fleet.site → IsGood s → (propose s r cells).answer ≡ Ok (proposed.Merged span) → CanInsert s r cells
merged_safely s r cells span is_site good h =
    let block = block_of (deferring s r cells) r cells in
    let e = merged_entry s r cells (first_some (propose_refusals s r cells block)) block span h in
    (sound_entry s (record { robot = record { 0 = r }; act = Merged cells (first_of s) }) is_site good e).merges cells (first_of s) refl

-- one that is deferred has none
pub deferred_rightly : (s : State) (r : ℕ) (cells : List CellNo) (by : Block) → IsSite s.fleet.site → IsGood s → (propose s r cells).answer ≡ Ok (proposed.Deferred by) → CanInsert s r cells → ⊥
deferred_rightly s r cells by is_site good h =
    let block = block_of (deferring s r cells) r cells in
    let e = deferred_entry s r cells (first_some (propose_refusals s r cells block)) block by h in
    (sound_entry s (record { robot = record { 0 = r }; act = Deferred cells e.0.cycle }) is_site good e.1).defers cells e.0.cycle refl
