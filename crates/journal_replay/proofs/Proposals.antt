-- The entry of a proposal, by its answer.
use Rattle.std.proofs.Common.{◌≡◌, ◌≢◌, ℕ, List, Option, Some, None, Ok, Err, refl, ap, ◌∙◌}
use Rattle.fleet_base.specs.declared.answers.Block.{Block}
use Rattle.fleet_base.specs.declared.answers.Proposed.{Proposed}
use Rattle.fleet_base.specs.declared.answers.Proposed.TheVariants as proposed
use Rattle.fleet_base.specs.declared.answers.ProposeRefused.{ProposeRefused}
use Rattle.fleet_base.specs.declared.answers.ProposeRefused.TheVariants as propose_refused
use Rattle.fleet_base.specs.declared.entries.Act.{Act}
use Rattle.fleet_base.specs.declared.entries.Act.TheVariants.{Merged, Deferred}
use Rattle.fleet_base.specs.declared.numbers.CellNo.{CellNo}
use Rattle.fleet_model.specs.Calls.{deferring, first_of, in_segment, propose, propose_growth, propose_outcome, propose_refusals, span_of, unless_refused, with_route}
use Rattle.fleet_model.specs.Lists.{first_some}
use Rattle.fleet_model.specs.States.{State, block_of}
use Rattle.fleet_base.specs.declared.entries.Entry.{Entry}
use Rattle.fleet_model.specs.Journals.{turn_at}
use Rattle.coordinator.specs.Books.{Book, IsAnswer, state_of}
use Rattle.journal_replay.specs.Taken.{IsTaken, of_proposal}
use Rattle.journal_replay.proofs.Gives.{accepted_gives, entry_of, refused_gives, refusal_is}

-- what the entry of a proposal with this answer tells
abbrev pub act_of : List CellNo → Proposed → Act
act_of cells (proposed.Merged span) = Merged cells span.first
act_of cells (proposed.Deferred block) = Deferred cells block.cycle

by_block : (o : Option ProposeRefused) (s : State) (r : ℕ) (cells : List CellNo) (block : Option Block) (answer : Proposed) → (unless_refused o s (propose_outcome s r cells block)).answer ≡ Ok answer
    → (unless_refused o s (propose_outcome s r cells block)).entry ≡ Some (entry_of r (act_of cells answer))
by_block o s r cells None answer is =
    let g = accepted_gives o s (proposed.Merged (span_of s cells)) r (Merged cells (first_of s)) (in_segment s (propose_growth s cells None) (with_route s r cells)) answer is in
    g.0 ∙ ap (λ a. Some (entry_of r (act_of cells a))) g.1
by_block o s r cells (Some block) answer is =
    let g = accepted_gives o s (proposed.Deferred block) r (Deferred cells block.cycle) (in_segment s 2 (deferring s r cells)) answer is in
    g.0 ∙ ap (λ a. Some (entry_of r (act_of cells a))) g.1

-- the entry of an accepted proposal tells its answer
pub proposal_gives : (s : State) (r : ℕ) (cells : List CellNo) (answer : Proposed) → (propose s r cells).answer ≡ Ok answer → (propose s r cells).entry ≡ Some (entry_of r (act_of cells answer))
proposal_gives s r cells answer is =
    let block = block_of (deferring s r cells) r cells in
    by_block (first_some (propose_refusals s r cells block)) s r cells block answer is

abbrev outcome_of : State → List CellNo → Option Block → Proposed
outcome_of s cells None = proposed.Merged (span_of s cells)
outcome_of s cells (Some block) = proposed.Deferred block

outcome_is : (s : State) (r : ℕ) (cells : List CellNo) (block : Option Block) → (propose_outcome s r cells block).answer ≡ Ok (outcome_of s cells block)
outcome_is s r cells None = refl
outcome_is s r cells (Some block) = refl

-- a refused one has no entry
pub proposal_refused : (s : State) (r : ℕ) (cells : List CellNo) (refused : ProposeRefused) → refused ≢ propose_refused.NoMemory → IsAnswer propose_refused.NoMemory (Err refused) (propose s r cells).answer → (propose s r cells).entry ≡ None
proposal_refused s r cells refused differs answer =
    let block = block_of (deferring s r cells) r cells in
    refused_gives (first_some (propose_refusals s r cells block)) s (propose_outcome s r cells block) (outcome_of s cells block) refused (outcome_is s r cells block)
    (refusal_is propose_refused.NoMemory refused (propose s r cells).answer differs answer)

-- so an entry whose proposal is refused isn't given
module _ (old new : Book) (r : ℕ) (cells : List CellNo) (entry : Entry) (told : (turn_at (state_of old) entry).entry ≡ (propose (state_of old) r cells).entry) where
  not_proposed : (e : ProposeRefused) → e ≢ propose_refused.NoMemory → IsAnswer propose_refused.NoMemory (Err e) (propose (state_of old) r cells).answer → (turn_at (state_of old) entry).entry ≡ Some entry → ⊥
  not_proposed e some answer given = (let none = proposal_refused (state_of old) r cells e some answer in cc)

  pub refused_taken : (e : ProposeRefused) → IsAnswer propose_refused.NoMemory (Err e) (propose (state_of old) r cells).answer → IsTaken entry old new (Err (of_proposal e))
  refused_taken propose_refused.UnknownRobot answer = not_proposed propose_refused.UnknownRobot (λ x. absurd (cc)) answer
  refused_taken propose_refused.HasPending answer = not_proposed propose_refused.HasPending (λ x. absurd (cc)) answer
  refused_taken propose_refused.Short answer = not_proposed propose_refused.Short (λ x. absurd (cc)) answer
  refused_taken propose_refused.TooLong answer = not_proposed propose_refused.TooLong (λ x. absurd (cc)) answer
  refused_taken (propose_refused.UnknownCell at) answer = not_proposed (propose_refused.UnknownCell at) (λ x. absurd (cc)) answer
  refused_taken (propose_refused.NoLink at) answer = not_proposed (propose_refused.NoLink at) (λ x. absurd (cc)) answer
  refused_taken (propose_refused.BadStart end) answer = not_proposed (propose_refused.BadStart end) (λ x. absurd (cc)) answer
  refused_taken propose_refused.Full answer = not_proposed propose_refused.Full (λ x. absurd (cc)) answer
  refused_taken propose_refused.NoMemory answer = tt
