-- Cycles of deferrals that bind their members.
use Rattle.std.specs.Prelude.{◌≡◌, ℕ, List, Err}
use Rattle.fleet_base.specs.declared.answers.Block.{Block}
use Rattle.fleet_base.specs.declared.answers.ProposeRefused.TheVariants.{HasPending}
use Rattle.fleet_base.specs.declared.answers.RetryRefused.TheVariants.{StillDeferred}
use Rattle.fleet_base.specs.declared.entries.Act.TheVariants.{Reported}
use Rattle.fleet_base.specs.declared.entries.Entry.{Entry}
use Rattle.fleet_base.specs.declared.numbers.CellNo.{CellNo}
use Rattle.fleet_base.specs.declared.numbers.EventNo.{EventNo}
use Rattle.fleet_model.specs.Calls.{Call, after_calls, entries_of, propose, retry}
use Rattle.fleet_model.specs.Lists.{In}
use Rattle.fleet_model.specs.Sound.{IsCycle, IsTrueTo}
use Rattle.fleet_model.specs.States.{State}

-- each of these robots is deferred on the next, and the last on the first; so none of them may propose, and a retry of it is still deferred
pub record AreDeferred (s : State) (members : List ℕ) : Type 0 where
  pub cycle : IsCycle s members
  pub proposes : (r : ℕ) (cells : List CellNo) → In r members → (propose s r cells).answer ≡ Err HasPending
  pub retries : (r : ℕ) → In r members → (block : Block) × ((retry s r).answer ≡ Err (StillDeferred block))

-- what the members did in these entries, they reported
abbrev pub OnlyReport : List ℕ → List Entry → Type 0
OnlyReport members entries = (entry : Entry) → In entry entries → In entry.robot.0 members → (event : EventNo) × (entry.act ≡ Reported event)

-- the cycle stands at this state, and it binds: after any calls of any robots, accepted or refused, in which no member cancels, withdraws or replans, it stands, and of the members' calls reports alone added an entry
pub record Binds (s : State) (members : List ℕ) : Type 0 where
  pub now : AreDeferred s members
  pub later : (calls : List (ℕ × Call)) → IsTrueTo members (entries_of s calls) → AreDeferred (after_calls s calls) members
  pub reports : (calls : List (ℕ × Call)) → IsTrueTo members (entries_of s calls) → OnlyReport members (entries_of s calls)
