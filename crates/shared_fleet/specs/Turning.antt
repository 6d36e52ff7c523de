-- What a call through a pass does.
use Rattle.std.specs.Prelude.{◌≡◌, ◌≢◌, ℕ, ◌+◌, Option, List, [], ◌++◌, Result, Ok, Err}
use Rattle.std.specs.Option.{option_to_list}
use mathlib.Core.List.{IsPrefix}
use Rattle.fleet_base.specs.declared.answers.CancelRefused.TheVariants as cancel_refused
use Rattle.fleet_base.specs.declared.answers.ProposeRefused.TheVariants as propose_refused
use Rattle.fleet_base.specs.declared.answers.ReplanRefused.TheVariants as replan_refused
use Rattle.fleet_base.specs.declared.answers.ReportRefused.TheVariants as report_refused
use Rattle.fleet_base.specs.declared.answers.RetryRefused.TheVariants as retry_refused
use Rattle.fleet_base.specs.declared.answers.WithdrawRefused.TheVariants as withdraw_refused
use Rattle.fleet_base.specs.declared.entries.Entry.{Entry}
use Rattle.fleet_base.specs.declared.path.NoMemory.{NoMemory}
use Rattle.fleet_calls.specs.declared.answer.Answer.{Answer}
use Rattle.fleet_calls.specs.Calls.{answer_of}
use Rattle.fleet_model.specs.Calls as machine
use Rattle.fleet_model.specs.Calls.{Call, Proposes, Retries, Cancels, Withdraws, Replans, Reports, Looks, Step, turn}
use Rattle.fleet_model.specs.Journals.{IsJournal, state_after}
use Rattle.fleet_model.specs.States.{State}
use Rattle.coordinator.specs.Books.{opening_of}
use Rattle.turn_lock.specs.Locks.{behind}
use Rattle.shared_fleet.specs.Tokens.{Shared, Token, of_robot}

-- the pass once it has had a turn in which it found this journal and added these entries
abbrev pub with_turn : Token → List Entry → List Entry → Token
with_turn pass found added = record pass { turns = pass.turns + 1; seen = found ++ added; mine = pass.mine ++ added }

-- one turn of a pass. What it finds is the one history as long as it has the turn: a legal journal that begins with the opening one and with what the pass has seen, and whose entries of the robot behind the opening are the pass's own. What the call does is told of the state that this journal reaches and of the entries that it adds
pub record HasTurn (fleet : Shared) (does : State → List Entry → Type 0) (pass after : Token) : Type 0 where
  pub found : List Entry
  pub added : List Entry
  pub legal : IsJournal (opening_of fleet.opening) found
  pub opens : IsPrefix fleet.opening.journal found
  pub begins : IsPrefix pass.seen found
  pub mine_found : of_robot pass.robot (behind fleet.opening.journal found) ≡ pass.mine
  pub mine_seen : of_robot pass.robot (behind fleet.opening.journal pass.seen) ≡ pass.mine
  pub did : does (state_after (opening_of fleet.opening) found) added
  pub after_is : after ≡ with_turn pass found added

-- what a robot's call does at a state: it is answered as the machine answers it, and the machine's entry, if there is one, is added; or no memory is left, and nothing is
abbrev pub Does : ℕ → Call → Result Answer NoMemory → State → List Entry → Type 0
Does robot call (Ok told) s added = (answer_of told ≡ (turn s robot call).answer) × (added ≡ option_to_list (turn s robot call).entry)
Does robot call (Err no_memory) s added = added ≡ []

-- an accepted call adds its entry, and a refused one none
abbrev pub added_by : {A E : Type 0} → Result A E → Option Entry → List Entry
added_by (Ok answer) entry = option_to_list entry
added_by (Err refusal) entry = []

-- the same of one kind of call, by what its answer has to do with the machine's
abbrev pub DoesStep : {A E : Type 0} → (Result A E → Result A E → Type 0) → (State → Step A E) → Result A E → State → List Entry → Type 0
DoesStep answers step told s added = answers told (step s).answer × (added ≡ added_by told (step s).entry)

-- the answer isn't that the robot is unknown
abbrev pub IsOfKnown : machine.Answer → Type 0
IsOfKnown (Proposes told) = told ≢ Err propose_refused.UnknownRobot
IsOfKnown (Retries told) = told ≢ Err retry_refused.UnknownRobot
IsOfKnown (Cancels told) = told ≢ Err cancel_refused.UnknownRobot
IsOfKnown (Withdraws told) = told ≢ Err withdraw_refused.UnknownRobot
IsOfKnown (Replans told) = told ≢ Err replan_refused.UnknownRobot
IsOfKnown (Reports told) = told ≢ Err report_refused.UnknownRobot
IsOfKnown (Looks told) = told ≢ Err (record {})
