-- What becomes of an entry that is replayed.
use Rattle.std.specs.Prelude.{◌≡◌, ◌+◌, [], ◌∷◌, length, Some, Result, Ok, Err}
use Rattle.coordinator.specs.Books.{Book, state_of, with_entries}
use Rattle.fleet_base.specs.declared.answers.ProposeRefused.{ProposeRefused}
use Rattle.fleet_base.specs.declared.answers.ProposeRefused.TheVariants as propose
use Rattle.fleet_base.specs.declared.answers.ReplanRefused.{ReplanRefused}
use Rattle.fleet_base.specs.declared.answers.ReplanRefused.TheVariants as replan
use Rattle.fleet_base.specs.declared.answers.RetryRefused.{RetryRefused}
use Rattle.fleet_base.specs.declared.answers.RetryRefused.TheVariants as retry
use Rattle.fleet_base.specs.declared.entries.Entry.{Entry}
use Rattle.fleet_model.specs.Journals.{turn_at}
use Rattle.fleet_model.specs.States.{State}
use Rattle.journal_replay.specs.declared.entry.EntryRefused.{EntryRefused}
use Rattle.journal_replay.specs.declared.entry.EntryRefused.TheVariants.{Differs, NoMemory}
use Rattle.journal_replay.specs.declared.refused.EntriesRefused.{EntriesRefused}
use Rattle.journal_replay.specs.declared.refused.EntriesRefused.TheVariants as entries

-- a refusal of a proposal, and of a retry
abbrev pub of_proposal : ProposeRefused → EntryRefused
of_proposal propose.UnknownRobot = Differs
of_proposal propose.HasPending = Differs
of_proposal propose.Short = Differs
of_proposal propose.TooLong = Differs
of_proposal (propose.UnknownCell at) = Differs
of_proposal (propose.NoLink at) = Differs
of_proposal (propose.BadStart end) = Differs
of_proposal propose.Full = Differs
of_proposal propose.NoMemory = NoMemory

abbrev pub of_retry : RetryRefused → EntryRefused
of_retry retry.UnknownRobot = Differs
of_retry retry.NoPending = Differs
of_retry (retry.StillDeferred block) = Differs
of_retry retry.Full = Differs
of_retry retry.NoMemory = NoMemory

-- a refusal of a replan
abbrev pub of_replan : ReplanRefused → EntryRefused
of_replan replan.UnknownRobot = Differs
of_replan replan.NoPending = Differs
of_replan replan.AtGoal = Differs
of_replan replan.NoDetour = Differs
of_replan replan.Full = Differs
of_replan replan.NoMemory = NoMemory

-- the machine gives this entry where the entry's call is made
abbrev pub IsGiven : State → Entry → Type 0
IsGiven s entry = (turn_at s entry).entry ≡ Some entry

-- an entry that the machine gives stands in the journal then, and one that differs isn't given
abbrev pub IsTaken : Entry → Book → Book → Result (Unit {0}) EntryRefused → Type 0
IsTaken entry old new (Ok done) = IsGiven (state_of old) entry × (new ≡ with_entries old (entry ∷ []))
IsTaken entry old new (Err Differs) = IsGiven (state_of old) entry → ⊥
IsTaken entry old new (Err NoMemory) = Unit {0}

-- The same of one entry of a journal: one that differs is numbered behind those that stand in the book.
abbrev pub IsReplayed : Entry → Book → Result Book EntriesRefused → Type 0
IsReplayed entry book (Ok new) = IsGiven (state_of book) entry × (new ≡ with_entries book (entry ∷ []))
IsReplayed entry book (Err (entries.Differs n)) = (IsGiven (state_of book) entry → ⊥) × (n ≡ length book.journal + 1)
IsReplayed entry book (Err entries.NoMemory) = Unit {0}
