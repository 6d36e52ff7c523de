-- Refusals of each kind: what holds of them, and from which they are made.
use Rattle.std.specs.Prelude.{ℕ}
use Rattle.coordinator.specs.declared.refused.NewRefused.{NewRefused}
use Rattle.coordinator.specs.declared.refused.ResumeRefused as checkpoint
use Rattle.coordinator.specs.declared.refused.ResumeRefused.TheVariants as given
use Rattle.journal_replay.specs.declared.refused.EntriesRefused.{EntriesRefused}
use Rattle.journal_replay.specs.declared.refused.EntriesRefused.TheVariants as entries
use Rattle.journal_replay.specs.declared.refused.ReplayRefused.{ReplayRefused}
use Rattle.journal_replay.specs.declared.refused.ReplayRefused.TheVariants as replaying
use Rattle.journal_replay.specs.declared.refused.ResumeRefused.{ResumeRefused}
use Rattle.journal_replay.specs.declared.refused.ResumeRefused.TheVariants as resuming

-- a refusal of entries, as one of a replay and as one of a resumed journal
abbrev pub of_entries : EntriesRefused → ReplayRefused
of_entries (entries.Differs entry) = replaying.Differs entry
of_entries entries.NoMemory = replaying.NoMemory

abbrev pub of_resumed : EntriesRefused → ResumeRefused
of_resumed (entries.Differs entry) = resuming.Differs entry
of_resumed entries.NoMemory = resuming.NoMemory

-- a refusal of a checkpoint
abbrev pub of_checkpoint : checkpoint.ResumeRefused → ResumeRefused
of_checkpoint (given.New cause) = resuming.New cause
of_checkpoint given.BadNext = resuming.BadNext
of_checkpoint (given.BadPending robot) = resuming.BadPending robot
of_checkpoint given.Crowded = resuming.Crowded
of_checkpoint given.NoMemory = resuming.NoMemory

-- it holds of the cause where the starts are refused
abbrev pub OnNew : (NewRefused → Type 0) → ReplayRefused → Type 0
OnNew P (replaying.New cause) = P cause
OnNew P (replaying.Differs entry) = Unit {0}
OnNew P replaying.NoMemory = Unit {0}

-- it holds of the cause where the checkpoint is refused
abbrev pub OnCheckpoint : (checkpoint.ResumeRefused → Type 0) → ResumeRefused → Type 0
OnCheckpoint P (resuming.New cause) = P (given.New cause)
OnCheckpoint P resuming.BadNext = P given.BadNext
OnCheckpoint P (resuming.BadPending robot) = P (given.BadPending robot)
OnCheckpoint P resuming.Crowded = P given.Crowded
OnCheckpoint P (resuming.Differs entry) = Unit {0}
OnCheckpoint P resuming.NoMemory = Unit {0}

-- it holds of the entry where one differs: of entries, of a replay, and of a resumed journal
abbrev pub OnEntry : (ℕ → Type 0) → EntriesRefused → Type 0
OnEntry P (entries.Differs entry) = P entry
OnEntry P entries.NoMemory = Unit {0}

abbrev pub OnDiffers : (ℕ → Type 0) → ReplayRefused → Type 0
OnDiffers P (replaying.New cause) = Unit {0}
OnDiffers P (replaying.Differs entry) = P entry
OnDiffers P replaying.NoMemory = Unit {0}

abbrev pub OnResumed : (ℕ → Type 0) → ResumeRefused → Type 0
OnResumed P (resuming.New cause) = Unit {0}
OnResumed P resuming.BadNext = Unit {0}
OnResumed P (resuming.BadPending robot) = Unit {0}
OnResumed P resuming.Crowded = Unit {0}
OnResumed P (resuming.Differs entry) = P entry
OnResumed P resuming.NoMemory = Unit {0}
