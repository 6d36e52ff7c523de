-- Segments of a journal: the marks at which they begin, the checkpoints there, and what a segment is alone.
use Rattle.std.specs.Prelude.{◌≡◌, ℕ, Bool, not, ◌==◌, if◌then◌else◌, List, [], ◌∷◌, ◌++◌, length, take, drop}
use Rattle.fleet_base.specs.declared.entries.Entry.{Entry}
use Rattle.fleet_base.specs.declared.marks.Mark.{Mark}
use Rattle.fleet_model.specs.Plans.{cell_of, end_of, own, unfinished}
use Rattle.fleet_model.specs.Deferral.{ends}
use Rattle.fleet_model.specs.States.{State, opening_state, pending_of}
use Rattle.fleet_model.specs.Journals.{IsJournal, state_after, turn_at}
use Rattle.fleet_model.specs.Tables.{held_by}

-- the mark at a state: how many accepted calls stand before it, and its next number
abbrev pub mark_at : State → Mark
mark_at s = record { before = s.count; next = record { 0 = s.fleet.next } }

-- an entry opens a segment where another base stands behind it
abbrev pub opens_segment : State → Entry → Bool
opens_segment s entry = not ((turn_at s entry).after.base == s.base)

-- the marks before those of these entries that open a segment
abbrev pub inner_marks : State → List Entry → List Mark
inner_marks s [] = []
inner_marks s (entry ∷ entries) = (if opens_segment s entry then mark_at s ∷ [] else []) ++ inner_marks (turn_at s entry).after entries

-- the marks of a journal: at its opening state, and before each entry that opens a segment
abbrev pub marks : State → List Entry → List Mark
marks opening journal = mark_at opening ∷ inner_marks opening journal

-- the opening state of the checkpoint at a state: each robot stands in its end and keeps its pending route, and numbers go on
abbrev pub checkpoint_state : State → State
checkpoint_state s = opening_state s.fleet.site (ends s.fleet) s.pending s.fleet.next s.cap

-- the place at which a segment ends: the mark behind its own, or the journal's end
abbrev pub segment_end : List Mark → List Entry → ℕ
segment_end [] journal = length journal
segment_end (mark ∷ later) journal = mark.before

-- the entries from one place of a journal to another
abbrev pub entries_between : ℕ → ℕ → List Entry → List Entry
entries_between from upto journal = drop from (take upto journal)

-- the next number is the same, and of each robot the cell, the end, the held claims, the unfinished events and the pending route
pub record ShowsSame (s t : State) : Type 0 where
  pub next : t.fleet.next ≡ s.fleet.next
  pub cell : (r : ℕ) → cell_of t.fleet r ≡ cell_of s.fleet r
  pub end : (r : ℕ) → end_of t.fleet r ≡ end_of s.fleet r
  pub holds : (r : ℕ) → held_by t.fleet r ≡ held_by s.fleet r
  pub left : (r : ℕ) → own r (unfinished t.fleet) ≡ own r (unfinished s.fleet)
  pub pending : (r : ℕ) → pending_of t r ≡ pending_of s r

-- entries from a state stand alone: from the checkpoint there, with the same cap, they are legal, open no segment, and reach the same
pub record StandAlone (s : State) (entries : List Entry) : Type 0 where
  pub legal : IsJournal (checkpoint_state s) entries
  pub whole : inner_marks (checkpoint_state s) entries ≡ []
  pub same : ShowsSame (state_after s entries) (state_after (checkpoint_state s) entries)
