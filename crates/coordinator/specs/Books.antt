-- What callers see of a coordinator, and what a call does to it.
use Rattle.std.specs.Prelude.{◌≡◌, ℕ, ◌⊎◌, List, [], ◌++◌, map, Option, None, Result, Ok, Err}
use Rattle.std.specs.Option.{option_to_list}
use Rattle.fleet_base.specs.declared.entries.Entry.{Entry}
use Rattle.fleet_base.specs.declared.numbers.CellNo.{CellNo}
use Rattle.fleet_model.specs.Sites.{IsSite}
use Rattle.fleet_model.specs.States.{State, opening_state}
use Rattle.fleet_model.specs.Good.{IsGood}
use Rattle.fleet_model.specs.Calls.{Step}
use Rattle.fleet_model.specs.Journals.{IsJournal, state_after}
use Rattle.site_map.specs.Built.{BuiltSite}
use Rattle.site_map.specs.Claims.{site_of}

-- the site, where the robots started, the routes that they had pending then, the number with which the run began, the cap, and the journal of all accepted calls
pub record Book : Type 0 where
  pub site : BuiltSite
  pub starts : List CellNo
  pub pending : List (Option (List CellNo))
  pub first : ℕ
  pub cap : ℕ
  pub journal : List Entry

-- the state that the robots started in
abbrev pub opening_of : Book → State
opening_of book = opening_state (site_of book.site) book.starts book.pending book.first book.cap

-- the book without entries of robots that start in these cells with nothing pending, in a run that begins with number 1
abbrev pub start_book : BuiltSite → List CellNo → ℕ → Book
start_book site starts cap = record { site = site; starts = starts; pending = map (λ a. None) starts; first = 1; cap = cap; journal = [] }

-- the state that the journal reaches
abbrev pub state_of : Book → State
state_of book = state_after (opening_of book) book.journal

-- what every coordinator's book keeps: its site is one that the rules speak of, its opening state is good, and its journal is legal from there
pub record IsLegalBook (book : Book) : Type 0 where
  pub site : IsSite (site_of book.site)
  pub opening : IsGood (opening_of book)
  pub legal : IsJournal (opening_of book) book.journal

-- the book with these entries behind its own
abbrev pub with_entries : Book → List Entry → Book
with_entries book entries = record book { journal = book.journal ++ entries }

-- an accepted call adds its entry to the journal, and a refused one leaves the book
abbrev pub book_after : {A E : Type 0} → Result A E → Option Entry → Book → Book
book_after (Ok answer) entry book = with_entries book (option_to_list entry)
book_after (Err refusal) entry book = book

-- with the entry of such a call, where it has one, the book's journal reaches the state that the call leaves
abbrev pub Reaches : {A E : Type 0} → Book → Step A E → Type 0
Reaches book step = state_of (with_entries book (option_to_list step.entry)) ≡ step.after

-- the answer is the machine's; want of memory may stand in the place of an accepted call's alone
abbrev pub IsAnswer : {A E : Type 0} → E → Result A E → Result A E → Type 0
IsAnswer no_memory answer (Ok due) = (answer ≡ Ok due) ⊎ (answer ≡ Err no_memory)
IsAnswer no_memory answer (Err refusal) = answer ≡ Err refusal
