-- How the robots of a coordinator's book go on with their missions.
use Rattle.std.specs.Prelude.{◌≡◌, ℕ, ◌<◌, Bool, true, false, List, [], ◌∷◌, length, Option, slice_index_or}
use Rattle.std.specs.Option.{is_some, option_to_list}
use Rattle.fleet_base.specs.declared.entries.Entry.{Entry}
use Rattle.mission_model.specs.Stops.{legs_of, served}
use Rattle.mission_model.specs.Policies.{can_go_on, IsQuiet}
use Rattle.mission_model.specs.Runs.{AreSerial, IsNext, serial_entries}
use Rattle.site_map.specs.declared.goal.Goal.{Goal}
use Rattle.coordinator.specs.Books.{Book, opening_of, with_entries}
use Rattle.fleet_outcomes.specs.Fleets.{missions_in}

-- how many of its legs robot r has served
abbrev pub served_in : Book → List (List Goal) → ℕ → ℕ
served_in book missions r = served (legs_of (missions_in book missions) r) (opening_of book) book.journal r

-- these are the counts of the robots' served legs
pub record AreCounts (book : Book) (missions : List (List Goal)) (counts : List ℕ) : Type 0 where
  pub all : length counts ≡ length book.starts
  pub each : (r : ℕ) → r < length book.starts → slice_index_or counts r 0 ≡ served_in book missions r

-- robot r can go on
abbrev pub goes_in : Book → List (List Goal) → ℕ → Bool
goes_in book missions r = can_go_on (missions_in book missions) (opening_of book) book.journal r

-- no robot can go on
abbrev pub IsQuietIn : Book → List (List Goal) → Type 0
IsQuietIn book missions = IsQuiet (missions_in book missions) (opening_of book) book.journal

-- the entries by which the robots go on serially until none can
abbrev pub serial_in : Book → List (List Goal) → List Entry
serial_in book missions = serial_entries (missions_in book missions) (opening_of book) book.journal

-- a robot went on by this entry, where there is one
pub record WentOn (entry : Option Entry) (old new : Book) (moved : Bool) : Type 0 where
  pub adds : new ≡ with_entries old (option_to_list entry)
  pub told : moved ≡ is_some entry

-- the least robot that can go on went on, by an entry that the book now has behind the old ones
pub record WentNext (missions : List (List Goal)) (old new : Book) : Type 0 where
  pub entry : Entry
  pub adds : new ≡ with_entries old (entry ∷ [])
  pub next : IsNext (missions_in old missions) (opening_of old) old.journal entry

-- the least robot that can go on went on; or none can, and nothing changed
abbrev pub Advanced : List (List Goal) → Book → Book → Bool → Type 0
Advanced missions old new true = WentNext missions old new
Advanced missions old new false = (new ≡ old) × IsQuietIn old missions

-- the robots went on serially, by the entries that the book now has behind the old ones
pub record HasDriven (missions : List (List Goal)) (old new : Book) : Type 0 where
  pub entries : List Entry
  pub adds : new ≡ with_entries old entries
  pub serial : AreSerial (missions_in old missions) (opening_of old) old.journal entries
