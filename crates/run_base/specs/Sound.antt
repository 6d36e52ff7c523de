-- What holds of every run: its journal is legal and sound.
use Rattle.std.specs.Prelude.{List}
use Rattle.fleet_base.specs.declared.entries.Entry.{Entry}
use Rattle.fleet_model.specs.Journals.{IsJournal, state_after}
use Rattle.fleet_model.specs.Plans.{Fleet}
use Rattle.fleet_model.specs.Replays.{IsLegal, opening}
use Rattle.fleet_model.specs.Sound.{IsSoundJournal}
use Rattle.scenario.specs.Scenarios.{ScenarioValue}
use Rattle.run_base.specs.Openings.{opening_of}

-- the events that were reported can happen in this order: no robot acquires what conflicts with what another holds
abbrev pub IsLegalReplay : Fleet → Type 0
IsLegalReplay m = IsLegal m.site (opening m.site m.starts) m.finished

-- the entries are a legal journal from the scenario's opening, sound at each of its places, and what it reports is a legal replay
pub record IsSoundRun (scenario : ScenarioValue) (entries : List Entry) : Type 0 where
  pub legal : IsJournal (opening_of scenario) entries
  pub sound : IsSoundJournal (opening_of scenario) entries
  pub reported : IsLegalReplay (state_after (opening_of scenario) entries).fleet
