-- How a reader is seen.
use Rattle.scenario_reader.specs.Reading.{FrontValue}
use Rattle.scenario_reader.specs.States.{State, AtHeader, AmongSite, AmongRobots, InMission, Ended}
use Rattle.scenario_reader.specs.declared.read.Front.{Front}
use Rattle.scenario_reader.specs.declared.reader.Reader.{Reader}
use Rattle.scenario_reader.specs.declared.reader.Reader.TheVariants as readers

-- where the reader is
abbrev pub state_of : Reader → State
state_of readers.Header = AtHeader
state_of (readers.Site declared flows) = AmongSite flows declared
state_of (readers.Fleet fleet) = AmongRobots fleet
state_of (readers.Mission fleet mission) = InMission fleet mission
state_of (readers.Ended fleet) = Ended fleet

-- a front as one value
abbrev pub front_value : Front → FrontValue
front_value f = record { scenario = f.scenario; used = f.used; lines = f.lines }
