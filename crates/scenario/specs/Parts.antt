-- The scenario of parts.
use Rattle.scenario.specs.declared.scenario.Parts.{Parts}
use Rattle.scenario.specs.Scenarios.{ScenarioValue}

-- the parts as one value
abbrev pub parts_value : Parts → ScenarioValue
parts_value p = record { site = p.site; names = p.names; starts = p.starts; missions = p.missions }
