use Rattle.std.proofs.Common.{◌≡◌, ◌++◌, drop, map}
use Rattle.coordinator.specs.Books.{state_of}
use Rattle.fleet_model.specs.Plans.{own, unfinished}
use Rattle.fleet_texts.specs.StateTexts.{event_line}
use Rattle.fleet_texts.specs.Words.{lines_text}
use Rattle.fleet_report.proofs.state.push_events.Given as goal

abbrev pub invariant-loop-place : goal.invariant-loop-place
invariant-loop-place l =
    l.text.items ++ lines_text (map (event_line l.names l.fleet.site) (drop l.place (own l.robot.0 (unfinished (state_of l.fleet).fleet))))
    ≡ l.initial.text.items ++ lines_text (map (event_line l.names l.fleet.site) (own l.robot.0 (unfinished (state_of l.fleet).fleet)))
