use Rattle.std.proofs.Common.{◌≡◌, ◌++◌}
use Rattle.std.specs.List.{flat_map}
use Rattle.coordinator.specs.Books.{state_of}
use Rattle.fleet_model.specs.Lists.{numbers_below}
use Rattle.fleet_texts.specs.StateTexts.{robot_lines}
use Rattle.fleet_texts.specs.Words.{lines_text}
use Rattle.fleet_report.proofs.state.push_robots.Given as goal

abbrev pub invariant-loop-number : goal.invariant-loop-number
invariant-loop-number l = l.text.items ≡ l.initial.text.items ++ lines_text (flat_map (robot_lines l.names l.fleet.site (state_of l.fleet)) (numbers_below l.number))
