-- Calls that report an order of events.
use Rattle.std.specs.Prelude.{ℕ, List, map, Ok}
use Rattle.fleet_base.specs.declared.numbers.Event.{Event}
use Rattle.fleet_model.specs.Calls.{Answer, Call, Report, Reports}

-- the reports of these events, each by its robot, in this order
abbrev pub report_calls : List Event → List (ℕ × Call)
report_calls order = map (λ e. (e.robot.0, Report e.no)) order

-- as many reports that are accepted
abbrev pub all_accepted : List Event → List Answer
all_accepted order = map (λ e. Reports (Ok tt)) order
