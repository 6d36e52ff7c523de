use Rattle.std.proofs.Common.{◌≤◌, ◌==◌, ◌++◌, List, [], ◌∷◌, length, inl, inr, sym, ap, ◌∙◌, arith}
use Rattle.std.proofs.lemmas.Option.{slice_get_cases}
use Rattle.coordinator.specs.Books.{state_of}
use Rattle.fleet_base.specs.declared.numbers.Event.{Event}
use Rattle.fleet_model.specs.Plans.{own, unfinished}
use Rattle.fleet_model.proofs.Filters.{length-filter-le}
use Rattle.fleet_texts.specs.StateTexts.{event_line}
use Rattle.fleet_texts.specs.Words.{lines_text}
use Rattle.fleet_report.proofs.Lines.{line_more, none_left}
use Rattle.fleet_report.proofs.state.push_events.Goals as goal

pub returns-in_default-clause-ok : goal.returns-in_default-clause-ok
returns-in_default-clause-ok c =
    let events : List Event = own c.args.robot.0 (unfinished (state_of c.args.fleet.now).fleet) in
    let line = event_line c.args.names.now c.args.fleet.now.site in
    elim (slice_get_cases events c.loop-place.place).1 [
      | inl some ↦ absurd (c.in_default.not-Some some.0 (c.unfinished.ensures ∙ some.2))
      | inr past ↦ sym (none_left line events c.loop-place.place c.loop-place.text.items past.0) ∙ c.loop-place.invariant
    ]

pub loop-place-preserved : goal.loop-place-preserved
loop-place-preserved c =
    let events : List Event = own c.args.robot.0 (unfinished (state_of c.args.fleet.now).fleet) in
    let line = event_line c.args.names.now c.args.fleet.now.site in
    line_more line events c.loop-place.place c.in-Some.event c.loop-place.text.items c.push_event_line.new.text.items (sym c.in-Some.ensures)
    (c.in_ok-push_event_line.ensures.ok ∙ ap (λ site. c.loop-place.text.items ++ lines_text (event_line c.args.names.now site c.in-Some.event ∷ [])) c.site.ensures)
    ∙ c.loop-place.invariant

pub returns-clause-ok : goal.returns-clause-ok
returns-clause-ok c =
    let left = unfinished (state_of c.args.fleet.now).fleet in
    let events : List Event = own c.args.robot.0 left in
    let line = event_line c.args.names.now c.args.fleet.now.site in
    let few : length events ≤ length left = length-filter-le (λ e. e.robot.0 == c.args.robot.0) left in
    sym (none_left line events c.loop-place.place c.loop-place.text.items (omega (arith, few, c.requires.few, c.cap-place-end.ensures, c.loop-place-test.false))) ∙ c.loop-place.invariant
