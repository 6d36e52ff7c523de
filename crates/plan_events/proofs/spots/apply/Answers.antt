use Rattle.std.proofs.Common.{refl}
use Rattle.std.proofs.lemmas.Option.{slice_get-get_or}
use Rattle.plan_events.proofs.KeptSpots.{acquires, moves, releases}
use Rattle.plan_events.proofs.spots.apply.Goals as goal

pub returns-in-Acquire : goal.returns-in-Acquire
returns-in-Acquire c =
    let spots = c.args.spots.now in
    let event = c.args.event.now in
    acquires spots event _ _ c.requires.robot (slice_get-get_or spots event.robot.0 c.index-spots-event.result c.requires.robot) c.in-Acquire.claim c.insert.new.self c.in-Acquire.is refl c.insert.ensures

pub returns-in-Move : goal.returns-in-Move
returns-in-Move c =
    let spots = c.args.spots.now in
    let event = c.args.event.now in
    moves spots event _ _ c.requires.robot (slice_get-get_or spots event.robot.0 c.index-spots-event.result c.requires.robot) c.in-Move.field-0 c.in-Move.to c.in-Move.is refl

pub returns-in-Release : goal.returns-in-Release
returns-in-Release c =
    let spots = c.args.spots.now in
    let event = c.args.event.now in
    releases spots event _ _ c.requires.robot (slice_get-get_or spots event.robot.0 c.index-spots-event.result c.requires.robot) c.in-Release.claim c.remove.new.self c.in-Release.is refl c.remove.ensures
