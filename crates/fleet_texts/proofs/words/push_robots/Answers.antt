use Rattle.std.proofs.Common.{get_or, sym, ◌∙◌, arith}
use Rattle.std.proofs.lemmas.Option.{slice_get-get_or}
use Rattle.fleet_base.specs.declared.numbers.RobotNo.{RobotNo}
use Rattle.fleet_texts.specs.Words.{robot_text}
use Rattle.fleet_texts.proofs.Spacing.{word_more}
use Rattle.fleet_texts.proofs.words.push_robots.Goals as goal
use Rattle.fleet_texts.proofs.words.push_robots.Goals.{in-Some+in_ok-push_robot, in_default}

pub loop-place-preserved : goal.loop-place-preserved
loop-place-preserved c = elim c.match-get.branch [
  | in-Some+in_ok-push_robot w ↦
      word_more (robot_text c.args.names.now) c.args.robots.now c.loop-place.place w.in-Some.robot c.loop-place.text.items c.match-get.text.items (sym w.in-Some.ensures) (rw w.text-is w.in_ok-push_robot.ensures.ok)
      ∙ c.loop-place.invariant
  | in_default w ↦
      let first : RobotNo = record { 0 = 0 } in
      absurd (w.in_default.not-Some (get_or c.args.robots.now c.loop-place.place first) (c.get.ensures ∙ slice_get-get_or c.args.robots.now c.loop-place.place first (omega arith)))
]
