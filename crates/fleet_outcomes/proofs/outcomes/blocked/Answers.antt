use Rattle.std.proofs.Common.{◌<◌, ◌∙◌, [], length, ap, subst, sym}
use Rattle.fleet_base.specs.Lists.{robots_of}
use Rattle.mission_model.specs.Outcomes.{blockers_on}
use Rattle.coordinator.specs.Books.{state_of}
use Rattle.robot_worker.specs.Legs.{leg_cells}
use Rattle.fleet_outcomes.proofs.Judging.{blocker_known, is_behind, is_detour_full, is_in_cycle}
use Rattle.fleet_outcomes.proofs.outcomes.blocked.Goals as goal

pub blockers_from-requires : goal.blockers_from-requires
blockers_from-requires c =
    λ q e. subst (λ xs. q < length xs) c.journal-kept.ensures.same_starts (blocker_known (state_of c.args.fleet.now) c.args.robot.0 q (sym c.blocker_of-first.ensures ∙ e))

pub returns-then-is_empty : goal.returns-then-is_empty
returns-then-is_empty c =
    let s = state_of c.args.fleet.now in
    is_behind s c.args.robot.0 (leg_cells c.args.fleet.now.site c.args.leg) c.requires.rests c.requires.pending c.requires.held c.cycle_of-cycle.result c.cycle_of-cycle.ensures c.blockers_from.result (sym c.is_empty.ensures ∙ c.if-is_empty.true)
    (c.blockers_from.ensures ∙ ap (λ o. robots_of (blockers_on s (length s.fleet.starts) [] o)) c.blocker_of-first.ensures)

pub returns-then-leads_round : goal.returns-then-leads_round
returns-then-leads_round c =
    is_detour_full (state_of c.args.fleet.now) c.args.robot.0 (leg_cells c.args.fleet.now.site c.args.leg) c.requires.rests c.requires.pending c.requires.held c.cycle_of-cycle.result c.cycle_of-cycle.ensures (sym c.is_empty.ensures ∙ c.if-is_empty.false)
    (sym c.if-leads_round.true ∙ c.in_ok-leads_round.ensures)

pub returns : goal.returns
returns c =
    is_in_cycle (state_of c.args.fleet.now) c.args.robot.0 (leg_cells c.args.fleet.now.site c.args.leg) c.requires.rests c.requires.pending c.requires.held c.cycle_of-cycle.result c.cycle_of-cycle.ensures (sym c.is_empty.ensures ∙ c.if-is_empty.false)
    (sym c.if-leads_round.false ∙ c.in_ok-leads_round.ensures)
