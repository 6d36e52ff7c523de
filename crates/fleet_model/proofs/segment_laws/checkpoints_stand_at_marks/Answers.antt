use Rattle.std.proofs.Common.{refl, sym, ap, ◌∙◌}
use Rattle.fleet_model.specs.Plans.{unfinished}
use Rattle.fleet_model.specs.Segments.{mark_at}
use Rattle.fleet_model.specs.States.{State, opening_state}
use Rattle.fleet_model.proofs.GoodStates.{opening_good}
use Rattle.fleet_model.proofs.Marks.{at_mark, checkpoint_opens}
use Rattle.fleet_model.proofs.segment_laws.checkpoints_stand_at_marks.Goals as goal

pub returns : goal.returns
returns c = record {
  at = λ site starts pending next cap journal earlier mark later is_site opens legal are.
      let s = at_mark (opening_state site starts pending next cap) is_site (opening_good site starts pending next cap opens) refl refl journal legal earlier mark later are in
      s.1.at ∙ ap mark_at (sym s.1.place);
  settled = λ site starts pending next cap journal earlier mark later is_site opens legal are.
      let s = at_mark (opening_state site starts pending next cap) is_site (opening_good site starts pending next cap opens) refl refl journal legal earlier mark later are in
      ap (λ (n : State). unfinished n.fleet) s.1.place ∙ s.1.none;
  opening = λ s is_site good few. checkpoint_opens s is_site good few;
}
