use Rattle.std.proofs.Common.{refl}
use Rattle.fleet_model.proofs.GoodStates.{opening_good}
use Rattle.fleet_model.specs.States.{opening_state}
use Rattle.fleet_model.proofs.Marks.{at_mark, last_mark, mark_inside, mark_numbers}
use Rattle.fleet_model.proofs.Marks as marks
use Rattle.fleet_model.proofs.segment_laws.marks_rise.Goals as goal

pub returns : goal.returns
returns c = record {
  rise = λ site starts pending next cap journal earlier mark other later is_site opens legal are.
      marks.marks_rise (opening_state site starts pending next cap) is_site (opening_good site starts pending next cap opens) refl refl journal legal earlier mark other later are;
  inside = λ site starts pending next cap journal first earlier mark later is_site opens legal are.
      mark_inside (opening_state site starts pending next cap) is_site (opening_good site starts pending next cap opens) refl refl journal legal first earlier mark later are;
  last = λ site starts pending next cap journal earlier mark is_site opens legal are.
      last_mark (opening_state site starts pending next cap) is_site (opening_good site starts pending next cap opens) refl refl journal legal earlier mark are;
  numbers = λ site starts pending next cap journal earlier mark later is_site opens legal are.
      let s = at_mark (opening_state site starts pending next cap) is_site (opening_good site starts pending next cap opens) refl refl journal legal earlier mark later are in
      mark_numbers (opening_state site starts pending next cap) journal mark s.0 s.1;
}
