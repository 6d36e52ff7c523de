use Rattle.std.proofs.Common.{refl}
use Rattle.fleet_model.proofs.GoodStates.{opening_good}
use Rattle.fleet_model.specs.States.{opening_state}
use Rattle.fleet_model.proofs.Marks.{segments_alone}
use Rattle.fleet_model.proofs.segment_laws.segments_stand_alone.Goals as goal

pub returns : goal.returns
returns c site starts pending next cap journal earlier mark later is_site opens legal are =
    segments_alone (opening_state site starts pending next cap) is_site (opening_good site starts pending next cap opens) refl refl journal legal earlier mark later are
