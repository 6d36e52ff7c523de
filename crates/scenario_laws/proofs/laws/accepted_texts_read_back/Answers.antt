use Rattle.scenario_reader.proofs.Accepted.{accepted}
use Rattle.scenario_laws.proofs.AcceptedTexts.{accepted_valid}
use Rattle.scenario_laws.proofs.Ends.{accepted_declared}
use Rattle.scenario_laws.proofs.Whole.{read_again, reads_back, same_again}
use Rattle.scenario_laws.proofs.laws.accepted_texts_read_back.Goals as goal

pub returns : goal.returns
returns c =
    λ text s is.
    let kept = accepted text s is in
    let declared = accepted_declared text s is in
    (read_again s, reads_back s kept declared (accepted_valid text s is), same_again s kept declared)
