use Rattle.call_laws.proofs.Reports.{reported_came, reported_free}
use Rattle.call_laws.proofs.laws.cycles_are_reported.Goals as goal

pub returns : goal.returns
returns c = record {
  came = λ opening journal members r sound cycle member came. reported_came opening journal members r sound cycle member came;
  free = λ opening journal members r sound cycle member free. reported_free opening journal members r sound cycle member free;
}
