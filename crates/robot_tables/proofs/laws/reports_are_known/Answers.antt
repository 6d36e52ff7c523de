use Rattle.robot_tables.proofs.Reports.{known, place, report}
use Rattle.robot_tables.proofs.laws.reports_are_known.Goals as goal

pub returns : goal.returns
returns c = record {
  known = λ m e good ready. known m e good ready;
  place = λ m e is_site counted good ready. place m e is_site counted good ready;
  report = λ m e is_site counted good ready. report m e is_site counted good ready;
}
