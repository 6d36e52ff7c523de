use Rattle.fleet_model.proofs.Holdings.{holdings-opening}
use Rattle.fleet_model.proofs.Tables.{ends-opening, places-opening}
use Rattle.robot_tables.proofs.laws.openings_are_at_starts.Goals as goal

pub returns : goal.returns
returns c = λ site starts pending next cap is_site counted.
    let ends = ends-opening site starts pending next cap in
    let places = places-opening site starts pending next cap in
    let holdings = holdings-opening site starts pending next cap is_site counted in
    λ i. record { ends = ends i; places = places i; holdings = holdings i }
