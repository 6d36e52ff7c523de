use Rattle.std.proofs.Common.{◌<◌, All, ℕ, subst}
use Rattle.fleet_base.specs.declared.numbers.CellNo.{CellNo}
use Rattle.fleet_commands.proofs.SiteNames.{none_unknown}
use Rattle.fleet_commands.proofs.laws.declared_things_are_of_the_site.Goals as goal

pub returns-clause-cells : goal.returns-clause-cells
returns-clause-cells c = λ names site cells count are. none_unknown site cells (subst (λ (n : ℕ). All (λ (d : CellNo). d.0 < n) cells) count are)
