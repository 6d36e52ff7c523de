use Rattle.std.proofs.Common.{refl, subst}
use Rattle.fleet_names.specs.Names.{AreDeclared}
use Rattle.site_map.specs.Valid.{IsValidSite}
use Rattle.scenario.specs.Scenarios.{IsScenario}
use Rattle.scenario_laws.proofs.Followed.{front_again, reads_front}
use Rattle.scenario_laws.proofs.Whole.{read_again, reads_back, same_again}
use Rattle.scenario_laws.proofs.values.scenario_reads_back.Goals as goal

pub returns : goal.returns
returns c =
    let s = c.args.scenario.now in
    let is : IsScenario s = record {
      some = c.starts.ensures.some;
      few = c.starts.ensures.few;
      starts = c.starts.ensures.known;
      apart = c.starts.ensures.apart;
      named = c.names.ensures.all;
      missions = c.missions.ensures.all;
      legs = c.missions.ensures.goals;
    } in
    let declared : AreDeclared s.names = subst AreDeclared c.names.ensures.is c.len.ensures.declared in
    let valid : IsValidSite s.site = subst IsValidSite c.site.ensures c.cell_count.ensures.valid in
    record {
      whole = (read_again s, reads_back s is declared valid, same_again s is declared);
      front = λ tail. (front_again s, reads_front s is declared valid tail, same_again s is declared, refl, refl);
    }
