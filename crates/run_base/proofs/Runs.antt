-- The opening state of a scenario is good, and a legal journal from it is a sound run.
use Rattle.std.proofs.Common.{List, [], map, None, sym, subst}
use Rattle.std.proofs.lemmas.List.{append-nil}
use Rattle.fleet_base.specs.declared.entries.Entry.{Entry}
use Rattle.fleet_base.specs.declared.limits.TheConstants.{MAX_CAP}
use Rattle.fleet_model.specs.Good.{IsGood}
use Rattle.fleet_model.specs.Journals.{IsJournal, state_after}
use Rattle.fleet_model.specs.Replays.{IsLegal, opening as replayed}
use Rattle.fleet_model.specs.Sites.{IsSite}
use Rattle.fleet_model.proofs.GoodStates.{opening_good}
use Rattle.fleet_model.proofs.Soundness.{journal_sound}
use Rattle.scenario.specs.Scenarios.{IsScenario, ScenarioValue}
use Rattle.scenario.proofs.Openings.{may_open}
use Rattle.site_map.specs.Claims.{site_of}
use Rattle.run_base.specs.Openings.{opening_of}
use Rattle.run_base.specs.Sound.{IsSoundRun}

-- the opening state of a scenario is good
pub opens : (scenario : ScenarioValue) → IsScenario scenario → IsGood (opening_of scenario)
opens scenario is = opening_good (site_of scenario.site) scenario.starts (map (λ a. None) scenario.starts) 1 MAX_CAP (may_open scenario is MAX_CAP)

-- a legal journal from a good state is a sound run
pub sound_run : (scenario : ScenarioValue) (entries : List Entry) → IsSite (site_of scenario.site) → IsGood (opening_of scenario) → IsJournal (opening_of scenario) entries → IsSoundRun scenario entries
sound_run scenario entries site good journal =
    let sound = journal_sound (opening_of scenario) site good entries journal in
    let here = sound.states entries [] (sym (append-nil entries)) in
    let reached = state_after (opening_of scenario) entries in
    record {
      legal = journal;
      sound = sound;
      reported = subst (λ es. IsLegal reached.fleet.site (replayed reached.fleet.site reached.fleet.starts) es) (append-nil reached.fleet.finished) (here.safe [] tt);
    }
