use Rattle.fleet_model.proofs.GoodStates.{opening_good, journal_good}
use Rattle.fleet_model.proofs.Turns.{call_good}
use Rattle.fleet_model.proofs.journal_laws.states_stay_good.Goals as goal

pub returns : goal.returns
returns c = record {
  opens = λ site starts pending next cap h. opening_good site starts pending next cap h;
  calls = λ s r call is_site good. (call_good s r call is_site good).0;
  site = λ s r call is_site good. (call_good s r call is_site good).1;
  journals = λ s journal is_site good h. (journal_good s journal is_site good h).0;
}
