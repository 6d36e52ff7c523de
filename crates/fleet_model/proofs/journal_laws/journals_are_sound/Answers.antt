use Rattle.fleet_model.proofs.Soundness.{journal_sound}
use Rattle.fleet_model.proofs.journal_laws.journals_are_sound.Goals as goal

pub returns : goal.returns
returns c = record { sound = λ opening journal is_site good h. journal_sound opening is_site good journal h }
