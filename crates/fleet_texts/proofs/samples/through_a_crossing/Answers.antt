use Rattle.std.proofs.Common.{refl}
use Rattle.std.specs.Fmt.{digits}
use Rattle.fleet_model.specs.Sites.{links_from, link_cost, footprint_of, in_conflict}
use Rattle.fleet_texts.specs.Answers.{look_text}
use Rattle.fleet_texts.specs.StateTexts.{state_text}
use Rattle.fleet_texts.specs.Texts.{entry_text, journal_text}
use Rattle.fleet_texts.specs.Words.{name_text, claim_text}
use Rattle.fleet_texts.proofs.samples.through_a_crossing.Goals as goal

pub returns : goal.returns
unfolding digits links_from link_cost footprint_of in_conflict look_text state_text entry_text journal_text name_text claim_text
returns c = refl
