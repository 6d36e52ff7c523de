use Rattle.scenario_grammar.proofs.Fronts as fronts
use Rattle.scenario_grammar.proofs.Texts as texts
use Rattle.scenario_grammar.proofs.laws.accepted_texts_are_those_of_the_grammar.Goals as goal

pub returns-clause-sound : goal.returns-clause-sound
returns-clause-sound c = texts.sound

pub returns-clause-complete : goal.returns-clause-complete
returns-clause-complete c = texts.complete

pub returns-clause-valid : goal.returns-clause-valid
returns-clause-valid c = texts.valid

pub returns-clause-one : goal.returns-clause-one
returns-clause-one c = texts.only

pub returns-clause-front_sound : goal.returns-clause-front_sound
returns-clause-front_sound c = fronts.sound

pub returns-clause-front_complete : goal.returns-clause-front_complete
returns-clause-front_complete c = fronts.complete

pub returns-clause-front_one : goal.returns-clause-front_one
returns-clause-front_one c = fronts.only

pub returns-clause-refused : goal.returns-clause-refused
returns-clause-refused c = texts.refused
