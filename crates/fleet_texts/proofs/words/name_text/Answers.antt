use Rattle.std.proofs.Common.{refl, sym, arith}
use Rattle.fleet_texts.specs.Words.{name_text}
use Rattle.fleet_texts.proofs.Naming.{no_name}
use Rattle.fleet_texts.proofs.words.name_text.Goals as goal

pub returns-then-number-count_of_kind : goal.returns-then-number-count_of_kind
unfolding name_text
returns-then-number-count_of_kind c = rw c.text.ensures.is refl

pub returns-else-number-count_of_kind : goal.returns-else-number-count_of_kind
returns-else-number-count_of_kind c = sym (no_name c.args.names.now c.args.thing c.len-declared.ensures.declared (omega arith))
