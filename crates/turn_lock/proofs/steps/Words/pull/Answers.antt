use Rattle.std.proofs.Common.{rules, Some, ◌∷◌, ◌∙◌, ap, sym}
use Rattle.atomic_table.specs.Table.{rest}
use Rattle.turn_lock.proofs.steps.Words.pull.Goals as goal

pub exchange-requires : goal.exchange-requires
exchange-requires g c = let x = c.requires.slot.0 in let e = c.requires.slot.1 in (search rules, (Some x, e ∙ ap (λ l. (0, Some x) ∷ l) (sym (ap rest e))))
