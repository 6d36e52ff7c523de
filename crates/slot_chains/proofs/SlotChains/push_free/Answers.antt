use Rattle.std.proofs.Common.{arith}
use Rattle.slot_chains.proofs.Pushes.{free_pushed}
use Rattle.slot_chains.proofs.SlotChains.push_free.Goals as goal

pub invariant_of-self : goal.invariant_of-self
invariant_of-self c = rw (c.push_reserved.ensures.items, c.push_reserved-2.ensures.items, c.push_reserved-3.ensures.items) (free_pushed _ _ _ _ _ _ c.self.invariant (let spare = rw (← c.self.view_is) at c.requires in omega arith))
