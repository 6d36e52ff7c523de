use Rattle.std.proofs.Common.{◌≡◌, ◌+◌, ◌<◌, ℕ, length, arith, get_or, drop, sym, ◌∙◌, Some, None, Option}
use Rattle.std.proofs.lemmas.List.{take_at, get_or_read}
use Rattle.slot_chains.proofs.Pushes.{pushed, size_small}
use Rattle.slot_chains.proofs.SlotChains.push_last.Goals as goal

size_is : (c : goal.After-row_known-1) → c.index_mut-2.result.now ≡ get_or c.self.inside.sizes.items c.args.chain 0
size_is c =
    let chain = rw (← c.self.view_is) at c.requires.chain in
    get_or_read c.self.inside.sizes.items c.args.chain c.index_mut-2.result.now (let a = c.self.invariant.sizes_long in omega arith) c.index_mut-2.ensures.value 0

pub overflow_add-index_mut : goal.overflow_add-index_mut
overflow_add-index_mut c =
    let chain = rw (← c.self.view_is) at c.requires.chain in
    let size = size_is c in
    let counted = c.self.invariant.size c.args.chain chain in
    let small = size_small c.args.chain c.self.inside.keys.items in
    let few = c.self.invariant.few in
    let spare = rw (← c.self.view_is) at c.requires.room in
    omega arith

pub invariant_of-self : goal.invariant_of-self
invariant_of-self c =
    let spare = rw (← c.self.view_is) at c.requires.room in
    let chain = rw (← c.self.view_is) at c.requires.chain in
    let slot : c.len-slot.result ≡ length c.self.inside.keys.items = omega (arith, c.len-slot.ensures) in
    let last : c.index-last.result.now ≡ get_or c.self.inside.lasts.items c.args.chain None = get_or_read c.self.inside.lasts.items c.args.chain c.index-last.result.now (let a = c.self.invariant.lasts_long in omega arith) c.index-last.ensures None in
    let size = get_or_read c.self.inside.sizes.items c.args.chain c.index_mut-2.result.now (let a = c.self.invariant.sizes_long in omega arith) c.index_mut-2.ensures.value 0 in
    let ends = take_at c.link.new.ends (drop (length c.link.new.ends) c.self.inside.firsts.items) c.self.inside.firsts.len (omega (arith, c.link.auto.ends, c.deref_mut-2.ensures.len)) in
    let table = take_at c.link.new.table (drop (length c.link.new.table) c.self.inside.behind.items) c.self.inside.behind.len (omega (arith, c.link.auto.table, c.deref_mut.ensures.len)) in
    rw (c.push_reserved.ensures.items, c.push_reserved-2.ensures.items, c.push_reserved-3.ensures.items, ends, c.link.ensures.ends, c.deref_mut-2.ensures.value, table, c.link.ensures.table, c.deref_mut.ensures.value, size, slot)
    (pushed _ _ _ _ _ _ c.self.invariant (omega (arith, spare)) c.args.chain chain c.index-last.result.now (sym last))
