use Rattle.std.proofs.Common.{◌≡◌, ◌+◌, ◌<◌, ◌≤◌, ℕ, zero, length, arith, get_or, drop, sym, ◌∙◌, subst, List, Some, None, Option}
use Rattle.std.proofs.lemmas.List.{take_at, get_or_read}
use Rattle.slot_chains.specs.Slots.{IsIn, IsFirst, IsLast, IsWithin}
use Rattle.slot_chains.proofs.Pushes.{in_range}
use Rattle.slot_chains.proofs.Removals.{removed, some_left}
use Rattle.slot_chains.proofs.SlotChains.remove.Goals as goal
use Rattle.slot_chains.proofs.SlotChains.remove.Goals.{After-deref_mut-2}

slot_is : (c : After-deref_mut-2) → c.args.slot < length c.self.inside.keys.items
slot_is c = rw (← c.self.view_is) at c.requires

chain_is : (c : After-deref_mut-2) → IsIn c.self.inside.keys.items c.in-Some.chain c.args.slot
chain_is c = sym (get_or_read c.self.inside.keys.items c.args.slot c.index.result.now (slot_is c) c.index.ensures None) ∙ c.in-Some.is

chain_within : (c : After-deref_mut-2) → c.in-Some.chain < length c.self.inside.firsts.items
chain_within c = c.self.invariant.named c.in-Some.chain c.args.slot (chain_is c)

front_is : (c : After-deref_mut-2) → get_or c.self.inside.before.items c.args.slot None ≡ c.index-before.result.now
front_is c = sym (get_or_read c.self.inside.before.items c.args.slot c.index-before.result.now (let a = slot_is c in let b = c.self.invariant.before_long in omega arith) c.index-before.ensures None)

back_is : (c : After-deref_mut-2) → get_or c.self.inside.behind.items c.args.slot None ≡ c.index-behind.result.now
back_is c = sym (get_or_read c.self.inside.behind.items c.args.slot c.index-behind.result.now (let a = slot_is c in let b = c.self.invariant.behind_long in omega arith) c.index-behind.ensures None)

last_within : (keys : List (Option ℕ)) (k i n : ℕ) (s : Option ℕ) → IsLast keys k i s → length keys ≡ n → IsWithin s n
last_within keys k i n None h e = tt
last_within keys k i n (Some j) h e = let r = in_range keys k j h.1 in omega arith

first_within : (keys : List (Option ℕ)) (k i n : ℕ) (s : Option ℕ) → IsFirst keys k i s → length keys ≡ n → IsWithin s n
first_within keys k i n None h e = tt
first_within keys k i n (Some j) h e = let r = in_range keys k j h.1 in omega arith

pub link-requires-clause-place : goal.link-requires-clause-place
link-requires-clause-place c =
    last_within c.self.inside.keys.items c.in-Some.chain c.args.slot _ c.index-before.result.now
    (subst (λ s. IsLast c.self.inside.keys.items c.in-Some.chain c.args.slot s) (front_is c) (c.self.invariant.previous c.in-Some.chain c.args.slot (chain_is c)))
    (rw c.deref_mut.ensures.value (let b = c.self.invariant.behind_long in omega arith))

pub link-requires-clause-end : goal.link-requires-clause-end
link-requires-clause-end c = rw c.deref_mut-2.ensures.value (chain_within c)

pub link-requires-2-clause-place : goal.link-requires-2-clause-place
link-requires-2-clause-place c =
    first_within c.self.inside.keys.items c.in-Some.chain (c.args.slot + 1) _ c.index-behind.result.now
    (subst (λ s. IsFirst c.self.inside.keys.items c.in-Some.chain (c.args.slot + 1) s) (back_is (goal.at.link-requires-2-clause-place c).After-deref_mut-2) (c.self.invariant.next c.in-Some.chain c.args.slot (chain_is (goal.at.link-requires-2-clause-place c).After-deref_mut-2)))
    (rw c.deref_mut-3.ensures.value (let b = c.self.invariant.before_long in omega arith))

pub link-requires-2-clause-end : goal.link-requires-2-clause-end
link-requires-2-clause-end c = rw c.deref_mut-4.ensures.value (let a = c.self.invariant.lasts_long in let b = chain_within (goal.at.link-requires-2-clause-end c).After-deref_mut-2 in omega arith)

pub index_mut-requires : goal.index_mut-requires
index_mut-requires c = let a = c.self.invariant.sizes_long in let b = chain_within (goal.at.index_mut-requires c).After-deref_mut-2 in omega arith

pub overflow_sub-index_mut : goal.overflow_sub-index_mut
overflow_sub-index_mut c =
    let chain = chain_within (goal.at.overflow_sub-index_mut c).After-deref_mut-2 in
    let a = get_or_read c.self.inside.sizes.items c.in-Some.chain c.index_mut.result.now (let a = c.self.invariant.sizes_long in omega arith) c.index_mut.ensures.value 0 in
    let b = some_left _ _ _ _ _ _ c.self.invariant c.in-Some.chain c.args.slot (chain_is (goal.at.overflow_sub-index_mut c).After-deref_mut-2) in omega arith

pub invariant_of-self : goal.invariant_of-self
invariant_of-self c =
    let chain = chain_within (goal.at.invariant_of-self c).After-deref_mut-2 in
    let size = get_or_read c.self.inside.sizes.items c.in-Some.chain c.index_mut.result.now (let a = c.self.invariant.sizes_long in omega arith) c.index_mut.ensures.value 0 in
    let firsts = take_at c.link.new.ends (drop (length c.link.new.ends) c.self.inside.firsts.items) c.self.inside.firsts.len (omega (arith, c.link.auto.ends, c.deref_mut-2.ensures.len)) in
    let behind = take_at c.link.new.table (drop (length c.link.new.table) c.self.inside.behind.items) c.self.inside.behind.len (omega (arith, c.link.auto.table, c.deref_mut.ensures.len)) in
    let lasts = take_at c.link-2.new.ends (drop (length c.link-2.new.ends) c.self.inside.lasts.items) c.self.inside.lasts.len (omega (arith, c.link-2.auto.ends, c.deref_mut-4.ensures.len)) in
    let before = take_at c.link-2.new.table (drop (length c.link-2.new.table) c.self.inside.before.items) c.self.inside.before.len (omega (arith, c.link-2.auto.table, c.deref_mut-3.ensures.len)) in
    rw (firsts, behind, lasts, before, c.link.ensures.ends, c.link.ensures.table, c.link-2.ensures.ends, c.link-2.ensures.table, c.deref_mut.ensures.value, c.deref_mut-2.ensures.value, c.deref_mut-3.ensures.value, c.deref_mut-4.ensures.value, size)
    (removed _ _ _ _ _ _ c.self.invariant c.in-Some.chain c.args.slot (chain_is (goal.at.invariant_of-self c).After-deref_mut-2) c.index-before.result.now c.index-behind.result.now (front_is (goal.at.invariant_of-self c).After-deref_mut-2) (back_is (goal.at.invariant_of-self c).After-deref_mut-2))
