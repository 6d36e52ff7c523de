use Rattle.std.proofs.Common.{◌≡◌, ◌<◌, ℕ, List, length, set, sym, subst, false, arith}
use Rattle.deferral.specs.Tallies.{Marks, is_marked}
use Rattle.deferral.proofs.Tallied.{keeper_small, keeper_added, put_one, others_of}
use Rattle.deferral.proofs.tally.Tally.add_keeper.Goals as goal

pub raise_column-requires-clause-small : goal.raise_column-requires-clause-small
raise_column-requires-clause-small c =
    let needed : List ℕ = c.self.inside.needed.items in
    let kept : List ℕ = c.self.inside.kept.items in
    let place = c.args.claim.0 in
    let robot = c.args.robot.0 in
    let known = subst (λ (m : Marks). place < length m.kept) (sym c.self.view_is) c.requires.known in
    let room : place < length needed = (let both = c.self.invariant.both in omega arith) in
    keeper_small kept (set kept place c.with.result) needed place robot
    (put_one kept place robot c.index.result.now c.with.result known c.index.ensures c.with.ensures (subst (λ (m : Marks). is_marked m.kept place robot ≡ false) (sym c.self.view_is) c.requires.free))
    c.without-waiting.result c.without-waiting.type_inv c.requires.robot
    (others_of needed place robot c.index-2.result.now c.without-waiting.result room c.index-2.ensures c.without-waiting.ensures)
    (sym c.self.invariant.both)
    c.self.inside.matrix c.self.invariant

pub invariant_of-self : goal.invariant_of-self
invariant_of-self c =
    let needed : List ℕ = c.self.inside.needed.items in
    let kept : List ℕ = c.self.inside.kept.items in
    let place = c.args.claim.0 in
    let robot = c.args.robot.0 in
    let known = subst (λ (m : Marks). place < length m.kept) (sym c.self.view_is) c.requires.known in
    let room : place < length needed = (let both = c.self.invariant.both in omega arith) in
    keeper_added kept (set kept place c.with.result) needed place robot
    (put_one kept place robot c.index.result.now c.with.result known c.index.ensures c.with.ensures (subst (λ (m : Marks). is_marked m.kept place robot ≡ false) (sym c.self.view_is) c.requires.free))
    c.without-waiting.result c.without-waiting.type_inv c.requires.robot
    (others_of needed place robot c.index-2.result.now c.without-waiting.result room c.index-2.ensures c.without-waiting.ensures)
    (sym c.self.invariant.both)
    c.self.inside.matrix c.raise_column.new.self c.self.invariant c.raise_column.ensures
