use Rattle.std.proofs.Common.{◌≡◌, ◌<◌, ℕ, List, length, set, sym, subst, false, arith}
use Rattle.deferral.specs.Tallies.{Marks, is_marked}
use Rattle.deferral.proofs.Tallied.{need_small, need_added, put_one, others_of}
use Rattle.deferral.proofs.tally.Tally.add_need.Goals as goal

pub raise_row-requires-clause-small : goal.raise_row-requires-clause-small
raise_row-requires-clause-small c =
    let needed : List ℕ = c.self.inside.needed.items in
    let kept : List ℕ = c.self.inside.kept.items in
    let place = c.args.claim.0 in
    let robot = c.args.robot.0 in
    let known = subst (λ (m : Marks). place < length m.needed) (sym c.self.view_is) c.requires.known in
    let room : place < length kept = (let both = c.self.invariant.both in omega arith) in
    need_small needed (set needed place c.with.result) kept place robot
    (put_one needed place robot c.index.result.now c.with.result known c.index.ensures c.with.ensures (subst (λ (m : Marks). is_marked m.needed place robot ≡ false) (sym c.self.view_is) c.requires.free))
    c.without-keepers.result c.without-keepers.type_inv c.requires.robot
    (others_of kept place robot c.index-2.result.now c.without-keepers.result room c.index-2.ensures c.without-keepers.ensures)
    c.self.inside.matrix c.self.invariant

pub invariant_of-self : goal.invariant_of-self
invariant_of-self c =
    let needed : List ℕ = c.self.inside.needed.items in
    let kept : List ℕ = c.self.inside.kept.items in
    let place = c.args.claim.0 in
    let robot = c.args.robot.0 in
    let known = subst (λ (m : Marks). place < length m.needed) (sym c.self.view_is) c.requires.known in
    let room : place < length kept = (let both = c.self.invariant.both in omega arith) in
    need_added needed (set needed place c.with.result) kept place robot
    (put_one needed place robot c.index.result.now c.with.result known c.index.ensures c.with.ensures (subst (λ (m : Marks). is_marked m.needed place robot ≡ false) (sym c.self.view_is) c.requires.free))
    c.without-keepers.result c.without-keepers.type_inv c.requires.robot
    (others_of kept place robot c.index-2.result.now c.without-keepers.result room c.index-2.ensures c.without-keepers.ensures)
    c.self.inside.matrix c.raise_row.new.self c.self.invariant c.raise_row.ensures
