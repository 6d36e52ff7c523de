use Rattle.std.proofs.Common.{◌≡◌, ◌<◌, ℕ, List, length, set, sym, subst, true, arith}
use Rattle.deferral.specs.Tallies.{Marks, is_marked}
use Rattle.deferral.proofs.Tallied.{need_some, need_dropped, take_one, others_of}
use Rattle.deferral.proofs.tally.Tally.drop_need.Goals as goal

pub lower_row-requires-clause-some : goal.lower_row-requires-clause-some
lower_row-requires-clause-some c =
    let needed : List ℕ = c.self.inside.needed.items in
    let kept : List ℕ = c.self.inside.kept.items in
    let place = c.args.claim.0 in
    let robot = c.args.robot.0 in
    let known = subst (λ (m : Marks). place < length m.needed) (sym c.self.view_is) c.requires.known in
    let room : place < length kept = (let both = c.self.invariant.both in omega arith) in
    need_some (set needed place c.without.result) needed kept place robot
    (take_one needed place robot c.index.result.now c.without.result known c.index.ensures c.without.ensures (subst (λ (m : Marks). is_marked m.needed place robot ≡ true) (sym c.self.view_is) c.requires.there))
    c.without-keepers.result c.without-keepers.type_inv c.requires.robot
    (others_of kept place robot c.index-2.result.now c.without-keepers.result room c.index-2.ensures c.without-keepers.ensures)
    c.self.inside.matrix c.self.invariant

pub invariant_of-self : goal.invariant_of-self
invariant_of-self c =
    let needed : List ℕ = c.self.inside.needed.items in
    let kept : List ℕ = c.self.inside.kept.items in
    let place = c.args.claim.0 in
    let robot = c.args.robot.0 in
    let known = subst (λ (m : Marks). place < length m.needed) (sym c.self.view_is) c.requires.known in
    let room : place < length kept = (let both = c.self.invariant.both in omega arith) in
    need_dropped (set needed place c.without.result) needed kept place robot
    (take_one needed place robot c.index.result.now c.without.result known c.index.ensures c.without.ensures (subst (λ (m : Marks). is_marked m.needed place robot ≡ true) (sym c.self.view_is) c.requires.there))
    c.without-keepers.result c.without-keepers.type_inv c.requires.robot
    (others_of kept place robot c.index-2.result.now c.without-keepers.result room c.index-2.ensures c.without-keepers.ensures)
    c.self.inside.matrix c.lower_row.new.self c.self.invariant c.lower_row.ensures
