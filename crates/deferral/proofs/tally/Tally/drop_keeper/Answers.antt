use Rattle.std.proofs.Common.{◌≡◌, ◌<◌, ℕ, List, length, set, sym, subst, true, arith, ◌∙◌, length-set}
use Rattle.deferral.specs.Tallies.{Marks, is_marked}
use Rattle.deferral.proofs.Tallied.{keeper_some, keeper_dropped, take_one, others_of}
use Rattle.deferral.proofs.tally.Tally.drop_keeper.Goals as goal

pub lower_column-requires-clause-some : goal.lower_column-requires-clause-some
lower_column-requires-clause-some c =
    let needed : List ℕ = c.self.inside.needed.items in
    let kept : List ℕ = c.self.inside.kept.items in
    let place = c.args.claim.0 in
    let robot = c.args.robot.0 in
    let known = subst (λ (m : Marks). place < length m.kept) (sym c.self.view_is) c.requires.known in
    let room : place < length needed = (let both = c.self.invariant.both in omega arith) in
    keeper_some (set kept place c.without.result) kept needed place robot
    (take_one kept place robot c.index.result.now c.without.result known c.index.ensures c.without.ensures (subst (λ (m : Marks). is_marked m.kept place robot ≡ true) (sym c.self.view_is) c.requires.there))
    c.without-waiting.result c.without-waiting.type_inv c.requires.robot
    (others_of needed place robot c.index-2.result.now c.without-waiting.result room c.index-2.ensures c.without-waiting.ensures)
    (sym c.self.invariant.both ∙ sym (length-set kept place c.without.result))
    c.self.inside.matrix c.self.invariant

pub invariant_of-self : goal.invariant_of-self
invariant_of-self c =
    let needed : List ℕ = c.self.inside.needed.items in
    let kept : List ℕ = c.self.inside.kept.items in
    let place = c.args.claim.0 in
    let robot = c.args.robot.0 in
    let known = subst (λ (m : Marks). place < length m.kept) (sym c.self.view_is) c.requires.known in
    let room : place < length needed = (let both = c.self.invariant.both in omega arith) in
    keeper_dropped (set kept place c.without.result) kept needed place robot
    (take_one kept place robot c.index.result.now c.without.result known c.index.ensures c.without.ensures (subst (λ (m : Marks). is_marked m.kept place robot ≡ true) (sym c.self.view_is) c.requires.there))
    c.without-waiting.result c.without-waiting.type_inv c.requires.robot
    (others_of needed place robot c.index-2.result.now c.without-waiting.result room c.index-2.ensures c.without-waiting.ensures)
    (sym c.self.invariant.both ∙ sym (length-set kept place c.without.result))
    c.self.inside.matrix c.lower_column.new.self c.self.invariant c.lower_column.ensures
