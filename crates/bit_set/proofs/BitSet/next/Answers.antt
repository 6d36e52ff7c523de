use Rattle.std.proofs.Common.{get_or, ap, sym, ◌∙◌, arith}
use Rattle.std.specs.FinSet.{contains}
use Rattle.bit_set.specs.Marks.{members_of-below}
use Rattle.bit_set.proofs.Members.{is_in-word}
use Rattle.bit_set.proofs.Walks.{passed_first, passed_least, passed_more, passed_none}
use Rattle.bit_set.proofs.BitSet.next.Goals as goal

pub loop-place-init : goal.loop-place-init
loop-place-init g c = passed_first c.args.self.now c.args.from

pub returns-in-Some-clause-member : goal.returns-in-Some-clause-member
returns-in-Some-clause-member g c =
    sym (is_in-word c.self.inside.words c.args.self.now c.loop-place.place c.in-Some.bit c.self.view_is c.in-Some.ensures.below) ∙ c.in-Some.ensures.member

pub returns-in-Some-clause-behind : goal.returns-in-Some-clause-behind
returns-in-Some-clause-behind g c = let behind = c.in-Some.ensures.behind in let low = c.loop-place.invariant.low in omega arith

pub returns-in-Some-clause-least : goal.returns-in-Some-clause-least
returns-in-Some-clause-least g c =
    passed_least c.args.self.now c.args.from c.loop-place.low c.loop-place.place (get_or c.self.inside.words c.loop-place.place 0)
    (λ i. is_in-word c.self.inside.words c.args.self.now c.loop-place.place i c.self.view_is)
    c.in-Some.bit c.in-Some.ensures.below c.in-Some.ensures.least c.loop-place.invariant

pub loop-place-preserved : goal.loop-place-preserved
loop-place-preserved g c =
    passed_more c.args.self.now c.args.from c.loop-place.low c.loop-place.place (get_or c.self.inside.words c.loop-place.place 0)
    (λ i. is_in-word c.self.inside.words c.args.self.now c.loop-place.place i c.self.view_is)
    c.in_default.ensures.none c.loop-place.invariant

pub returns-clause-none : goal.returns-clause-none
returns-clause-none g c =
    passed_none c.args.self.now c.args.from c.loop-place.low c.loop-place.place
    (λ n member. let below = members_of-below c.self.inside.words n (ap (λ s. contains s n) c.self.view_is ∙ member) in let all = c.self.invariant.long in omega arith)
    c.loop-place.invariant
