use Rattle.std.proofs.Common.{arith}
use Rattle.std.proofs.lemmas.Bool.{both_ways}
use Rattle.fleet_base.specs.EdgeSets.{leads}
use Rattle.cycle_cert.proofs.Bits.{both_member, if_none, member_both}
use Rattle.cycle_cert.proofs.rows.next_in.Goals as goal

pub returns-in_err-next-clause-none : goal.returns-in_err-next-clause-none
returns-in_err-next-clause-none c =
    let edge = leads c.args.edges.now in
    if_none c.from_residual.result
    (λ i. both_ways _ (c.in_err-next.ensures.none i.over (omega arith)) (member_both edge c.row.result c.args.set c.args.at.0 i.over c.row.ensures i.leads i.member))

pub returns-clause-follows : goal.returns-clause-follows
returns-clause-follows c = (both_member (leads c.args.edges.now) c.row.result c.args.set c.args.at.0 c.in_ok-next.next c.row.ensures c.in_ok-next.ensures.member).0

pub returns-clause-inside : goal.returns-clause-inside
returns-clause-inside c = (both_member (leads c.args.edges.now) c.row.result c.args.set c.args.at.0 c.in_ok-next.next c.row.ensures c.in_ok-next.ensures.member).1

pub returns-clause-least : goal.returns-clause-least
returns-clause-least c = λ m follows inside.
    c.in_ok-next.ensures.least m (omega arith) (member_both (leads c.args.edges.now) c.row.result c.args.set c.args.at.0 m c.row.ensures follows inside)
