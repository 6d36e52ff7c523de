use Rattle.std.proofs.Common.{◌∙◌, sym, arith}
use Rattle.std.proofs.lemmas.Bool.{and_from}
use Rattle.std.specs.FinSet.{contains}
use Rattle.fleet_model.specs.Sites.{in_conflict}
use Rattle.site_map.specs.Claims.{site_of}
use Rattle.plan_events.specs.Spots.{shown}
use Rattle.plan_events.proofs.Finding.{against_none, against_some}
use Rattle.plan_events.proofs.clash.holds_against.Goals as goal

pub returns-then-conflict : goal.returns-then-conflict
returns-then-conflict c =
    let site = site_of c.args.site.now in
    let number = c.loop-number.number in
    let groups = c.claim_count-number-end.ensures.groups in
    sym (against_some site (shown c.args.spot.now) c.args.claim number (omega arith)
    (and_from (contains c.args.spot.now.held number) (in_conflict site.groups c.args.claim (record { 0 = number })) (sym c.contains.ensures.found ∙ c.if-contains.true) (sym c.conflict.ensures.conflict ∙ c.if-conflict.true)))

pub returns : goal.returns
returns c =
    let groups = c.claim_count-number-end.ensures.groups in
    sym (against_none (site_of c.args.site.now) (shown c.args.spot.now) c.args.claim (λ n l. c.loop-number.invariant n (omega arith)))
