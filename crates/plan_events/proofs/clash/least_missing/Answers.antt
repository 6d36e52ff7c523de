use Rattle.std.proofs.Common.{sym, ◌∙◌, arith}
use Rattle.fleet_base.specs.declared.numbers.ClaimNo.{ClaimNo}
use Rattle.plan_events.specs.Spots.{shown}
use Rattle.plan_events.proofs.Missing.{first_missing, missing_known, none_missing}
use Rattle.plan_events.proofs.clash.least_missing.Goals as goal

pub returns-then-is_missing : goal.returns-then-is_missing
returns-then-is_missing c =
    let claim : ClaimNo = record { 0 = c.loop-number.number } in
    sym (first_missing (shown c.args.spot.now) c.args.left.now c.args.entered.now claim (sym c.is_missing.ensures ∙ c.if-is_missing.true) c.loop-number.invariant)

pub returns : goal.returns
returns c =
    sym (none_missing (shown c.args.spot.now) c.args.left.now c.args.entered.now c.loop-number.number
    (λ k t. let known = missing_known (shown c.args.spot.now) c.args.left.now c.args.entered.now c.requires.left c.requires.entered k t in omega arith) c.loop-number.invariant)
