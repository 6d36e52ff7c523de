use Rattle.std.proofs.Common.{◌∙◌, ap, subst, sym}
use Rattle.std.specs.Prelude.{IfOk}
use Rattle.std.specs.Option.{option_map}
use Rattle.fleet_calls.specs.Calls.{call_of}
use Rattle.coordinator.specs.Books.{state_of}
use Rattle.fleet_sim.specs.Drives.{WentOn}
use Rattle.fleet_sim.proofs.Acting.{entry_by, stayed}
use Rattle.fleet_sim.proofs.going.go_on.Goals as goal

pub returns-in-Some-clause-went : goal.returns-in-Some-clause-went
returns-in-Some-clause-went c =
    let book = c.args.fleet.now in
    subst (λ o. IfOk c.make.result (WentOn o book c.make.new.fleet))
    (entry_by (state_of book) c.args.robot.0 book.site c.args.leg (call_of book.site c.in-Some.request) (ap (option_map (call_of book.site)) (sym c.in-Some.is) ∙ c.in_ok-asked.ensures.act))
    c.make.ensures.went

pub returns-in-None-clause-went : goal.returns-in-None-clause-went
returns-in-None-clause-went c =
    let book = c.args.fleet.now in
    stayed (state_of book) c.args.robot.0 book.site c.args.leg book (ap (option_map (call_of book.site)) (sym c.in-None.is) ∙ c.in_ok-asked.ensures.act)
