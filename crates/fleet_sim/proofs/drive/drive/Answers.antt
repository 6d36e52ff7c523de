use Rattle.std.proofs.Common.{rules, subst, sym}
use Rattle.fleet_sim.specs.Drives.{HasDriven, IsQuietIn}
use Rattle.fleet_sim.proofs.Driving.{IsSound, at_move, at_rest, driven_exact, driven_more, driven_none, missions_still, nearer, on_err}
use Rattle.fleet_sim.proofs.drive.drive.Goals as goal

pub counts_of-requires : goal.counts_of-requires
counts_of-requires c = c.requires

pub returns-in_err-counts-clause-serial : goal.returns-in_err-counts-clause-serial
returns-in_err-counts-clause-serial c = search rules

pub returns-in_err-counts-clause-begun : goal.returns-in_err-counts-clause-begun
returns-in_err-counts-clause-begun c = on_err _ (driven_none c.args.missions.now c.args.fleet.now)

pub serial-init : goal.serial-init
serial-init c = record { driven = driven_none c.args.missions.now c.args.fleet.now; missions = c.requires; counts = c.in_ok-counts.ensures }

pub advance-requires-clause-missions : goal.advance-requires-clause-missions
advance-requires-clause-missions c = c.serial.invariant.missions

pub advance-requires-clause-counts : goal.advance-requires-clause-counts
advance-requires-clause-counts c = c.serial.invariant.counts

pub returns-in_err-moved-clause-serial : goal.returns-in_err-moved-clause-serial
returns-in_err-moved-clause-serial c = search rules

pub returns-in_err-moved-clause-begun : goal.returns-in_err-moved-clause-begun
returns-in_err-moved-clause-begun c = on_err _ (subst (HasDriven c.args.missions.now c.args.fleet.now) (sym c.in_err-moved.ensures.err) c.serial.invariant.driven)

pub returns-then-not-moved-clause-serial : goal.returns-then-not-moved-clause-serial
returns-then-not-moved-clause-serial c =
    let e = at_rest c.args.missions.now c.serial.fleet c.advance.new.fleet c.in_ok-moved.moved c.if-not-moved.true c.in_ok-moved.ensures.advanced in
    let k = c.journal-opened.ensures in
    let is : IsSound c.args.fleet.now = record { site = k.site; opening = k.opening; legal = k.legal } in
    driven_exact c.args.missions.now c.args.fleet.now c.advance.new.fleet is (subst (HasDriven c.args.missions.now c.args.fleet.now) (sym e.0) c.serial.invariant.driven) (subst (λ b. IsQuietIn b c.args.missions.now) (sym e.0) e.1)

pub returns-then-not-moved-clause-begun : goal.returns-then-not-moved-clause-begun
returns-then-not-moved-clause-begun c = search rules

pub serial-smaller : goal.serial-smaller
serial-smaller c =
    let w = at_move c.args.missions.now c.serial.fleet c.advance.new.fleet c.in_ok-moved.moved c.if-not-moved.false c.in_ok-moved.ensures.advanced in
    let k = c.journal-kept.ensures in
    nearer c.args.missions.now c.serial.fleet c.advance.new.fleet w k.state k.count

pub serial-preserved : goal.serial-preserved
serial-preserved c =
    let w = at_move c.args.missions.now c.serial.fleet c.advance.new.fleet c.in_ok-moved.moved c.if-not-moved.false c.in_ok-moved.ensures.advanced in
    record {
      driven = driven_more c.args.missions.now c.args.fleet.now c.serial.fleet c.advance.new.fleet c.serial.invariant.driven w;
      missions = missions_still c.args.missions.now c.serial.fleet c.advance.new.fleet _ w.adds c.serial.invariant.missions;
      counts = c.in_ok-moved.ensures.counts;
    }
