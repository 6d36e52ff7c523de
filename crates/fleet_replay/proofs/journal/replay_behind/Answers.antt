use Rattle.std.proofs.Common.{subst, arith}
use Rattle.fleet_base.specs.declared.limits.TheConstants.{MAX_CAP}
use Rattle.fleet_model.specs.States.{State, start_state}
use Rattle.plan_journal.specs.Reading.{journal_of}
use Rattle.site_map.specs.Claims.{site_of}
use Rattle.fleet_replay.specs.Stops.{Fails, run_of}
use Rattle.fleet_replay.proofs.Journals.{fault_in}
use Rattle.fleet_replay.proofs.Stops.{bad_line}
use Rattle.fleet_replay.proofs.journal.replay_behind.Goals as goal

pub numbered-requires : goal.numbered-requires
numbered-requires c = λ at is.
    let opening : State = start_state (site_of c.args.site) c.args.starts.now MAX_CAP in
    let read = journal_of c.args.names.now c.args.text.now in
    let line = fault_in c.args.names.now c.args.text.now at (bad_line opening read at (subst (λ refused. Fails refused (run_of opening read)) is c.in-Err.ensures.is)) in
    omega (arith, line, c.requires.short)
