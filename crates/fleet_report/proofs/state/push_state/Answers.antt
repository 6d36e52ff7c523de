use Rattle.std.proofs.Common.{length, ap, sym, ◌∙◌}
use Rattle.std.proofs.lemmas.Result.{on_ok_weaker}
use Rattle.coordinator.specs.Books.{state_of}
use Rattle.fleet_report.proofs.Counts.{entries_counted, unfinished_few}
use Rattle.fleet_report.proofs.Lines.{state_whole}
use Rattle.fleet_report.proofs.state.push_state.Goals as goal

pub push_robots-requires : goal.push_robots-requires
push_robots-requires c =
    let kept = c.journal.ensures in
    record { few = unfinished_few c.args.fleet.now kept.site kept.opening kept.legal kept.state }

pub returns-clause-ok : goal.returns-clause-ok
returns-clause-ok c =
    let kept = c.journal.ensures in
    let book = c.args.fleet.now in
    let counted = entries_counted book kept.site kept.opening kept.legal kept.state in
    on_ok_weaker c.push_end.result (λ ends.
    state_whole c.args.names.now book.site (state_of book) (length c.journal.result.now) c.next_number.result.0
    c.args.text.now.items c.push_header.new.text.items c.push_robots.new.text.items c.push_end.new.text.items
    (ap length kept.entries ∙ sym counted) c.next_number.ensures c.in_ok-push_header.ensures.ok c.in_ok-push_robots.ensures.ok ends)
    c.push_end.ensures.ok
