use Rattle.std.proofs.Common.{sym}
use Rattle.form_base.specs.Forms.{due_view}
use Rattle.fleet_cli.specs.Forms.{form_asked}
use Rattle.fleet_cli.proofs.Words.{unknown_ready}
use Rattle.fleet_cli.proofs.reply.ready.Goals as goal

pub returns-in_ok-usage-in-None-clause-due : goal.returns-in_ok-usage-in-None-clause-due
returns-in_ok-usage-in-None-clause-due g c =
    unknown_ready (form_asked c.args.words.now) (g.S.Source.left c.args.source.now) (due_view c.in_ok-usage-in-None.field-0) (sym c.in-None.ensures) c.in_ok-usage-in-None.ensures
