-- For any form, so these stay as they are when a form is added.
use Rattle.std.proofs.Common.{arith}
use Rattle.form_base.specs.declared.report.Ended.TheVariants.{Done}
use Rattle.form_base.proofs.Causes.{told}
use Rattle.fleet_cli.specs.Forms.{Assign, Replay, Script, form_asked}
use Rattle.fleet_cli.proofs.Words.{asked_refused, asked_reported, ends_usage, ends_whole, in_range, told_unknown}
use Rattle.fleet_cli.proofs.top.fleet.Goals as goal

pub returns-clause-told : goal.returns-clause-told
returns-clause-told g c = λ input is one five. told input is (c.run.ensures.answer one five)

pub returns-clause-complete : goal.returns-clause-complete
returns-clause-complete g c = λ input is no_read no_write.
    ends_whole (form_asked c.args.words.now) c.run.result input is (λ five. no_read (c.run.ensures.read_fault five)) (λ six. no_write (c.run.ensures.write_fault six)) c.run.ensures.answer c.run.ensures.status

pub returns-clause-usage : goal.returns-clause-usage
returns-clause-usage g c = λ two. ends_usage (form_asked c.args.words.now) c.run.result two c.run.ensures.status (c.run.ensures.answer (λ one. omega (arith, two, one)) (λ five. omega (arith, two, five)))

pub returns-clause-unknown : goal.returns-clause-unknown
returns-clause-unknown g c = λ none. told_unknown (form_asked c.args.words.now) c.run.result none c.run.ensures.unread c.run.ensures.status

pub returns-clause-refused : goal.returns-clause-refused
returns-clause-refused g c = λ form input asked is three.
    asked_refused (form_asked c.args.words.now) c.run.result form input asked is three (c.run.ensures.answer (λ one. omega (arith, three, one)) (λ five. omega (arith, three, five)))

pub returns-clause-reported : goal.returns-clause-reported
returns-clause-reported g c = λ form input ended asked is ends. asked_reported (form_asked c.args.words.now) c.run.result form input ended asked is ends c.run.ensures.answer

pub returns-clause-sound : goal.returns-clause-sound
returns-clause-sound g c = λ input asked is zero. asked_reported (form_asked c.args.words.now) c.run.result Script input Done asked is zero c.run.ensures.answer

pub returns-clause-replayed : goal.returns-clause-replayed
returns-clause-replayed g c = λ input asked is zero. asked_reported (form_asked c.args.words.now) c.run.result Replay input Done asked is zero c.run.ensures.answer

pub returns-clause-assigned : goal.returns-clause-assigned
returns-clause-assigned g c = λ input asked is zero. asked_reported (form_asked c.args.words.now) c.run.result Assign input Done asked is zero c.run.ensures.answer

pub returns-clause-range : goal.returns-clause-range
returns-clause-range g c = in_range (form_asked c.args.words.now) c.run.result c.run.ensures.status
