use Rattle.std.proofs.Common.{◌≡◌, refl, codes, arith, rules}
use Rattle.std.proofs.lemmas.Slice.Eq.{text_from_reads}
use Rattle.fleet_commands.proofs.keyword.keyword_of.Goals as goal

pub returns-in-propose : goal.returns-in-propose
returns-in-propose c =
    let is : c.args.word.now ≡ codes "propose" = text_from_reads c.args.word.now (codes "propose") (omega arith) (search rules) in
    rw is refl

pub returns-in-cancel : goal.returns-in-cancel
returns-in-cancel c =
    let is : c.args.word.now ≡ codes "cancel" = text_from_reads c.args.word.now (codes "cancel") (omega arith) (search rules) in
    rw is refl

pub returns-in-withdraw : goal.returns-in-withdraw
returns-in-withdraw c =
    let is : c.args.word.now ≡ codes "withdraw" = text_from_reads c.args.word.now (codes "withdraw") (omega arith) (search rules) in
    rw is refl

pub returns-in-replan : goal.returns-in-replan
returns-in-replan c =
    let is : c.args.word.now ≡ codes "replan" = text_from_reads c.args.word.now (codes "replan") (omega arith) (search rules) in
    rw is refl

pub returns-in-report : goal.returns-in-report
returns-in-report c =
    let is : c.args.word.now ≡ codes "report" = text_from_reads c.args.word.now (codes "report") (omega arith) (search rules) in
    rw is refl
