use Rattle.std.proofs.Common.{length, sym, arith}
use Rattle.std.proofs.lemmas.List.Sums.{position_or_len_is}
use Rattle.std.proofs.lemmas.Bool.{false_from_ne_true}
use Rattle.site_lines.specs.Lines.{is_feed}
use Rattle.site_lines.proofs.line.until_feed.Goals as goal

pub returns-in-Some-clause-is : goal.returns-in-Some-clause-is
returns-in-Some-clause-is c =
    let found = c.in-Some.ensures in
    let within = found.0.high in
    sym (position_or_len_is is_feed c.args.bytes.now c.in-Some.place 0 (omega arith) (λ k h. false_from_ne_true _ (found.0.before k (omega arith) h)) (λ _. found.1))

pub returns-in-None-clause-is : goal.returns-in-None-clause-is
returns-in-None-clause-is c = sym (position_or_len_is is_feed c.args.bytes.now (length c.args.bytes.now) 0 (omega arith) (λ k h. false_from_ne_true _ (c.in-None.ensures k (omega arith) h)) (λ h. absurd (omega arith)))
