use Rattle.std.proofs.Common.{List, ℕ, true, false, sym, subst}
use Rattle.form_base.specs.Runs.{IsTaken}
use Rattle.form_base.proofs.Taking.{big_taken, none_taken}
use Rattle.form_base.proofs.reading.read_input.Goals as goal

pub returns-in-Some-clause-big : goal.returns-in-Some-clause-big
returns-in-Some-clause-big g c = λ big.
    subst (λ l. (seen : List ℕ) × IsTaken true l (g.S.Source.left c.args.source.now) (g.S.Source.left c.read_all.new.source) seen) (sym c.in-Some.is)
    (big_taken c.in-Some.most (g.S.Source.left c.args.source.now) (g.S.Source.left c.read_all.new.source) (c.read_all.ensures.big big))

pub returns-in-None-clause-seen : goal.returns-in-None-clause-seen
returns-in-None-clause-seen g c =
    subst (λ l. IsTaken false l (g.S.Source.left c.args.source.now) (g.S.Source.left c.args.source.now) c.new.result.items) (sym c.in-None.is)
    (none_taken (g.S.Source.left c.args.source.now) c.new.result.items c.new.ensures.items)
