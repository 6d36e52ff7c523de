use Rattle.std.proofs.Common.{ap, sym, subst, ◌∙◌, ◌*◌, ◌<◌}
use Rattle.std.specs.FinSet.{contains}
use Rattle.bit_set.specs.Marks.{contains-members_of, members_of-below}
use Rattle.bit_set.proofs.Members.{is_marked-and}
use Rattle.bit_set.proofs.BitSet.contains.Goals as goal

pub returns-clause-found : goal.returns-clause-found
returns-clause-found g c =
    is_marked-and c.self.inside.words c.args.number
    ∙ sym (contains-members_of c.self.inside.words c.args.number)
    ∙ ap (λ s. contains s c.args.number) c.self.view_is

pub returns-clause-bound : goal.returns-clause-bound
returns-clause-bound g c = λ n e. subst (λ l. n < 64 * l) c.self.told (members_of-below c.self.inside.words n (ap (λ s. contains s n) c.self.view_is ∙ e))
