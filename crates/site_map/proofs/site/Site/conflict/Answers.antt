use Rattle.std.proofs.Common.{Option, Some, eqb, ap, sym, ◌∙◌}
use Rattle.std.specs.List.{slice_get}
use Rattle.fleet_base.specs.declared.numbers.ClaimGroup.{ClaimGroup}
use Rattle.fleet_model.specs.Sites.{exclude, in_conflict}
use Rattle.site_map.specs.Claims.{groups_of}
use Rattle.site_map.proofs.SiteLemmas.{conflict_turned}
use Rattle.site_map.proofs.site.Site.conflict.Goals as goal

pub returns-clause-conflict : goal.returns-clause-conflict
unfolding in_conflict
returns-clause-conflict c =
    c.exclude.ensures
    ∙ ap (λ (o : Option ClaimGroup). exclude o (Some c.group-2.result) (eqb c.args.one.0 c.args.other.0)) (sym c.group.ensures)
    ∙ ap (λ (o : Option ClaimGroup). exclude (slice_get (groups_of c.args.self.now) c.args.one.0) o (eqb c.args.one.0 c.args.other.0)) (sym c.group-2.ensures)

pub returns-clause-symmetric : goal.returns-clause-symmetric
returns-clause-symmetric c = returns-clause-conflict c ∙ conflict_turned (groups_of c.args.self.now) c.args.one c.args.other
