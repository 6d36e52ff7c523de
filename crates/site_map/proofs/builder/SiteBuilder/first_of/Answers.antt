use Rattle.std.proofs.Common.{◌<◌, length, map, ap, arith}
use Rattle.std.proofs.lemmas.List.{length-map}
use Rattle.site_map.specs.Built.{BuiltSite}
use Rattle.site_map.specs.Crossings.{completed}
use Rattle.site_map.proofs.CellLemmas.{read_at}
use Rattle.site_map.proofs.ClaimLemmas.{crossing_claims_front}
use Rattle.site_map.proofs.builder.SiteBuilder.first_of.Goals as goal

pub returns-clause-small : goal.returns-clause-small
returns-clause-small c =
    let within : c.args.crossing < length c.self.inside.crossings.items = omega (arith, ap (λ (s : BuiltSite). length s.crossings) c.self.view_is, c.requires) in
    let all = c.self.invariant.numbered.firsts_are_all in
    let same = length-map c.self.inside.crossings.items completed in
    let known : c.args.crossing < length c.self.inside.firsts.items = omega (arith, all, same) in
    let read = read_at c.self.inside.firsts.items c.args.crossing c.index.result.now 0 known c.index.ensures in
    let is = c.self.invariant.numbered.begun c.args.crossing (omega (arith, same)) in
    let front = crossing_claims_front (map completed c.self.inside.crossings.items) c.args.crossing in
    omega (arith, read, is, front, c.self.invariant.few_claims)
