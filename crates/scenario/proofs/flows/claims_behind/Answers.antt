use Rattle.std.proofs.Common.{◌+◌, arith}
use Rattle.site_map.specs.Built.{no_crossing}
use Rattle.scenario.proofs.Prints.{claims_more, claims_upto}
use Rattle.scenario.proofs.flows.claims_behind.Goals as goal

pub prove-unreachable-requires : goal.prove-unreachable-requires
prove-unreachable-requires c =
    let more = claims_more c.args.site.now.crossings c.args.crossing no_crossing c.requires.known in
    let upto = claims_upto c.args.site.now.crossings (c.args.crossing + 1) in
    omega (arith, more, upto, c.requires.first, c.from.ensures, c.from-2.ensures, c.max.ensures, c.crossing_flows.ensures, c.claim_count.ensures.count, c.from-claims.ensures, c.if-prove.true)

pub returns : goal.returns
returns c =
    let more = claims_more c.args.site.now.crossings c.args.crossing no_crossing c.requires.known in
    omega (arith, more, c.requires.first, c.from.ensures, c.from-2.ensures, c.max.ensures, c.crossing_flows.ensures)
