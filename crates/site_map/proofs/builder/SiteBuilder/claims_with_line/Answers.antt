use Rattle.std.proofs.Common.{◌≡◌, ◌<◌, ◌+◌, ◌-◌, [], length, map, set, sym, subst, arith}
use Rattle.site_map.specs.Built.{BuiltSite, crossing_at}
use Rattle.site_map.specs.Crossings.{completed, crossing_claims, with_line}
use Rattle.site_map.proofs.BuilderLemmas.{claims_with_line}
use Rattle.site_map.proofs.builder.SiteBuilder.claims_with_line.Goals as goal

pub overflow_sub-result : goal.overflow_sub-result
overflow_sub-result c =
    let within = subst (λ (s : BuiltSite). c.args.crossing < length s.crossings) (sym c.self.view_is) c.requires.known in
    let counts = claims_with_line _ _ _ _ _ _ _ c.self.invariant c.args.crossing c.index-changed.result.now [] within c.index-changed.ensures in
    omega (arith, counts.0, c.claim_count.ensures, c.len.ensures)

pub overflow_add-result : goal.overflow_add-result
overflow_add-result c =
    let within = subst (λ (s : BuiltSite). c.args.crossing < length s.crossings) (sym c.self.view_is) c.requires.known in
    let line = c.requires.members in
    let counts = claims_with_line _ _ _ _ _ _ _ c.self.invariant c.args.crossing c.index-changed.result.now line.0 within c.index-changed.ensures in
    omega (arith, counts.0, counts.1, c.claim_count.ensures, c.claim_count_with.ensures line.0 line.1, c.len.ensures, c.self.invariant.numbered.owners_are_all, c.self.invariant.few_claims)

pub returns : goal.returns
returns c = λ line is.
    let within = subst (λ (s : BuiltSite). c.args.crossing < length s.crossings) (sym c.self.view_is) c.requires.known in
    let counts = claims_with_line _ _ _ _ _ _ _ c.self.invariant c.args.crossing c.index-changed.result.now line within c.index-changed.ensures in
    subst (λ (s : BuiltSite). c.len.result - c.claim_count.result + c.claim_count_with.result ≡ crossing_claims (map completed (set s.crossings c.args.crossing (with_line (crossing_at s c.args.crossing) line)))) c.self.view_is
    (omega (arith, counts.0, counts.2, c.claim_count.ensures, c.claim_count_with.ensures line is, c.len.ensures))
