use Rattle.std.proofs.Common.{◌≡◌, ◌+◌, cond, length, sym, ap, ◌∙◌, arith}
use Rattle.site_map.specs.Crossings.{claim_count_of, completed}
use Rattle.site_map.proofs.CrossingLemmas.{claims_of_kept}
use Rattle.site_map.proofs.crossing.Crossing.claim_count.Goals as goal

pub returns-then-self : goal.returns-then-self
returns-then-self c =
    let count : c.len.result + 1 ≡ length c.self.inside.lines.items + 1 = omega arith in
    count
    ∙ sym (claims_of_kept c.self.inside.cells c.self.inside.lines.items c.self.inside.free c.self.inside.has_rest c.self.invariant
    ∙ ap (λ b. cond b (length c.self.inside.lines.items + 1) (length c.self.inside.lines.items)) c.if-self.true)
    ∙ ap (λ x. claim_count_of (completed x)) c.self.view_is

pub returns-else-self : goal.returns-else-self
returns-else-self c =
    let count : c.len-else-self.result ≡ length c.self.inside.lines.items = omega arith in
    count
    ∙ sym (claims_of_kept c.self.inside.cells c.self.inside.lines.items c.self.inside.free c.self.inside.has_rest c.self.invariant
    ∙ ap (λ b. cond b (length c.self.inside.lines.items + 1) (length c.self.inside.lines.items)) c.if-self.false)
    ∙ ap (λ x. claim_count_of (completed x)) c.self.view_is
